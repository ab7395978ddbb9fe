use Rattle.std.proofs.Common.{◌++◌, sym, ap, ◌∙◌}
use Rattle.rtrb.specs.Ring.{sent, received, known_items}
use Rattle.link_rings.specs.LoggedSides.{at}
use Rattle.link_rings.proofs.Gathering.{gathered}
use Rattle.link_rings.proofs.gathered.Gathered.of.Goals as goal

pub invariant_of-result : goal.invariant_of-result
invariant_of-result g c =
    let m = g.P.Party in
    let i = c.a.inside in
    let j = c.b.inside in
    let s = c.slots_beside in
    let t = c.slots_beside-2 in
    gathered m.input m.sends m.step (m.state i.start.value) (m.state j.start.value) (m.down_by (m.state i.logged.side)) (m.down_by (m.state j.logged.side)) (at m.state i.logged) (at m.state j.logged)
    (sent i.producer) (received i.consumer) (sent j.producer) (received j.consumer) (known_items s.new.self) (known_items t.new.self)
    c.a.invariant.0 c.a.invariant.1 c.b.invariant.0 c.b.invariant.1
    (ap (λ z. z ++ known_items s.new.self) (sym s.ensures.looked.1) ∙ (s.ensures.fifo ∙ s.ensures.producer.1))
    (ap (λ z. z ++ known_items t.new.self) (sym t.ensures.looked.1) ∙ (t.ensures.fifo ∙ t.ensures.producer.1))
