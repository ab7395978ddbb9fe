use Rattle.link_rings.specs.LoggedSides.{at}
use Rattle.link_rings.proofs.Holding.{sits_take}
use Rattle.link_rings.proofs.Sitting.{laid_out, taken_back}
use Rattle.link_rings.proofs.seat.Seat.take.Goals as goal

pub invariant_of-self : goal.invariant_of-self
invariant_of-self g c =
    let m = g.P.Party in
    let i = c.self.inside in
    let d = c.take-taken.new.self in
    let start = m.state i.start.value in
    taken_back m.state m.down_by m.input m.sends m.step start d c.take_back.new.self c.take_back.ensures
    (sits_take m.down_by m.input m.sends m.step m.tells start (at m.state (record i.logged { waiting = c.lay_out.new.queue })) (at m.state d) c.args.frame c.take-taken.result
    (laid_out m.state m.down_by m.input m.sends m.step start i.logged c.lay_out.new.queue i.made c.lay_out.ensures c.self.invariant.0) c.take-taken.ensures.takes)
    c.take-taken.ensures.ready

pub invariant_of-self-in-Err : goal.invariant_of-self-in-Err
invariant_of-self-in-Err g c =
    let m = g.P.Party in
    let i = c.self.inside in
    let d = c.take-taken.new.self in
    let start = m.state i.start.value in
    taken_back m.state m.down_by m.input m.sends m.step start d c.take_back.new.self c.take_back.ensures
    (sits_take m.down_by m.input m.sends m.step m.tells start (at m.state (record i.logged { waiting = c.lay_out.new.queue })) (at m.state d) c.args.frame c.take-taken.result
    (laid_out m.state m.down_by m.input m.sends m.step start i.logged c.lay_out.new.queue i.made c.lay_out.ensures c.self.invariant.0) c.take-taken.ensures.takes)
    c.take-taken.ensures.ready
