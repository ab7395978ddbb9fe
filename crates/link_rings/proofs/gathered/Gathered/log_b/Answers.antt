use Rattle.std.proofs.Common.{subst}
use Rattle.link_rings.specs.LoggedSides.{at}
use Rattle.link_rings.specs.Gather.{IsExplained}
use Rattle.link_rings.proofs.Gathering.{explained}
use Rattle.link_rings.proofs.gathered.Gathered.log_b.Goals as goal

pub returns-clause-explained : goal.returns-clause-explained
returns-clause-explained g c =
    let m = g.P.Party in
    let i = c.self.inside in
    subst (λ v. IsExplained m.input m.sends m.step (m.state v.start_a) (m.state v.start_b) (m.state v.side_a) (m.state v.side_b) v.log_a v.log_b) c.self.view_is
    (explained m.input m.sends m.step (m.state i.start_a.value) (m.state i.start_b.value) (at m.state i.a) (at m.state i.b) c.self.invariant)
