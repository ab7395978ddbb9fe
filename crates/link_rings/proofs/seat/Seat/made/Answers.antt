use Rattle.std.proofs.Common.{ap, ◌∙◌}
use Rattle.laws_merge.specs.Logs.{made_by}
use Rattle.link_rings.specs.Logs.{log_of, framed}
use Rattle.link_rings.proofs.seat.Seat.made.Goals as goal

pub returns-clause-all : goal.returns-clause-all
returns-clause-all g c =
    let m = g.P.Party in
    ap framed c.frames.ensures
    ∙ (((c.self.invariant.0).all_made)
    ∙ ap (λ v. made_by (log_of m.input m.sends m.step v.log)) c.self.view_is)
