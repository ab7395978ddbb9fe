use Rattle.std.proofs.Common.{refl}
use Rattle.link_rings.proofs.Logging.{shuts}
use Rattle.link_rings.proofs.logged_side.LoggedSide.shut.Goals as goal

pub returns-clause-logs : goal.returns-clause-logs
returns-clause-logs g c =
    shuts g.P.Party.down_by g.P.Party.input g.P.Party.sends g.P.Party.step _ _ _ c.shut-note.result
    c.shut-note.ensures
    (rw (c.push_reserved.ensures.items, c.made-first.ensures, c.heard-heard.ensures) refl)
