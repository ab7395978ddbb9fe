use Rattle.std.proofs.Common.{refl}
use Rattle.link_rings.proofs.Logging.{commands}
use Rattle.link_rings.proofs.logged_side.LoggedSide.obey.Goals as goal

pub returns-clause-commands : goal.returns-clause-commands
returns-clause-commands g c =
    commands g.P.Party.down_by g.P.Party.input g.P.Party.sends g.P.Party.step g.P.Party.answers _ _ c.args.command c.is_ok-room.result c.obey-note.result.1 c.obey-note.result.0
    c.obey-note.ensures.obeys c.obey-note.ensures.answers
    (rw (c.push_reserved.ensures.items, c.reserve.ensures.items, c.made-first.ensures, c.heard-heard.ensures) refl)
