use Rattle.std.proofs.Common.{refl}
use Rattle.link_rings.proofs.Logging.{takes}
use Rattle.link_rings.proofs.logged_side.LoggedSide.receive.Goals as goal

pub returns-clause-takes : goal.returns-clause-takes
returns-clause-takes g c =
    takes g.P.Party.down_by g.P.Party.input g.P.Party.sends g.P.Party.step g.P.Party.tells _ _ c.args.frame c.is_ok-room.result c.receive-note.result.0 c.receive-note.result.1 c.hear.new.self
    c.hear.ensures c.receive-note.ensures.receives c.receive-note.ensures.up c.receive-note.ensures.told c.receive-note.ensures.fell c.requires.seq c.requires.ack
    (rw (c.push_reserved.ensures.items, c.reserve.ensures.items, c.made-first.ensures, c.heard-heard.ensures) refl)
