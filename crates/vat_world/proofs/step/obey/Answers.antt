use Rattle.std.proofs.Common.{◌≡◌, true, is_some}
use Rattle.vat_world.specs.Rooms.{stage_of}
use Rattle.vat_world.proofs.Stepping.{when_down}
use Rattle.vat_world.proofs.step.obey.Goals as goal

pub returns-then-is_some-clause-obeys : goal.returns-then-is_some-clause-obeys
returns-then-is_some-clause-obeys c =
    let a = c.is_some.ensures in
    let b = c.down.ensures in
    let d = c.if-is_some.ensures in
    let e : is_some c.args.acting.now.core.down ≡ true = cc in
    let h = c.obey_down.ensures in
    (h.0, h.1, when_down c.args.vat (stage_of c.args.acting.now c.args.peer.now c.args.journal.now) c.args.command _ _ e h.2)
