use Rattle.std.proofs.Common.{ℕ, sym, subst}
use Rattle.rpc_machine.specs.declared.command.Effects.{Effects}
use Rattle.rpc_machine.specs.Numbers.{want_of_room}
use Rattle.rpc_machine.specs.Down.{ShutsFrom}
use Rattle.vat_world.specs.Rooms.{stage_of}
use Rattle.vat_world.proofs.Telling.{overflow_down, overflow_up}
use Rattle.vat_world.proofs.log.log_overflow.Goals as goal

pub returns-in-Some-clause-overflows : goal.returns-in-Some-clause-overflows
returns-in-Some-clause-overflows c =
    λ before more j l. overflow_down c.args.vat (stage_of c.args.acting.now c.args.peer.now c.args.journal.now) _ _ before more c.args.start _ _ _ _
    (sym c.in-Some.ensures) c.truncate.ensures.entries c.log_fall.ensures.stage c.log_fall.ensures.given j l

pub returns-clause-overflows : goal.returns-clause-overflows
returns-clause-overflows c =
    λ before more j l. overflow_up c.args.vat (stage_of c.args.acting.now c.args.peer.now c.args.journal.now) _ _ before more c.args.start _ _ _ _ _
    (sym c.in_default.ensures)
    (subst (λ (x : Effects). ShutsFrom c.args.acting.now.core want_of_room c.args.acting.now.core.down x c.shut.new.self) (sym c.replace.ensures.after)
    (subst (λ (n : ℕ). ShutsFrom c.args.acting.now.core n c.args.acting.now.core.down c.shut.result c.shut.new.self) c.code-number.ensures c.shut.ensures))
    c.truncate.ensures.entries c.log_fall-2.ensures.stage c.log_fall-2.ensures.given j l
