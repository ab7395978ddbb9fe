use Rattle.std.proofs.Common.{◌∙◌}
use Rattle.rpc_machine.specs.declared.command.Command.TheVariants as command
use Rattle.rpc_machine.specs.declared.command.Granted.TheVariants as granted
use Rattle.core_store.specs.Holding.{state_of}
use Rattle.core_step.specs.InProgress.{progress_of}
use Rattle.core_steps.proofs.Answered.{ended, fell}
use Rattle.core_steps.proofs.promises.resolve.Goals as goal

pub returns-in_default-clause-obeys : goal.returns-in_default-clause-obeys
returns-in_default-clause-obeys c =
    fell (state_of c.args.machine.now.step.store) (command.Resolve c.args.promise c.args.reference) c.fall_for_room.result (state_of c.fall_for_room.new.machine.step.store) c.requires.allowed tt c.fall_for_room.ensures.effects
    (c.fall_for_room.ensures.state ∙ c.named_of-named.ensures 33)

pub returns-clause-obeys : goal.returns-clause-obeys
returns-clause-obeys c =
    ended (state_of c.args.machine.now.step.store) (command.Resolve c.args.promise c.args.reference) granted.Done (progress_of c.resolve_whole-ended.new.step) c.end_settled.result (state_of c.end_settled.new.step.store) c.requires.allowed c.in-Ok.ensures.done
    c.end_settled.ensures.ends c.end_settled.ensures.idle.sound.within
