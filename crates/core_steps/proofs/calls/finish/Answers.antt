use Rattle.rpc_machine.specs.declared.command.Command.TheVariants as command
use Rattle.rpc_machine.specs.declared.command.Granted.TheVariants as granted
use Rattle.core_store.specs.Holding.{state_of}
use Rattle.core_step.specs.InProgress.{progress_of}
use Rattle.core_steps.proofs.Answered.{ended}
use Rattle.core_steps.proofs.calls.finish.Goals as goal

pub returns-clause-obeys : goal.returns-clause-obeys
returns-clause-obeys c =
    ended (state_of c.args.machine.now.step.store) (command.Finish c.args.id) granted.Done (progress_of c.finish_whole.new.step) c.end_settled.result (state_of c.end_settled.new.step.store) c.requires.allowed c.in_ok-finish_whole.ensures.done
    c.end_settled.ensures.ends c.end_settled.ensures.idle.sound.within
