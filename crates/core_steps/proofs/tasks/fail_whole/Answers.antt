use Rattle.rpc_machine.specs.declared.command.Command.TheVariants as command
use Rattle.rpc_machine.specs.declared.command.Granted.TheVariants as granted
use Rattle.core_store.specs.Holding.{state_of}
use Rattle.core_step.specs.InProgress.{progress_of}
use Rattle.core_steps.proofs.Answered.{settled}
use Rattle.core_steps.proofs.tasks.fail_whole.Goals as goal

pub returns-clause-done : goal.returns-clause-done
returns-clause-done c =
    settled (state_of c.args.step.now.store) (command.Fail c.args.task c.args.exception) granted.Done (progress_of c.begin.new.step) (progress_of c.fail.new.step) (progress_of c.settle_step.new.step) c.in_ok-begin.ensures.begun c.in_ok-fail.ensures.acts
    c.in_ok-settle_step.ensures.drained
