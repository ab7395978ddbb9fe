use Rattle.core_store.specs.Holding.{state_of}
use Rattle.core_step.specs.InProgress.{progress_of}
use Rattle.core_steps.proofs.Received.{settled}
use Rattle.core_steps.proofs.messages.receive_whole.Goals as goal

pub returns-clause-done : goal.returns-clause-done
returns-clause-done c =
    settled (state_of c.args.step.now.store) c.args.message (progress_of c.begin.new.step) (progress_of c.take_message.new.step) (progress_of c.settle_step.new.step) c.in-Ok.ensures.begun
    c.in_ok-take_message.ensures.takes c.in-Ok-settle_step.ensures.drained
