use Rattle.rpc_machine_examples.proofs.CheckedMessages.{of_checks}
use Rattle.rpc_machine_examples.proofs.steps.of_checks.Goals as goal

pub returns : goal.returns
returns c = of_checks
