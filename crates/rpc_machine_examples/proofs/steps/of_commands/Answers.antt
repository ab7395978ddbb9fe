use Rattle.rpc_machine_examples.proofs.SingleSteps.{of_commands}
use Rattle.rpc_machine_examples.proofs.steps.of_commands.Goals as goal

pub returns : goal.returns
returns c = of_commands
