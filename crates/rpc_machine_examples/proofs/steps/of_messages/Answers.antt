use Rattle.rpc_machine_examples.proofs.ReceivedSteps.{of_messages}
use Rattle.rpc_machine_examples.proofs.steps.of_messages.Goals as goal

pub returns : goal.returns
returns c = of_messages
