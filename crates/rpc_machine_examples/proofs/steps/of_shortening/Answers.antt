use Rattle.rpc_machine_examples.proofs.Shortening.{is_shortened}
use Rattle.rpc_machine_examples.proofs.steps.of_shortening.Goals as goal

pub returns : goal.returns
returns c = is_shortened
