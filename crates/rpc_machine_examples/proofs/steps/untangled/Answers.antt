use Rattle.rpc_machine_examples.proofs.Circles.{is_untangled}
use Rattle.rpc_machine_examples.proofs.steps.untangled.Goals as goal

pub returns : goal.returns
returns c = is_untangled
