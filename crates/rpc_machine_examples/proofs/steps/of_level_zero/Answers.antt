use Rattle.rpc_machine_examples.proofs.LevelZero.{is_level_zero}
use Rattle.rpc_machine_examples.proofs.steps.of_level_zero.Goals as goal

pub returns : goal.returns
returns c = is_level_zero
