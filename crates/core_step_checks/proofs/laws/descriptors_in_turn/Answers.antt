use Rattle.core_step_checks.proofs.InTurn.{descriptors_in_turn}
use Rattle.core_step_checks.proofs.laws.descriptors_in_turn.Goals as goal

pub returns : goal.returns
returns c = descriptors_in_turn
