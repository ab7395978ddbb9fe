use Rattle.core_step_checks.proofs.InTurn.{flags_in_turn}
use Rattle.core_step_checks.proofs.laws.flags_in_turn.Goals as goal

pub returns : goal.returns
returns c = flags_in_turn
