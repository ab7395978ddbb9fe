use Rattle.laws_asking.proofs.Stepping.{steps_ask_in_turn}
use Rattle.laws_asking.proofs.laws.steps_ask_in_turn.Goals as goal

pub returns : goal.returns
returns c = steps_ask_in_turn
