use Rattle.laws_numbers_hidden.proofs.Stepping.{steps_hide}
use Rattle.laws_numbers_hidden.proofs.laws.steps_hide_numbers.Goals as goal

pub returns : goal.returns
returns c = steps_hide
