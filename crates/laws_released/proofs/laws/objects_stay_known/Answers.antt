use Rattle.laws_released.proofs.Known.{stays_known, count_tells}
use Rattle.laws_released.proofs.laws.objects_stay_known.Goals as goal

pub returns-clause-steps : goal.returns-clause-steps
returns-clause-steps c = stays_known

pub returns-clause-count : goal.returns-clause-count
returns-clause-count c = count_tells
