use Rattle.laws_released.proofs.Steps.{stays_released, none_missed}
use Rattle.laws_released.proofs.laws.released_stays.Goals as goal

pub returns-clause-stays : goal.returns-clause-stays
returns-clause-stays c = stays_released

pub returns-clause-missed : goal.returns-clause-missed
returns-clause-missed c = none_missed
