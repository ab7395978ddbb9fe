use Rattle.laws_meanings.proofs.CommandsMean.{first_acts_mean}
use Rattle.laws_meanings.proofs.OpensMean.{first_openings_mean}
use Rattle.laws_meanings.proofs.laws.first_acts_of_commands_mean.Goals as goal

pub returns-clause-plain : goal.returns-clause-plain
returns-clause-plain c = first_acts_mean

pub returns-clause-openings : goal.returns-clause-openings
returns-clause-openings c = first_openings_mean
