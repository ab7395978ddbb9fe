use Rattle.laws_meanings.proofs.CommandsMean.{commands_mean}
use Rattle.laws_meanings.proofs.laws.commands_keep_meanings.Goals as goal

pub returns : goal.returns
returns c = commands_mean
