use Rattle.laws_meanings.proofs.ActsMean.{acts_mean}
use Rattle.laws_meanings.proofs.laws.acts_keep_meanings.Goals as goal

pub returns : goal.returns
returns c = acts_mean
