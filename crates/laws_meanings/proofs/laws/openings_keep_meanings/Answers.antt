use Rattle.laws_meanings.proofs.OpensMean.{openings_mean}
use Rattle.laws_meanings.proofs.laws.openings_keep_meanings.Goals as goal

pub returns : goal.returns
returns c = openings_mean
