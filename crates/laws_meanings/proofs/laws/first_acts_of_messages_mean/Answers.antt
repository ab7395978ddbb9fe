use Rattle.laws_meanings.proofs.HeardMeans.{consuming_means}
use Rattle.laws_meanings.proofs.laws.first_acts_of_messages_mean.Goals as goal

pub returns : goal.returns
returns c = consuming_means
