use Rattle.laws_meanings.proofs.HeardMeans.{messages_mean}
use Rattle.laws_meanings.proofs.laws.messages_keep_meanings.Goals as goal

pub returns : goal.returns
returns c = messages_mean
