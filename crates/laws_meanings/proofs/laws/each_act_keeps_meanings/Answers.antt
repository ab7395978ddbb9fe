use Rattle.laws_meanings.proofs.ActsMean.{each_act_means}
use Rattle.laws_meanings.proofs.laws.each_act_keeps_meanings.Goals as goal

pub returns : goal.returns
returns c = each_act_means
