use Rattle.capn_fronts.proofs.Held.{keeps}
use Rattle.capn_fronts.proofs.laws.keeps_the_front.Goals as goal

pub returns : goal.returns
returns c = keeps
