use Rattle.laws_authority.proofs.Tasks.{at_most_once}
use Rattle.laws_authority.proofs.laws.all_at_most_once.Goals as goal

pub returns : goal.returns
returns c = at_most_once
