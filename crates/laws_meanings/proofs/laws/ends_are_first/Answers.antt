use Rattle.laws_meanings.proofs.Ending.{ends_first}
use Rattle.laws_meanings.proofs.laws.ends_are_first.Goals as goal

pub returns : goal.returns
returns c = ends_first c.all_at_most_once.ensures
