use Rattle.laws_meanings.proofs.Unsettled.{promises_open}
use Rattle.laws_meanings.proofs.laws.promises_are_settled_once.Goals as goal

pub returns : goal.returns
returns c = promises_open
