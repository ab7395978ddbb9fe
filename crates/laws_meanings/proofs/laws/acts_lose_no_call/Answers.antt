use Rattle.laws_meanings.proofs.Losing.{lose_none}
use Rattle.laws_meanings.proofs.laws.acts_lose_no_call.Goals as goal

pub returns : goal.returns
returns c = lose_none
