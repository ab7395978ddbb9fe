use Rattle.rpc_check.proofs.Evens.{same_everywhere, same_from_everywhere}
use Rattle.rpc_check.proofs.laws.same_for_every_id.Goals as goal

pub returns : goal.returns
returns c = λ xs ys. (same_everywhere xs ys, same_from_everywhere xs ys)
