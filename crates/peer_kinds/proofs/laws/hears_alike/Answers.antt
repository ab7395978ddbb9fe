use Rattle.peer_kinds.proofs.Settled.{all_settled}
use Rattle.peer_kinds.proofs.laws.hears_alike.Goals as goal

pub returns : goal.returns
returns c = all_settled
