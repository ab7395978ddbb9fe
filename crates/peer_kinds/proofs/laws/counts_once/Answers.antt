use Rattle.peer_kinds.proofs.Counting.{counts}
use Rattle.peer_kinds.proofs.laws.counts_once.Goals as goal

pub returns : goal.returns
returns c = λ stands w e. counts stands e w
