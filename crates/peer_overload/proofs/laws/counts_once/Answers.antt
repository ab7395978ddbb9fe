use Rattle.std.proofs.Common.{refl}
use Rattle.peer_overload.proofs.Counting.{came}
use Rattle.peer_overload.proofs.laws.counts_once.Goals as goal

pub returns : goal.returns
returns c = record { came = λ s is_full w e. came s e is_full w; refused = λ q. refl }
