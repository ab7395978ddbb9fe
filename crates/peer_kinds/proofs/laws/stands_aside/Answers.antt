use Rattle.peer_kinds.proofs.Aside.{all_alike}
use Rattle.peer_kinds.proofs.laws.stands_aside.Goals as goal

pub returns : goal.returns
returns c = all_alike
