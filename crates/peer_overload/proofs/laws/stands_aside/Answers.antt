use Rattle.peer_overload.proofs.Aside.{heard}
use Rattle.peer_overload.proofs.laws.stands_aside.Goals as goal

pub returns : goal.returns
returns c = heard
