use Rattle.peer_finishes.proofs.Aside.{all_go, none_told}
use Rattle.peer_finishes.proofs.laws.stands_aside.Goals as goal

pub returns : goal.returns
returns c = record { goes = all_go; comes = none_told }
