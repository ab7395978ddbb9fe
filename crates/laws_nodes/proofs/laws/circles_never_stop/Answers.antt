use Rattle.laws_nodes.proofs.Stopping.{circles}
use Rattle.laws_nodes.proofs.laws.circles_never_stop.Goals as goal

pub returns : goal.returns
returns c = λ s p to a free e d. circles s p to free a e d
