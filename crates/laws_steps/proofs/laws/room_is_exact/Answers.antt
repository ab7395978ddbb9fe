use Rattle.laws_steps.proofs.Naming.{room_is_exact}
use Rattle.laws_steps.proofs.laws.room_is_exact.Goals as goal

pub returns : goal.returns
returns c = room_is_exact
