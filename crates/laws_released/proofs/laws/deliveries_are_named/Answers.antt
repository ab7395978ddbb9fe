use Rattle.laws_released.proofs.Steps.{to_named}
use Rattle.laws_released.proofs.laws.deliveries_are_named.Goals as goal

pub returns : goal.returns
returns c = to_named
