use Rattle.laws_routes.proofs.PromiseFixed.{promise_fixed}
use Rattle.laws_routes.proofs.laws.promises_are_fixed.Goals as goal

pub returns : goal.returns
returns c = promise_fixed
