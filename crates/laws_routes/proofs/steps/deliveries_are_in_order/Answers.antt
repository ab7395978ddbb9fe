use Rattle.laws_routes.proofs.PairsTied.{tied_in_order}
use Rattle.laws_routes.proofs.steps.deliveries_are_in_order.Goals as goal

pub returns : goal.returns
returns c = tied_in_order
