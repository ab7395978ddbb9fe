use Rattle.laws_routes.proofs.HeldCalls.{held_routed}
use Rattle.laws_routes.proofs.outcomes.held_calls_are_routed.Goals as goal

pub returns : goal.returns
returns c = held_routed
