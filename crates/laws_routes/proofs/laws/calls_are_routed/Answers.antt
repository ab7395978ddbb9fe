use Rattle.laws_routes.proofs.CallRouted.{routed}
use Rattle.laws_routes.proofs.CallsRouted.{list_routed}
use Rattle.laws_routes.proofs.laws.calls_are_routed.Goals as goal

pub returns-clause-one : goal.returns-clause-one
returns-clause-one c = routed

pub returns-clause-list : goal.returns-clause-list
returns-clause-list c = list_routed
