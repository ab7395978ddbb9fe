use Rattle.laws_routes.proofs.MidwayRouted.{all_held_may_go, all_may_go, as_routed}
use Rattle.laws_routes.proofs.midway.routed_calls_keep_it.Goals as goal

pub returns-clause-one : goal.returns-clause-one
returns-clause-one c = as_routed

pub returns-clause-list : goal.returns-clause-list
returns-clause-list c = all_may_go

pub returns-clause-held : goal.returns-clause-held
returns-clause-held c = all_held_may_go
