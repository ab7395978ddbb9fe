use Rattle.laws_routes.proofs.FromMidway.{links_rest, may_go}
use Rattle.laws_routes.proofs.MidwayKept.{may_call}
use Rattle.laws_routes.proofs.midway.calls_may_go.Goals as goal

pub returns-clause-rest : goal.returns-clause-rest
returns-clause-rest c = links_rest

pub returns-clause-goes : goal.returns-clause-goes
returns-clause-goes c = may_go

pub returns-clause-made : goal.returns-clause-made
returns-clause-made c = may_call
