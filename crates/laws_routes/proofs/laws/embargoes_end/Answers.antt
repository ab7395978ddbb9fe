use Rattle.laws_routes.proofs.DisembargoBack.{bounces}
use Rattle.laws_routes.proofs.EmbargoLifted.{lifts}
use Rattle.laws_routes.proofs.laws.embargoes_end.Goals as goal

pub returns-clause-back : goal.returns-clause-back
returns-clause-back c = bounces

pub returns-clause-lifted : goal.returns-clause-lifted
returns-clause-lifted c = lifts
