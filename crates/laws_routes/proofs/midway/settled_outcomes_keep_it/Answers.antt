use Rattle.std.specs.FinMap as map
use Rattle.std.proofs.Common.{refl}
use Rattle.laws_routes.proofs.MidwaySettled.{may_settle}
use Rattle.laws_routes.proofs.MidwayTold.{told_still}
use Rattle.laws_routes.proofs.midway.settled_outcomes_keep_it.Goals as goal

pub returns-clause-any : goal.returns-clause-any
returns-clause-any c = λ w d o v new m level caps h. may_settle w d o v (map.get d.state.outcomes o) new refl m level caps h

pub returns-clause-told : goal.returns-clause-told
returns-clause-told c = told_still
