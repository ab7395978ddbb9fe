use Rattle.laws_routes.proofs.PromiseOpened.{promise_opens}
use Rattle.laws_routes.proofs.ValueFitted.{value_fits}
use Rattle.laws_routes.proofs.outcomes.promises_open.Goals as goal

pub returns-clause-one : goal.returns-clause-one
returns-clause-one c = promise_opens

pub returns-clause-value : goal.returns-clause-value
returns-clause-value c = value_fits
