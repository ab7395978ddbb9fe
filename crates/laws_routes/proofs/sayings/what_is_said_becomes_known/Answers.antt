use Rattle.laws_routes.proofs.BecomesKnown.{resolve_known, return_known}
use Rattle.laws_routes.proofs.sayings.what_is_said_becomes_known.Goals as goal

pub returns-clause-resolve : goal.returns-clause-resolve
returns-clause-resolve c = resolve_known

pub returns-clause-results : goal.returns-clause-results
returns-clause-results c = return_known
