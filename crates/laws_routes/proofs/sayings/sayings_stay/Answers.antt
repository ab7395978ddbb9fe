use Rattle.laws_routes.proofs.SayingsKept.{kept_known, kept_said}
use Rattle.laws_routes.proofs.sayings.sayings_stay.Goals as goal

pub returns-clause-known : goal.returns-clause-known
returns-clause-known c = kept_known

pub returns-clause-said : goal.returns-clause-said
returns-clause-said c = kept_said
