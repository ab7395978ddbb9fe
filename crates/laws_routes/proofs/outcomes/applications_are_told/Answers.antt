use Rattle.laws_routes.proofs.ApplicationTold.{application_told}
use Rattle.laws_routes.proofs.outcomes.applications_are_told.Goals as goal

pub returns : goal.returns
returns c = application_told
