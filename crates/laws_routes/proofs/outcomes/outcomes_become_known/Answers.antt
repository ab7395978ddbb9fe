use Rattle.laws_routes.proofs.OutcomeKnown.{outcome_known}
use Rattle.laws_routes.proofs.outcomes.outcomes_become_known.Goals as goal

pub returns : goal.returns
returns c = outcome_known
