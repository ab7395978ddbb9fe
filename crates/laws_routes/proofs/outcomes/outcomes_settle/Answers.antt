use Rattle.laws_routes.proofs.OutcomeSettled.{outcome_settles, outcomes_drain}
use Rattle.laws_routes.proofs.outcomes.outcomes_settle.Goals as goal

pub returns-clause-one : goal.returns-clause-one
returns-clause-one c = outcome_settles

pub returns-clause-all : goal.returns-clause-all
returns-clause-all c = outcomes_drain
