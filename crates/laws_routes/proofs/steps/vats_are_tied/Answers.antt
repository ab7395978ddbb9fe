use Rattle.laws_routes.proofs.PairsTied.{settles_down, start_tied, turns}
use Rattle.laws_routes.proofs.steps.vats_are_tied.Goals as goal

pub returns-clause-start : goal.returns-clause-start
returns-clause-start c = start_tied

pub returns-clause-step : goal.returns-clause-step
returns-clause-step c = settles_down

pub returns-clause-turn : goal.returns-clause-turn
returns-clause-turn c = turns
