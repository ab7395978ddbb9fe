use Rattle.laws_routes.proofs.OutcomeKept.{keeps}
use Rattle.laws_routes.proofs.laws.outcomes_are_kept.Goals as goal

pub returns : goal.returns
returns c = keeps
