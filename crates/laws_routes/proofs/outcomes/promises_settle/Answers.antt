use Rattle.laws_routes.proofs.OutcomeSettled.{promise_settles}
use Rattle.laws_routes.proofs.outcomes.promises_settle.Goals as goal

pub returns : goal.returns
returns c = promise_settles
