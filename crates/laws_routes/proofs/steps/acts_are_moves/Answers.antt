use Rattle.laws_routes.proofs.StepMoves.{acts_are_moves}
use Rattle.laws_routes.proofs.steps.acts_are_moves.Goals as goal

pub returns : goal.returns
returns c = acts_are_moves
