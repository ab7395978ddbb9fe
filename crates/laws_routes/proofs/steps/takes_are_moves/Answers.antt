use Rattle.laws_routes.proofs.StepMoves.{echoes_are_moves, takes_are_moves}
use Rattle.laws_routes.proofs.steps.takes_are_moves.Goals as goal

pub returns-clause-understood : goal.returns-clause-understood
returns-clause-understood c = takes_are_moves

pub returns-clause-echoed : goal.returns-clause-echoed
returns-clause-echoed c = echoes_are_moves
