use Rattle.laws_routes.proofs.StepMoves.{commands_are_moves, messages_are_moves}
use Rattle.laws_routes.proofs.steps.steps_are_moves.Goals as goal

pub returns-clause-command : goal.returns-clause-command
returns-clause-command c = commands_are_moves

pub returns-clause-message : goal.returns-clause-message
returns-clause-message c = messages_are_moves
