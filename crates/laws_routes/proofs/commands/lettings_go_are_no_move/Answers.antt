use Rattle.laws_routes.proofs.OtherCommands.{call_finished, ref_dropped}
use Rattle.laws_routes.proofs.commands.lettings_go_are_no_move.Goals as goal

pub returns-clause-dropped : goal.returns-clause-dropped
returns-clause-dropped c = ref_dropped

pub returns-clause-finished : goal.returns-clause-finished
returns-clause-finished c = call_finished
