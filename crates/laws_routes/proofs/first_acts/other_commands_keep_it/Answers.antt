use Rattle.laws_routes.proofs.FirstCommands.{others_kept}
use Rattle.laws_routes.proofs.first_acts.other_commands_keep_it.Goals as goal

pub returns : goal.returns
returns c = others_kept
