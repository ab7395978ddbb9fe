use Rattle.laws_routes.proofs.OtherCommands.{bootstrap_asked}
use Rattle.laws_routes.proofs.commands.bootstraps_are_asked.Goals as goal

pub returns : goal.returns
returns c = bootstrap_asked
