use Rattle.laws_routes.proofs.OtherCommands.{promise_made}
use Rattle.laws_routes.proofs.commands.promises_are_made.Goals as goal

pub returns : goal.returns
returns c = promise_made
