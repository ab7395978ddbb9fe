use Rattle.laws_routes.proofs.CallThrough.{call_made}
use Rattle.laws_routes.proofs.commands.each_call_is_made.Goals as goal

pub returns : goal.returns
returns c = call_made
