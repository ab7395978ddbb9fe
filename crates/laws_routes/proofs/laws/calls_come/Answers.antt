use Rattle.laws_routes.proofs.CallTaken.{comes}
use Rattle.laws_routes.proofs.laws.calls_come.Goals as goal

pub returns : goal.returns
returns c = comes
