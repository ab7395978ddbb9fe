use Rattle.laws_routes.proofs.ReturnSent.{return_sent}
use Rattle.laws_routes.proofs.messages.returns_are_sent.Goals as goal

pub returns : goal.returns
returns c = return_sent
