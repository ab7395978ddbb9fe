use Rattle.laws_routes.proofs.ReturnTaken.{return_taken}
use Rattle.laws_routes.proofs.taken_messages.returns_are_taken.Goals as goal

pub returns : goal.returns
returns c = return_taken
