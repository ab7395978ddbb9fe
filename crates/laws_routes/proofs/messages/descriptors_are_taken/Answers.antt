use Rattle.laws_routes.proofs.ImportsTaken.{descriptors_taken}
use Rattle.laws_routes.proofs.messages.descriptors_are_taken.Goals as goal

pub returns : goal.returns
returns c = descriptors_taken
