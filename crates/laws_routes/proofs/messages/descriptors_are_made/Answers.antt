use Rattle.laws_routes.proofs.ExportsGrown.{descriptors_made}
use Rattle.laws_routes.proofs.messages.descriptors_are_made.Goals as goal

pub returns : goal.returns
returns c = descriptors_made
