use Rattle.laws_messages.proofs.Told.{told}
use Rattle.laws_messages.proofs.resolves.settled_exports_are_told.Goals as goal

pub returns : goal.returns
returns c = told
