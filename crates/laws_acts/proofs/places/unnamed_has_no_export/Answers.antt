use Rattle.laws_acts.proofs.Resolves.{no_resolves}
use Rattle.laws_acts.proofs.places.unnamed_has_no_export.Goals as goal

pub returns : goal.returns
returns c = no_resolves
