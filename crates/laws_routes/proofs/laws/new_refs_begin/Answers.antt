use Rattle.laws_routes.proofs.NewReferences.{new_ref_begins}
use Rattle.laws_routes.proofs.laws.new_refs_begin.Goals as goal

pub returns : goal.returns
returns c = new_ref_begins
