use Rattle.laws_routes.proofs.ReturnTaken.{resolve_taken}
use Rattle.laws_routes.proofs.taken_messages.resolves_are_taken.Goals as goal

pub returns : goal.returns
returns c = resolve_taken
