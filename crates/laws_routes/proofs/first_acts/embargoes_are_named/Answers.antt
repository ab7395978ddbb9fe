use Rattle.laws_routes.proofs.FirstCommands.{embargoes_named}
use Rattle.laws_routes.proofs.first_acts.embargoes_are_named.Goals as goal

pub returns : goal.returns
returns c = embargoes_named
