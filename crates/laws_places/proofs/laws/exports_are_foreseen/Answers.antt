use Rattle.laws_places.proofs.Foreseen.{foreseen, suffice}
use Rattle.laws_places.proofs.laws.exports_are_foreseen.Goals as goal

pub returns-clause-foreseen : goal.returns-clause-foreseen
returns-clause-foreseen c = foreseen c.nodes_settle.ensures.stops

pub returns-clause-suffice : goal.returns-clause-suffice
returns-clause-suffice c = suffice c.nodes_settle.ensures.stops
