use Rattle.laws_routes.proofs.FieldStops.{known_stops}
use Rattle.laws_routes.proofs.laws.known_outcomes_stop.Goals as goal

pub returns : goal.returns
returns c = known_stops
