use Rattle.laws_acts.proofs.Taken.{taken_stay}
use Rattle.laws_acts.proofs.places.taken_calls_stay_named.Goals as goal

pub returns : goal.returns
returns c = taken_stay
