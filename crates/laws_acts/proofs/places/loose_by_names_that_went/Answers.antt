use Rattle.laws_acts.proofs.Loose.{loose_by_names, tight}
use Rattle.laws_acts.proofs.places.loose_by_names_that_went.Goals as goal

pub returns : goal.returns
returns c = record { went = loose_by_names; tight = tight }
