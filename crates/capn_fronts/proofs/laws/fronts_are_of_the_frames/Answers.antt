use Rattle.std.proofs.Common.{[], refl}
use Rattle.capn_fronts.specs.Parts.{nothing}
use Rattle.capn_fronts.proofs.Held.{nothing_held}
use Rattle.capn_fronts.proofs.Runs.{runs}
use Rattle.capn_fronts.proofs.laws.fronts_are_of_the_frames.Goals as goal

pub returns : goal.returns
returns c calls new reads = runs calls [] nothing new (([], refl, refl), nothing_held) reads
