use Rattle.std.proofs.Common.{[], Ok, refl}
use Rattle.capn_stream.proofs.Stable.{held_none}
use Rattle.capn_stream.proofs.Runs.{runs}
use Rattle.capn_stream.proofs.laws.frames_are_the_bytes.Goals as goal

pub returns : goal.returns
returns c calls new reads = runs calls [] (Ok []) new (refl, held_none) reads
