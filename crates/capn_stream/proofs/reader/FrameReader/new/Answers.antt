use Rattle.std.proofs.Common.{sym, subst}
use Rattle.capn_stream.specs.Fronts.{IsHeld}
use Rattle.capn_stream.proofs.Stable.{held_none}
use Rattle.capn_stream.proofs.reader.FrameReader.new.Goals as goal

pub invariant_of-result : goal.invariant_of-result
invariant_of-result c = subst IsHeld (sym c.new.ensures.items) held_none
