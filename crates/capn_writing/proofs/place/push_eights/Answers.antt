use Rattle.std.proofs.Common.{length, arith}
use Rattle.capn_trees.specs.Widths.{packed_size}
use Rattle.capn_writing.proofs.Filled.{eights_whole}
use Rattle.capn_writing.proofs.place.push_eights.Goals as goal

pub returns-clause-items : goal.returns-clause-items
returns-clause-items c =
    rw (eights_whole (packed_size 64 (length c.args.eights.now)) c.args.eights.now (omega arith)) c.in-Ok.ensures.items
