use Rattle.capn_trees.specs.Trees as tree
use Rattle.capn_reading.proofs.Places.{null_stands}
use Rattle.capn_reading.proofs.place.Place.null.Goals as goal

pub of-requires : goal.of-requires
of-requires c = (tree.null, null_stands c.self.inside.message.now c.self.inside.caps)
