use Rattle.std.proofs.Common.{◌≡◌, drop}
use Rattle.capn_trees.specs.Trees.{Tree}
use Rattle.capn_reading.specs.Reading.{root_of, tree_read}
use Rattle.capn_reading.specs.Looking.{At}
use Rattle.capn_wire.specs.Walking.{capability_at}
use Rattle.capn_wire.proofs.lookup.find.Given as goal

-- the rest of the path leads from here where all of it leads from the root
abbrev pub invariant-loop-op : goal.invariant-loop-op
invariant-loop-op l = (t : Tree) × At l.place t × (capability_at t (drop l.op-index l.path) ≡ capability_at (tree_read (root_of l.view.message l.view.caps)) l.path)
