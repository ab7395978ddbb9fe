use Rattle.std.proofs.Common.{◌≡◌, drop}
use Rattle.capn_trees.specs.Trees.{Tree}
use Rattle.capn_reading.specs.Reading.{root_of, tree_read}
use Rattle.capn_reading.specs.Looking.{At}
use Rattle.lovendak_c_trees.specs.Looks.{walk}
use Rattle.lovendak_c_trees.proofs.read.place_at.Given as goal

-- the rest of the path leads from here where all of it leads from the root
abbrev pub invariant-loop-number : goal.invariant-loop-number
invariant-loop-number l = (t : Tree) × At l.place t × (walk t (drop l.number-index l.path) ≡ walk (tree_read (root_of l.view.message l.view.caps)) l.path)
