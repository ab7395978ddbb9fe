use Rattle.std.proofs.Common.{◌≡◌, map, take}
use Rattle.capn_trees.specs.Views.{view, held}
use Rattle.lovendak_c_trees.proofs.written.copy_pointers.Given as goal

abbrev pub invariant-loop-tree : goal.invariant-loop-tree
invariant-loop-tree l = map view (held l.pointers) ≡ map view (take l.tree-index l.trees)
