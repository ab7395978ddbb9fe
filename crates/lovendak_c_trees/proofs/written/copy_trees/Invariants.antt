use Rattle.std.proofs.Common.{◌≡◌, length, map, take}
use Rattle.std.specs.Vec.{vec_len, vec_capacity}
use Rattle.capn_trees.specs.Views.{view}
use Rattle.lovendak_c_trees.proofs.written.copy_trees.Given as goal

-- the copies say what the first trees do, and there is room for the others
abbrev pub invariant-loop-tree : goal.invariant-loop-tree
invariant-loop-tree l = record {
  same : map view l.copies.items ≡ map view (take l.tree-index l.trees);
  count : vec_len l.copies ≡ l.tree-index;
  room : vec_capacity l.copies ≡ length l.trees;
}
