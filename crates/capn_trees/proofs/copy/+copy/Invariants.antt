use Rattle.std.proofs.Common.{◌≡◌, length, map, take}
use Rattle.std.specs.Vec.{vec_len, vec_capacity}
use Rattle.capn_trees.specs.Views.{view, fields_view}
use Rattle.capn_trees.proofs.copy.+copy.Given as goal

-- the copies say what the first trees do, and there is room for the others
abbrev pub invariant-copy_pointers-loop-tree : goal.invariant-copy_pointers-loop-tree
invariant-copy_pointers-loop-tree l = record {
  same : map view l.copies.items ≡ map view (take l.tree-index l.trees);
  count : vec_len l.copies ≡ l.tree-index;
  room : vec_capacity l.copies ≡ length l.trees;
}

abbrev pub invariant-copy_structs-loop-item : goal.invariant-copy_structs-loop-item
invariant-copy_structs-loop-item l = record {
  same : map fields_view l.copies.items ≡ map fields_view (take l.item-index l.items);
  count : vec_len l.copies ≡ l.item-index;
  room : vec_capacity l.copies ≡ length l.items;
}
