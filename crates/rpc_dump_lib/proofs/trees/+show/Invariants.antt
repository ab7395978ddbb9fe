use Rattle.std.proofs.Common.{◌≡◌, length, map, take}
use Rattle.std.specs.Vec.{vec_len, vec_capacity}
use Rattle.serde_json.specs.View.{view}
use Rattle.rpc_dump_lib.proofs.Shown.{shown_tree, shown_fields}
use Rattle.rpc_dump_lib.proofs.trees.+show.Given as goal

-- the values are those of the first trees, and there is room for the others
abbrev pub invariant-write_trees-loop-tree : goal.invariant-write_trees-loop-tree
invariant-write_trees-loop-tree l = record {
  same : map view l.values.items ≡ map shown_tree (take l.tree-index l.trees);
  count : vec_len l.values ≡ l.tree-index;
  room : vec_capacity l.values ≡ length l.trees;
}

abbrev pub invariant-write_structs-loop-fields : goal.invariant-write_structs-loop-fields
invariant-write_structs-loop-fields l = record {
  same : map view l.values.items ≡ map shown_fields (take l.fields-index l.structs);
  count : vec_len l.values ≡ l.fields-index;
  room : vec_capacity l.values ≡ length l.structs;
}
