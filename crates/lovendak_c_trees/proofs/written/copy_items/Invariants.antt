use Rattle.std.proofs.Common.{◌≡◌, length, map, take}
use Rattle.std.specs.Vec.{vec_len, vec_capacity}
use Rattle.capn_trees.specs.Views.{fields_view}
use Rattle.lovendak_c_trees.specs.Contents.{fields, in_list}
use Rattle.lovendak_c_trees.proofs.written.copy_items.Given as goal

-- the copies say what the first structs do, and there is room for the others
abbrev pub invariant-loop-item : goal.invariant-loop-item
invariant-loop-item l = record {
  same : map fields_view l.copies.items ≡ map (λ d. in_list (fields d)) (take l.item-index l.items);
  count : vec_len l.copies ≡ l.item-index;
  room : vec_capacity l.copies ≡ length l.items;
}
