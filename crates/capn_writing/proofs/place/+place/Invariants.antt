use Rattle.std.proofs.Common.{◌≡◌, ◌+◌, ◌-◌, ◌*◌, ◌≤◌, true, drop, length}
use Rattle.std.specs.Vec.{vec_capacity}
use Rattle.capn_trees.specs.Views.{trees_view, structs_view}
use Rattle.capn_writing.specs.Placing.{placed_all, placed_structs}
use Rattle.capn_writing.specs.Fitting.{FitsAll, FitsStructs}
use Rattle.capn_trees.specs.Writable.{parts_of_all, parts_of_structs, are_even}
use Rattle.capn_writing.specs.Laying.{HaveSizes, HasRoom, filled}
use Rattle.capn_writing.proofs.Sized.{taken}
use Rattle.capn_writing.proofs.place.+place.Given as goal

-- what is left to place ends as all of it does
abbrev pub invariant-place_trees-loop-tree : goal.invariant-place_trees-loop-tree
invariant-place_trees-loop-tree l = record {
  slot : l.slot ≡ l.at + l.tree-index;
  inside : l.slot + (length l.trees - l.tree-index) ≤ length l.words.items;
  sizes : HaveSizes (parts_of_all (trees_view (drop l.tree-index l.trees)) 0);
  room : HasRoom (taken (parts_of_all (trees_view (drop l.tree-index l.trees)) 0)) (length l.words.items) (vec_capacity l.words);
  capacity : vec_capacity l.fn.words ≤ vec_capacity l.words;
  same : filled l.words.items l.slot (placed_all (trees_view (drop l.tree-index l.trees)) l.slot (length l.words.items)) ≡ filled l.fn.words.items l.at (placed_all (trees_view l.trees) l.at (length l.fn.words.items));
  fits : FitsAll (trees_view (drop l.tree-index l.trees)) → FitsAll (trees_view l.trees);
}

abbrev pub invariant-place_structs-loop-item : goal.invariant-place_structs-loop-item
invariant-place_structs-loop-item l = record {
  even : are_even l.data_words l.pointer_words (structs_view (drop l.item-index l.items)) ≡ true;
  inside : l.slot + (length l.items - l.item-index) * (l.data_words + l.pointer_words) ≤ length l.words.items;
  sizes : HaveSizes (parts_of_structs (structs_view (drop l.item-index l.items)) 0);
  room : HasRoom (taken (parts_of_structs (structs_view (drop l.item-index l.items)) 0)) (length l.words.items) (vec_capacity l.words);
  capacity : vec_capacity l.fn.words ≤ vec_capacity l.words;
  same : filled l.words.items l.slot (placed_structs (structs_view (drop l.item-index l.items)) l.slot (length l.words.items)) ≡ filled l.fn.words.items l.at (placed_structs (structs_view l.items) l.at (length l.fn.words.items));
  fits : FitsStructs (structs_view (drop l.item-index l.items)) → FitsStructs (structs_view l.items);
}
