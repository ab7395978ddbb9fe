use Rattle.std.proofs.Common.{◌≡◌, drop}
use Rattle.capn_trees.specs.Views.{trees_view, structs_view}
use Rattle.capn_trees.specs.Writable.{parts_of_all, parts_of_structs}
use Rattle.capn_trees.specs.Measuring.{measured}
use Rattle.capn_trees.proofs.measure.+measure.Given as goal

-- what is left to measure ends as all of it does
abbrev pub invariant-measure_pointers-loop-tree : goal.invariant-measure_pointers-loop-tree
invariant-measure_pointers-loop-tree l =
    measured l.caps l.so_far (parts_of_all (trees_view (drop l.tree-index l.trees)) l.levels) ≡ measured l.caps l.fn.so_far (parts_of_all (trees_view l.trees) l.levels)

abbrev pub invariant-measure_structs-loop-item : goal.invariant-measure_structs-loop-item
invariant-measure_structs-loop-item l =
    measured l.caps l.so_far (parts_of_structs (structs_view (drop l.item-index l.items)) l.levels) ≡ measured l.caps l.fn.so_far (parts_of_structs (structs_view l.items) l.levels)
