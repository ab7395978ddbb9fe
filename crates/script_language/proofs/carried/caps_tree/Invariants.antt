use Rattle.std.proofs.Common.{◌≡◌, map}
use Rattle.std.specs.List.{range_with_len}
use Rattle.capn_trees.specs.Trees.{capability}
use Rattle.capn_trees.specs.Views.{view, held}
use Rattle.script_language.proofs.carried.caps_tree.Given as goal

abbrev pub invariant-loop-index : goal.invariant-loop-index
invariant-loop-index l = map view (held l.pointers) ≡ map capability (range_with_len 0 l.index)
