use Rattle.std.proofs.Common.{◌≡◌, drop}
use Rattle.capn_trees.specs.Views.{structs_view}
use Rattle.capn_trees.specs.Writable.{are_even}
use Rattle.capn_trees.proofs.measure.have_lengths.Given as goal

-- those that are left decide
abbrev pub invariant-loop-item : goal.invariant-loop-item
invariant-loop-item l = are_even l.data_words l.pointer_words (structs_view (drop l.item-index l.items)) ≡ are_even l.data_words l.pointer_words (structs_view l.items)
