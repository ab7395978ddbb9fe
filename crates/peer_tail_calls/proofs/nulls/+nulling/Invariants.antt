use Rattle.std.proofs.Common.{◌≡◌, map, take}
use Rattle.capn_trees.specs.Views.{view, held, fields_view}
use Rattle.peer_tail_calls.specs.Nulling.{nulled}
use Rattle.peer_tail_calls.proofs.Nulled.{nulled_fields}
use Rattle.peer_tail_calls.proofs.nulls.+nulling.Given as goal

-- what was made says what the first trees do, with null
abbrev pub invariant-null_pointers-loop-tree : goal.invariant-null_pointers-loop-tree
invariant-null_pointers-loop-tree l = map view (held l.made) ≡ map (λ t. nulled l.descriptors (view t)) (take l.tree-index l.trees)

abbrev pub invariant-null_structs-loop-item : goal.invariant-null_structs-loop-item
invariant-null_structs-loop-item l = map fields_view l.made.items ≡ map (λ f. nulled_fields l.descriptors (fields_view f)) (take l.item-index l.items)
