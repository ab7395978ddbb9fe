use Rattle.std.proofs.Common.{ap, ◌∙◌}
use Rattle.capn_trees.specs.Views.{view, held, fields_view, trees_of, structs_of, trees_view}
use Rattle.peer_tail_calls.specs.Nulling.{nulled, nulled_each}
use Rattle.peer_tail_calls.proofs.Nulled.{made_all, nulled_fields, structs_nulled, trees_nulled}
use Rattle.peer_tail_calls.proofs.nulls.+nulling.Goals as goal

pub null_pointers-returns : goal.null_pointers-returns
null_pointers-returns t c =
    ap trees_of (made_all view (λ x. nulled c.args.descriptors.now (view x)) (held c.loop-tree.made) c.as_slice-trees.result.now c.loop-tree.tree-index c.loop-tree-test.false c.loop-tree.invariant)
    ∙ trees_nulled c.args.descriptors.now c.as_slice-trees.result.now
    ∙ ap (λ ts. nulled_each c.args.descriptors.now (trees_view ts)) c.as_slice-trees.ensures

pub null_structs-returns : goal.null_structs-returns
null_structs-returns t c =
    ap structs_of (made_all fields_view (λ f. nulled_fields c.args.descriptors.now (fields_view f)) c.loop-item.made.items c.args.items.now c.loop-item.item-index c.loop-item-test.false c.loop-item.invariant)
    ∙ structs_nulled c.args.descriptors.now c.args.items.now
