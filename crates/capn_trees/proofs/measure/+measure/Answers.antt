use Rattle.std.proofs.lemmas.Grind.{common_steps}
use Rattle.capn_trees.specs.declared.tree.Items.TheFolds.{the_lemmas}
use Rattle.std.proofs.Common.{◌-◌, List, map, refl, sym, ap, ◌∙◌, arith}
use Rattle.std.specs.Prelude.{replicate}
use Rattle.std.proofs.lemmas.List.{length-map, length-replicate, drop_all}
use Rattle.capn_trees.specs.declared.tree.Tree as program
use Rattle.capn_trees.specs.declared.tree.Fields.{Fields}
use Rattle.capn_trees.specs.declared.measure.Measure.{Measure}
use Rattle.capn_trees.specs.Trees.{Tree, Elements, list}
use Rattle.capn_trees.specs.Views.{bit, view, items_view, trees_view, structs_view}
use Rattle.capn_trees.specs.Writable.{parts, parts_of_all, parts_of_structs}
use Rattle.capn_trees.specs.Measuring.{together, measured}
use Rattle.capn_trees.proofs.Counts.{trees_more, structs_more}
use Rattle.capn_trees.proofs.Viewed.{view_null, view_capability, view_list, view_struct, view_void, view_bits, view_bytes, view_twos, view_fours, view_eights, view_pointers, view_structs}
use Rattle.capn_trees.proofs.measure.+measure.Goals as goal

pub measure_items-returns-in-Void : goal.measure_items-returns-in-Void
measure_items-returns-in-Void t c =
    c.and_packed.ensures c.args.caps (replicate c.in-Void.count 0) (length-replicate c.in-Void.count 0 ∙ sym c.from.ensures)
    ∙ sym (ap (λ (es : Elements). measured c.args.caps c.args.so_far (parts (list es) c.args.levels)) (ap items_view c.in-Void.is ∙ view_void c.in-Void.count))

pub measure_items-returns-in-Bits : goal.measure_items-returns-in-Bits
measure_items-returns-in-Bits t c =
    c.and_packed-in-Bits.ensures c.args.caps (map bit c.in-Bits.bits.items) (length-map c.in-Bits.bits.items bit ∙ omega arith)
    ∙ sym (ap (λ (es : Elements). measured c.args.caps c.args.so_far (parts (list es) c.args.levels)) (ap items_view c.in-Bits.is ∙ view_bits c.in-Bits.bits))

pub measure_items-returns-in-Bytes : goal.measure_items-returns-in-Bytes
measure_items-returns-in-Bytes t c =
    c.and_packed-in-Bytes.ensures c.args.caps c.in-Bytes.bytes.items (omega arith)
    ∙ sym (ap (λ (es : Elements). measured c.args.caps c.args.so_far (parts (list es) c.args.levels)) (ap items_view c.in-Bytes.is ∙ view_bytes c.in-Bytes.bytes))

pub measure_items-returns-in-Twos : goal.measure_items-returns-in-Twos
measure_items-returns-in-Twos t c =
    c.and_packed-in-Twos.ensures c.args.caps c.in-Twos.twos.items (omega arith)
    ∙ sym (ap (λ (es : Elements). measured c.args.caps c.args.so_far (parts (list es) c.args.levels)) (ap items_view c.in-Twos.is ∙ view_twos c.in-Twos.twos))

pub measure_items-returns-in-Fours : goal.measure_items-returns-in-Fours
measure_items-returns-in-Fours t c =
    c.and_packed-in-Fours.ensures c.args.caps c.in-Fours.fours.items (omega arith)
    ∙ sym (ap (λ (es : Elements). measured c.args.caps c.args.so_far (parts (list es) c.args.levels)) (ap items_view c.in-Fours.is ∙ view_fours c.in-Fours.fours))

pub measure_items-returns-in-Eights : goal.measure_items-returns-in-Eights
measure_items-returns-in-Eights t c =
    c.and_packed-in-Eights.ensures c.args.caps c.in-Eights.eights.items (omega arith)
    ∙ sym (ap (λ (es : Elements). measured c.args.caps c.args.so_far (parts (list es) c.args.levels)) (ap items_view c.in-Eights.is ∙ view_eights c.in-Eights.eights))

pub measure_items-returns-in-Pointers : goal.measure_items-returns-in-Pointers
measure_items-returns-in-Pointers t c =
    let e = ap items_view c.in-Pointers.is ∙ view_pointers c.in-Pointers.pointers in
    let rest = rw (c.saturating_sub.ensures, c.and-so_far.ensures) at c.measure_pointers.ensures in
    let here = c.pointers_measure.ensures c.args.caps in
    rest
    ∙ ap (λ (m : Measure). measured c.args.caps (together c.args.so_far m) (parts_of_all (trees_view c.in-Pointers.pointers.trees.items) (c.args.levels - 1))) here
    ∙ sym (ap (λ (es : Elements). measured c.args.caps c.args.so_far (parts (list es) c.args.levels)) e)

pub measure_items-returns-in-Structs : goal.measure_items-returns-in-Structs
measure_items-returns-in-Structs t c =
    let e = ap items_view c.in-Structs.is ∙ view_structs c.in-Structs.data_words c.in-Structs.pointer_words c.in-Structs.items in
    let rest = rw (c.saturating_sub-in-Structs.ensures, c.deref-in-Structs.ensures.value, c.and-so_far-in-Structs.ensures) at c.measure_structs.ensures in
    let here = rw c.deref.ensures.value at c.structs_measure.ensures c.args.caps in
    rest
    ∙ ap (λ (m : Measure). measured c.args.caps (together c.args.so_far m) (parts_of_structs (structs_view c.in-Structs.items.items) (c.args.levels - 1))) here
    ∙ sym (ap (λ (es : Elements). measured c.args.caps c.args.so_far (parts (list es) c.args.levels)) e)

pub measure_tree-returns-in-Cap : goal.measure_tree-returns-in-Cap
measure_tree-returns-in-Cap t c =
    c.and.ensures ∙ ap (together c.args.so_far) (c.capability_measure.ensures c.args.levels)
    ∙ sym (ap (λ (u : Tree). measured c.args.caps c.args.so_far (parts u c.args.levels)) (ap view c.in-Cap.is ∙ view_capability c.in-Cap.index))

pub measure_pointers-loop-tree-preserved : goal.measure_pointers-loop-tree-preserved
measure_pointers-loop-tree-preserved t c =
    trees_more c.args.caps c.args.levels c.loop-tree.so_far c.measure_tree-so_far.result c.as_slice-trees.result.now c.loop-tree.tree-index c.tree-item.result _ c.loop-tree-test.true c.tree-item.is c.measure_tree-so_far.ensures c.loop-tree.invariant

pub measure_structs-loop-item-preserved : goal.measure_structs-loop-item-preserved
measure_structs-loop-item-preserved t c =
    structs_more c.args.caps c.args.levels c.loop-item.so_far c.measure_pointers-so_far.result c.args.items.now c.loop-item.item-index c.item-item.result _ c.loop-item-test.true c.item-item.is c.measure_pointers-so_far.ensures c.loop-item.invariant

pub measure_tree-returns-in-Struct : goal.measure_tree-returns-in-Struct
measure_tree-returns-in-Struct t c =
    let e = ap view c.in-Struct.is ∙ view_struct c.in-Struct.words c.in-Struct.pointers in
    let rest = rw (c.saturating_sub.ensures, c.and-so_far.ensures) at c.measure_pointers.ensures in
    let here = rw c.deref.ensures.value at c.struct_measure.ensures c.args.caps in
    rest
    ∙ ap (λ (m : Measure). measured c.args.caps (together c.args.so_far m) (parts_of_all (trees_view c.in-Struct.pointers.trees.items) (c.args.levels - 1))) here
    ∙ sym (ap (λ (u : Tree). measured c.args.caps c.args.so_far (parts u c.args.levels)) e)

pub measure_tree-measure_items-requires : goal.measure_tree-measure_items-requires
measure_tree-measure_items-requires t c = grind (the_lemmas, arith, common_steps)

pub measure_items-measure_structs-requires : goal.measure_items-measure_structs-requires
measure_items-measure_structs-requires t c = grind (the_lemmas, arith, common_steps)

pub measure_pointers-measure_tree-so_far-requires : goal.measure_pointers-measure_tree-so_far-requires
measure_pointers-measure_tree-so_far-requires t c = grind (the_lemmas, arith, common_steps)

pub measure_tree-returns-in-Null : goal.measure_tree-returns-in-Null
measure_tree-returns-in-Null t c =
    sym (ap (λ (u : Tree). measured c.args.caps c.args.so_far (parts u c.args.levels)) (ap view c.in-Null.is ∙ view_null))

pub measure_tree-returns-in-List : goal.measure_tree-returns-in-List
measure_tree-returns-in-List t c =
    c.measure_items.ensures ∙ sym (ap (λ (u : Tree). measured c.args.caps c.args.so_far (parts u c.args.levels)) (ap view c.in-List.is ∙ view_list c.in-List.items))

pub measure_pointers-returns : goal.measure_pointers-returns
measure_pointers-returns t c =
    sym (ap (λ (us : List program.Tree). measured c.args.caps c.loop-tree.so_far (parts_of_all (trees_view us) c.args.levels)) (drop_all c.loop-tree.tree-index c.as_slice-trees.result.now c.loop-tree-test.false))
    ∙ c.loop-tree.invariant ∙ ap (λ (us : List program.Tree). measured c.args.caps c.args.so_far (parts_of_all (trees_view us) c.args.levels)) c.as_slice-trees.ensures

pub measure_structs-returns : goal.measure_structs-returns
measure_structs-returns t c =
    sym (ap (λ (us : List Fields). measured c.args.caps c.loop-item.so_far (parts_of_structs (structs_view us) c.args.levels)) (drop_all c.loop-item.item-index c.args.items.now c.loop-item-test.false))
    ∙ c.loop-item.invariant

pub measure_items-measure_pointers-requires : goal.measure_items-measure_pointers-requires
measure_items-measure_pointers-requires t c = grind (the_lemmas, arith, common_steps)

pub measure_structs-measure_pointers-so_far-requires : goal.measure_structs-measure_pointers-so_far-requires
measure_structs-measure_pointers-so_far-requires t c = grind (the_lemmas, arith, common_steps)

pub measure_tree-measure_pointers-requires : goal.measure_tree-measure_pointers-requires
measure_tree-measure_pointers-requires t c = grind (the_lemmas, arith, common_steps)

pub measure_pointers-loop-tree-init : goal.measure_pointers-loop-tree-init
measure_pointers-loop-tree-init t c = refl

pub measure_structs-loop-item-init : goal.measure_structs-loop-item-init
measure_structs-loop-item-init t c = refl

pub measure_pointers-loop-tree-smaller-in-Null : goal.measure_pointers-loop-tree-smaller-in-Null
measure_pointers-loop-tree-smaller-in-Null t c = omega arith

pub measure_pointers-loop-tree-smaller : goal.measure_pointers-loop-tree-smaller
measure_pointers-loop-tree-smaller t c = omega arith

pub measure_structs-loop-item-smaller : goal.measure_structs-loop-item-smaller
measure_structs-loop-item-smaller t c = omega arith

pub measure_pointers-loop-tree-preserved-in-Null : goal.measure_pointers-loop-tree-preserved-in-Null
measure_pointers-loop-tree-preserved-in-Null t c =
    trees_more c.args.caps c.args.levels c.loop-tree.so_far c.loop-tree.so_far c.as_slice-trees.result.now c.loop-tree.tree-index c.tree-item.result _ c.loop-tree-test.true c.tree-item.is
    (sym (ap (λ (u : Tree). measured c.args.caps c.loop-tree.so_far (parts u c.args.levels)) (ap view c.in-Null.is ∙ view_null))) c.loop-tree.invariant
