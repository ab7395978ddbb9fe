use Rattle.std.proofs.Common.{◌≡◌, ◌+◌, ℕ, List, sym, subst, ap, ◌∙◌}
use Rattle.std.specs.Prelude.{IfOk, codes}
use Rattle.std.proofs.lemmas.List.{map-id}
use Rattle.serde_json.specs.Data.{Data, boolean, Items}
use Rattle.serde_json.specs.View.{view, items_of, items_view}
use Rattle.capn_trees.specs.Views.{items_view as elements_view, trees_view}
use Rattle.trace_write.specs.Parts.{nat, list, only}
use Rattle.rpc_dump_lib.specs.Trees.{words_and_pointers, trees_data, elements_data}
use Rattle.rpc_dump_lib.proofs.Shown.{made_more, made_all, shown_tree, shown_fields, all_trees, all_structs, show_bits, show_twos, show_fours, show_eights, show_fields}
use Rattle.rpc_dump_lib.proofs.trees.+show.Goals as goal

pub write_items-returns-in-Bits : goal.write_items-returns-in-Bits
write_items-returns-in-Bits t c =
    let same = ap (λ bs. only (codes "bits") (list boolean bs)) c.as_slice.ensures.value ∙ sym (ap (λ items. elements_data (elements_view items)) c.in-Bits.is ∙ show_bits c.in-Bits.bits) in
    subst (λ (d : Data). IfOk c.write_bits.result (λ v. view v ≡ d)) same c.write_bits.ensures

pub write_items-returns-in-Twos : goal.write_items-returns-in-Twos
write_items-returns-in-Twos t c =
    let same = ap (λ (ns : List ℕ). only (codes "twos") (list nat ns)) (map-id c.as_slice-in-Twos.result.now ∙ c.as_slice-in-Twos.ensures.value) ∙ sym (ap (λ items. elements_data (elements_view items)) c.in-Twos.is ∙ show_twos c.in-Twos.numbers) in
    subst (λ (d : Data). IfOk c.write_packed.result (λ v. view v ≡ d)) same c.write_packed.ensures

pub write_items-returns-in-Fours : goal.write_items-returns-in-Fours
write_items-returns-in-Fours t c =
    let same = ap (λ (ns : List ℕ). only (codes "fours") (list nat ns)) (map-id c.as_slice-in-Fours.result.now ∙ c.as_slice-in-Fours.ensures.value) ∙ sym (ap (λ items. elements_data (elements_view items)) c.in-Fours.is ∙ show_fours c.in-Fours.numbers) in
    subst (λ (d : Data). IfOk c.write_packed-in-Fours.result (λ v. view v ≡ d)) same c.write_packed-in-Fours.ensures

pub write_items-returns-in-Eights : goal.write_items-returns-in-Eights
write_items-returns-in-Eights t c =
    let same = ap (λ (ns : List ℕ). only (codes "eights") (list nat ns)) (map-id c.as_slice-in-Eights.result.now ∙ c.as_slice-in-Eights.ensures.value) ∙ sym (ap (λ items. elements_data (elements_view items)) c.in-Eights.is ∙ show_eights c.in-Eights.numbers) in
    subst (λ (d : Data). IfOk c.write_packed-in-Eights.result (λ v. view v ≡ d)) same c.write_packed-in-Eights.ensures

pub write_trees-loop-tree-preserved : goal.write_trees-loop-tree-preserved
unfolding shown_tree
write_trees-loop-tree-preserved t c =
    record {
      same = made_more view shown_tree c.push_reserved.new.self.items c.loop-tree.values.items c.args.trees.now c.loop-tree.tree-index c.tree-item.result _ c.push_reserved.ensures.items c.loop-tree-test.true c.tree-item.is c.in_ok-write_tree.ensures c.loop-tree.invariant.same;
      count = c.push_reserved.ensures.len ∙ ap (λ (n : ℕ). n + 1) c.loop-tree.invariant.count;
      room = c.push_reserved.ensures.capacity ∙ c.loop-tree.invariant.room;
    }

pub write_trees-returns : goal.write_trees-returns
write_trees-returns t c =
    ap items_of (made_all view shown_tree c.loop-tree.values.items c.args.trees.now c.loop-tree.tree-index c.loop-tree-test.false c.loop-tree.invariant.same) ∙ all_trees c.args.trees.now

pub write_structs-loop-fields-preserved : goal.write_structs-loop-fields-preserved
write_structs-loop-fields-preserved t c =
    let pointers = c.in_ok-pointers.ensures ∙ ap (λ ts. trees_data (trees_view ts)) c.as_slice.ensures in
    let same = c.in_ok-parts.ensures ∙ ap (λ (ws : List ℕ). words_and_pointers ws (items_view c.in_ok-pointers.pointers.items)) c.as_slice-in-loop-fields.ensures.value
    ∙ ap (λ (ps : Items). words_and_pointers c.fields-item.result.words.items ps) pointers ∙ sym (show_fields c.fields-item.result) in
    record {
      same = made_more view shown_fields c.push_reserved.new.self.items c.loop-fields.values.items c.args.structs.now c.loop-fields.fields-index c.fields-item.result _ c.push_reserved.ensures.items c.loop-fields-test.true c.fields-item.is same c.loop-fields.invariant.same;
      count = c.push_reserved.ensures.len ∙ ap (λ (n : ℕ). n + 1) c.loop-fields.invariant.count;
      room = c.push_reserved.ensures.capacity ∙ c.loop-fields.invariant.room;
    }

pub write_structs-returns : goal.write_structs-returns
write_structs-returns t c =
    ap items_of (made_all view shown_fields c.loop-fields.values.items c.args.structs.now c.loop-fields.fields-index c.loop-fields-test.false c.loop-fields.invariant.same) ∙ all_structs c.args.structs.now
