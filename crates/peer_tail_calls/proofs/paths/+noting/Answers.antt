use Rattle.std.proofs.Common.{List, refl, ap, ◌∙◌}
use Rattle.capn_trees.specs.Views.{view}
use Rattle.rpc_msg.specs.Op.{Op}
use Rattle.peer_tail_calls.specs.Noting.{noted_all}
use Rattle.peer_tail_calls.specs.Paths.{finds}
use Rattle.peer_tail_calls.proofs.Finding.{each_next, each_last, each_done, finds_null, finds_list, finds_capability, noted_as}
use Rattle.peer_tail_calls.proofs.paths.+noting.Goals as goal

pub note_each-loop-tree-preserved : goal.note_each-loop-tree-preserved
note_each-loop-tree-preserved t c =
    let is_new = c.note_tree.ensures ∙ ap (λ (p : List Op). noted_all c.loop-tree.found.items (finds p (view c.tree-item.result))) c.with_field.ensures in
    each_next c.args.path c.loop-tree.number c.loop-tree.found.items c.note_tree.new.found.items c.args.trees.now c.loop-tree.tree-index c.tree-item.result _
    c.in-Some.next c.in-Some.ensures.0 c.in-Some.ensures.1 c.loop-tree-test.true c.tree-item.is is_new c.loop-tree.invariant

pub note_each-returns-in_default : goal.note_each-returns-in_default
note_each-returns-in_default t c =
    let is_new = c.note_tree.ensures ∙ ap (λ (p : List Op). noted_all c.loop-tree.found.items (finds p (view c.tree-item.result))) c.with_field.ensures in
    each_last c.args.path c.loop-tree.number c.loop-tree.found.items c.note_tree.new.found.items c.args.trees.now c.loop-tree.tree-index c.tree-item.result _
    c.in_default.ensures c.loop-tree-test.true c.tree-item.is is_new c.loop-tree.invariant

pub note_each-returns : goal.note_each-returns
note_each-returns t c = each_done c.args.path c.loop-tree.number c.loop-tree.found.items _ c.args.trees.now c.loop-tree.tree-index c.loop-tree-test.false c.loop-tree.invariant

pub note_each-loop-tree-init : goal.note_each-loop-tree-init
note_each-loop-tree-init t c = refl

pub note_tree-returns-in-Null : goal.note_tree-returns-in-Null
note_tree-returns-in-Null t c = noted_as c.args.path c.args.tree.now _ c.args.found.now.items _ _ c.in-Null.is (finds_null c.args.path) refl

pub note_tree-returns-in-List : goal.note_tree-returns-in-List
note_tree-returns-in-List t c = noted_as c.args.path c.args.tree.now _ c.args.found.now.items _ _ c.in-List.is (finds_list c.args.path c.in-List.field-0) refl

pub note_tree-returns-in-Cap : goal.note_tree-returns-in-Cap
note_tree-returns-in-Cap t c = noted_as c.args.path c.args.tree.now _ c.args.found.now.items _ _ c.in-Cap.is (finds_capability c.args.path c.in-Cap.index) c.note.ensures
