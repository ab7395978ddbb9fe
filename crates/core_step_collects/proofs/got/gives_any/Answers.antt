use Rattle.std.proofs.Common.{◌≡◌, ◌+◌, not, List, [], ◌∷◌, ◌++◌, take, sym, ap, ◌∙◌}
use Rattle.std.proofs.lemmas.List.{take_more}
use Rattle.rpc_msg.specs.declared.parts.Descriptor.{Descriptor}
use Rattle.rpc_machine.specs.declared.node.Node.{Node}
use Rattle.rpc_machine.specs.Lists.{is_empty}
use Rattle.core_step_collects.proofs.Getting.{got, got_by, gives_one, empty_more, is_there}
use Rattle.core_step_collects.proofs.got.gives_any.Goals as goal

pub returns-then-is_some : goal.returns-then-is_some
returns-then-is_some c =
    let xs : List (Descriptor × Node) = c.args.caps.now in
    let i = c.loop-cap.cap-index in
    let x = c.cap-item.result in
    let by = is_there x.0 c.given_id.result c.given_id.ensures in
    let some = c.if-is_some.ensures in
    sym (ap not (gives_one xs i x c.loop-cap-test.true (ap (λ (y : Descriptor × Node). is_empty (got_by y.0)) (sym c.cap-item.is) ∙ by ∙ ap not (sym some))))

pub loop-cap-preserved : goal.loop-cap-preserved
loop-cap-preserved c =
    let xs : List (Descriptor × Node) = c.args.caps.now in
    let i = c.loop-cap.cap-index in
    let x = c.cap-item.result in
    let taken : take i xs ++ x ∷ [] ≡ take (i + 1) xs = ap (λ n. take i xs ++ n ∷ []) c.cap-item.is ∙ sym (take_more xs i x c.loop-cap-test.true) in
    let by = is_there x.0 c.given_id.result c.given_id.ensures in
    ap (λ (ys : List (Descriptor × Node)). is_empty (got ys)) (sym taken) ∙ empty_more (take i xs) x c.loop-cap.invariant (by ∙ ap not (sym c.if-is_some.ensures))
