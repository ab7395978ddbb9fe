use Rattle.std.proofs.Common.{◌≡◌, ℕ, ◌+◌, List, [], ◌∷◌, ◌++◌, take, sym, ap, ◌∙◌, arith}
use Rattle.std.proofs.lemmas.List.{take_more}
use Rattle.rpc_msg.specs.declared.parts.Descriptor.{Descriptor}
use Rattle.rpc_machine.specs.declared.node.Node.{Node}
use Rattle.core_step_collects.proofs.Getting.{got, got_by, got_more}
use Rattle.core_step_collects.proofs.got.copy_got.Goals as goal

pub loop-cap-preserved : goal.loop-cap-preserved
loop-cap-preserved c =
    let xs : List (Descriptor × Node) = c.args.caps.now in
    let i = c.loop-cap.cap-index in
    let x = c.cap-item.result in
    let taken : take i xs ++ x ∷ [] ≡ take (i + 1) xs = ap (λ n. take i xs ++ n ∷ []) c.cap-item.is ∙ sym (take_more xs i x c.loop-cap-test.true) in
    let before = c.loop-cap.invariant in
    let copied = c.copy_id-len.ensures in (
      copied.len ∙ before.0,
      omega (arith, before.1, copied.next),
      copied.ids ∙ ap (λ (ns : List ℕ). ns ++ got_by x.0) before.2 ∙ sym (got_more (take i xs) x) ∙ ap got taken,
    )
