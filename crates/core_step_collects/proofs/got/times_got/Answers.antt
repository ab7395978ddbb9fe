use Rattle.std.proofs.Common.{◌≡◌, ℕ, ◌+◌, List, [], ◌∷◌, ◌++◌, take, sym, ap, ◌∙◌, arith, nat_eq}
use Rattle.std.proofs.lemmas.List.{take_more}
use Rattle.rpc_msg.specs.declared.parts.Descriptor.{Descriptor}
use Rattle.rpc_machine.specs.declared.node.Node.{Node}
use Rattle.rpc_machine.specs.Lists.{how_many}
use Rattle.core_step_collects.proofs.Getting.{got, got_by, many_got}
use Rattle.core_step_collects.proofs.got.times_got.Goals as goal

pub loop-cap-preserved : goal.loop-cap-preserved
loop-cap-preserved c =
    let xs : List (Descriptor × Node) = c.args.caps.now in
    let i = c.loop-cap.cap-index in
    let x = c.cap-item.result in
    let test = nat_eq c.args.id.0 in
    let taken : take i xs ++ x ∷ [] ≡ take (i + 1) xs = ap (λ n. take i xs ++ n ∷ []) c.cap-item.is ∙ sym (take_more xs i x c.loop-cap-test.true) in
    let most = c.times_given_by-times.ensures.most in
    let before = c.loop-cap.invariant.1 in (
      ap (λ (n : ℕ). c.loop-cap.times + n) c.times_given_by-times.ensures.times ∙ ap (λ (n : ℕ). n + how_many test (got_by x.0)) c.loop-cap.invariant.0
          ∙ sym (many_got test (take i xs) x) ∙ ap (λ (ys : List (Descriptor × Node)). how_many test (got ys)) taken,
      omega (arith, most, before),
    )
