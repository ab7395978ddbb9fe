use Rattle.std.proofs.Common.{List, [], ◌∷◌, ◌++◌, take, sym, ap, ◌∙◌, arith}
use Rattle.std.proofs.lemmas.List.{take_more}
use Rattle.rpc_msg.specs.declared.ids.RefId.{RefId}
use Rattle.rpc_machine.specs.declared.node.Node.{Node}
use Rattle.rpc_machine.specs.Commands.{heads}
use Rattle.core_store.specs.Holding.{state_of}
use Rattle.core_step_checks.proofs.OneMore.{heads_more}
use Rattle.core_step_checks.proofs.ref_heads.heads_each.Goals as goal

pub loop-id-preserved : goal.loop-id-preserved
loop-id-preserved c =
    let s = state_of c.args.store.now in
    let xs : List RefId = c.args.refs.now in
    let i = c.loop-id.id-index in
    let before = c.loop-id.invariant in
    let taken = sym (take_more xs i _ c.loop-id-test.true) in
    record {
      heads = c.in-Ok.ensures.items ∙ ap (λ (l : List Node). l ++ c.head_of-node.result ∷ []) before.heads ∙ ap (λ (n : Node). heads s (take i xs) ++ n ∷ []) c.head_of-node.ensures ∙ sym (heads_more s (take i xs) _) ∙ ap (heads s) taken;
      room = let e = c.in-Ok.ensures.len in let f = c.push.ensures.capacity in let g = before.room in omega (arith, e, f, g, c.loop-id-test.true);
    }
