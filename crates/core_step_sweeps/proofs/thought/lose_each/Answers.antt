use Rattle.std.proofs.Common.{◌≡◌, ◌+◌, List, [], ◌∷◌, ◌++◌, take, sym, ap, ◌∙◌, append_assoc}
use Rattle.std.proofs.lemmas.List.{take_more}
use Rattle.rpc_machine.specs.declared.node.Node.{Node}
use Rattle.core_refcounts.specs.Names.{Names, named, named_all}
use Rattle.core_refcounts.proofs.Listing.{named_more}
use Rattle.core_step_sweeps.proofs.thought.lose_each.Goals as goal

pub loop-node-preserved : goal.loop-node-preserved
loop-node-preserved c =
    let xs : List Node = c.args.nodes.now in
    let i = c.loop-node.node-index in
    let x = c.node-item.result in
    let start : Names = c.args.less.now in
    let before : List Node = c.args.pending.now.items in
    let taken : take i xs ++ x ∷ [] ≡ take (i + 1) xs = ap (λ n. take i xs ++ n ∷ []) c.node-item.is ∙ sym (take_more xs i x c.loop-node-test.true) in record {
      less = c.in_ok-lose_one.ensures.less ∙ ap (λ (s : Names). named s x) c.loop-node.invariant.less ∙ sym (named_more start (take i xs) x) ∙ ap (named_all start) taken;
      pending = c.in_ok-lose_one.ensures.pending ∙ ap (λ (ns : List Node). ns ++ x ∷ []) c.loop-node.invariant.pending ∙ append_assoc before (take i xs) (x ∷ []) ∙ ap (λ (ns : List Node). before ++ ns) taken;
    }
