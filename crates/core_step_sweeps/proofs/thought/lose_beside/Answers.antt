use Rattle.std.proofs.Common.{◌≡◌, ◌+◌, List, [], ◌∷◌, ◌++◌, take, sym, ap, ◌∙◌, append_assoc}
use Rattle.std.proofs.lemmas.List.{take_more}
use Rattle.rpc_msg.specs.declared.parts.Descriptor.{Descriptor}
use Rattle.rpc_machine.specs.declared.node.Node.{Node}
use Rattle.rpc_machine.specs.Places.{nodes}
use Rattle.core_refcounts.specs.Names.{Names, named, named_all}
use Rattle.core_store_tables.proofs.Listed.{named_beside}
use Rattle.core_step_sweeps.proofs.Things.{nodes_more}
use Rattle.core_step_sweeps.proofs.thought.lose_beside.Goals as goal

pub loop-cap-preserved : goal.loop-cap-preserved
loop-cap-preserved c =
    let xs : List (Descriptor × Node) = c.args.caps.now in
    let i = c.loop-cap.cap-index in
    let x = c.cap-item.result in
    let start : Names = c.args.less.now in
    let before : List Node = c.args.pending.now.items in
    let taken : take i xs ++ x ∷ [] ≡ take (i + 1) xs = ap (λ n. take i xs ++ n ∷ []) c.cap-item.is ∙ sym (take_more xs i x c.loop-cap-test.true) in record {
      less = c.in_ok-lose_one.ensures.less ∙ ap (λ (s : Names). named s x.1) c.loop-cap.invariant.less ∙ sym (named_beside start (take i xs) x) ∙ ap (λ (ys : List (Descriptor × Node)). named_all start (nodes ys)) taken;
      pending = c.in_ok-lose_one.ensures.pending ∙ ap (λ (ns : List Node). ns ++ x.1 ∷ []) c.loop-cap.invariant.pending ∙ append_assoc before (nodes (take i xs)) (x.1 ∷ [])
          ∙ ap (λ (ns : List Node). before ++ ns) (sym (nodes_more (take i xs) x)) ∙ ap (λ (ys : List (Descriptor × Node)). before ++ nodes ys) taken;
    }
