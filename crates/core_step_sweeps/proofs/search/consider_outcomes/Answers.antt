use Rattle.std.proofs.Common.{◌+◌, ℕ, List, ◌++◌, get_or, drop, sym, ap, subst}
use Rattle.rpc_msg.specs.Op.{Op}
use Rattle.rpc_machine.specs.declared.node.Node.TheVariants as node
use Rattle.rpc_machine.specs.declared.node.Node.{Node}
use Rattle.core_store.specs.Holding.{state_of}
use Rattle.core_step_sweeps.specs.Thinking.{IsThought, nodes_of, field_node}
use Rattle.core_step_sweeps.proofs.Thoughts.{Considers, considered_next}
use Rattle.core_step_sweeps.proofs.search.consider_outcomes.Goals as goal

pub loop-key-preserved : goal.loop-key-preserved
loop-key-preserved c =
    let xs : List ℕ = c.noted_outcomes-key-items.result.now in
    let s = state_of c.args.store.now in
    let x = c.loop-key.thought in
    let y = c.consider.new.thought in
    let i = c.loop-key.key-index in
    let k = get_or xs i 0 in
    let step : Considers s x y (field_node k) = (subst (λ (n : Node). Considers s x y n) (ap (λ (path : List Op). node.Field k path) c.root.ensures) c.in_ok-consider.ensures.thought) in
    let same = c.noted_outcomes-key-items.ensures in record {
      thought = λ rest h. subst (λ (ks : List ℕ). IsThought s y (nodes_of field_node (drop (i + 1) ks) ++ (rest ++ y.pending.items))) same
          (considered_next s field_node xs i x y c.loop-key-test.true step rest
          (subst (λ (ks : List ℕ). IsThought s x (nodes_of field_node (drop i ks) ++ (rest ++ x.pending.items))) (sym same) (c.loop-key.invariant.thought rest h)));
      still = λ quiet still. c.in_ok-consider.ensures.still quiet (c.loop-key.invariant.still quiet still);
    }
