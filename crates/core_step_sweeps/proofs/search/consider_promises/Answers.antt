use Rattle.std.proofs.Common.{◌+◌, ℕ, List, ◌++◌, get_or, drop, sym, subst}
use Rattle.core_store.specs.Holding.{state_of}
use Rattle.core_step_sweeps.specs.Thinking.{IsThought, nodes_of, promise_node}
use Rattle.core_step_sweeps.proofs.Thoughts.{Considers, considered_next}
use Rattle.core_step_sweeps.proofs.search.consider_promises.Goals as goal

pub loop-key-preserved : goal.loop-key-preserved
loop-key-preserved c =
    let xs : List ℕ = c.noted_promises-key-items.result.now in
    let s = state_of c.args.store.now in
    let x = c.loop-key.thought in
    let y = c.consider.new.thought in
    let i = c.loop-key.key-index in
    let k = get_or xs i 0 in
    let step : Considers s x y (promise_node k) = c.in_ok-consider.ensures.thought in
    let same = c.noted_promises-key-items.ensures in record {
      thought = λ rest h. subst (λ (ks : List ℕ). IsThought s y (nodes_of promise_node (drop (i + 1) ks) ++ (rest ++ y.pending.items))) same
          (considered_next s promise_node xs i x y c.loop-key-test.true step rest
          (subst (λ (ks : List ℕ). IsThought s x (nodes_of promise_node (drop i ks) ++ (rest ++ x.pending.items))) (sym same) (c.loop-key.invariant.thought rest h)));
      still = λ quiet still. c.in_ok-consider.ensures.still quiet (c.loop-key.invariant.still quiet still);
    }
