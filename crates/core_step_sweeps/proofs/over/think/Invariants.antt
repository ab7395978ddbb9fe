use Rattle.std.proofs.Common.{◌≡◌, []}
use Rattle.core_store.specs.Holding.{state_of}
use Rattle.core_step_sweeps.specs.Thinking.{IsThought, work}
use Rattle.core_step_sweeps.proofs.over.think.Given as goal

abbrev pub invariant-thinking : goal.invariant-thinking
invariant-thinking l = record {
  thought : IsThought (state_of l.store) l.thought l.thought.pending.items;
  none : l.fn.thought.pending.items ≡ [] → l.thought.pending.items ≡ [];
}

abbrev pub decreases-thinking : goal.decreases-thinking
decreases-thinking l = work (state_of l.store) l.thought
