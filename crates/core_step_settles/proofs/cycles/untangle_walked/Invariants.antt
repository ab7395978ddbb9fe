use Rattle.std.proofs.Common.{◌≡◌, drop}
use Rattle.core_store.specs.Holding.{state_of}
use Rattle.core_step.specs.InProgress.{progress_of, IsReady}
use Rattle.core_step_settles.specs.Circles.{SoFar, with_promises}
use Rattle.core_step_settles.specs.Ends.{Falls, KnowsEnds}
use Rattle.core_step_settles.proofs.cycles.untangle_walked.Given as goal

abbrev pub invariant-loop-at : goal.invariant-loop-at
invariant-loop-at l = record {
  ready : IsReady l.step;
  so_far : SoFar (state_of l.fn.step.store) l.key l.payload l.fn.caps l.fit.items l.at (state_of l.step.store);
  known : KnowsEnds (state_of l.step.store) l.key l.payload l.at (drop l.at l.fit.items) l.ends;
  falls : Falls l.ends;
  only : progress_of l.step ≡ with_promises (progress_of l.fn.step) l.step.store.waits.promises;
  taken : l.step.store.waits.taken ≡ l.fn.step.store.waits.taken;
}

abbrev pub decreases-loop-at : goal.decreases-loop-at
decreases-loop-at l = l.at
