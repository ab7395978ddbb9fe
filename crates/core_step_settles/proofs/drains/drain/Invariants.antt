use Rattle.std.proofs.Common.{◌≡◌, []}
use Rattle.core_step.specs.InProgress.{progress_of, IsReady}
use Rattle.core_step_settles.specs.Unknown.{unknown}
use Rattle.core_step_settles.proofs.Drained.{DrainsOn}
use Rattle.core_step_settles.proofs.drains.drain.Given as goal

abbrev pub invariant-arisen : goal.invariant-arisen
invariant-arisen l = record {
  ready : IsReady l.step;
  none : l.step.store.waits.taken ≡ [];
  drains : DrainsOn (progress_of l.fn.step) (progress_of l.step);
}

abbrev pub decreases-arisen : goal.decreases-arisen
decreases-arisen l = unknown l.step.store.waits.outcomes
