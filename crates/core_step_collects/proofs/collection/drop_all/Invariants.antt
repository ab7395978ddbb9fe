use Rattle.std.proofs.Common.{◌≡◌, []}
use Rattle.rpc_machine.specs.Progress.{Progress}
use Rattle.rpc_machine.specs.Collecting.{Collects}
use Rattle.core_store.specs.Holding.{state_of}
use Rattle.core_step.specs.InProgress.{progress_of, IsEnding}
use Rattle.core_step_collects.specs.Dropping.{things, OnlyReleases}
use Rattle.core_step_collects.proofs.collection.drop_all.Given as goal

-- What goes from now on goes from the beginning.
abbrev pub invariant-dropping : goal.invariant-dropping
invariant-dropping l = record {
  rest : (new : Progress) → Collects new (progress_of l.step) → Collects new (progress_of l.fn.step);
  taken : l.step.store.waits.taken ≡ [];
  only : OnlyReleases l.fn.step l.step;
  ending : IsEnding l.step;
}

abbrev pub decreases-dropping : goal.decreases-dropping
decreases-dropping l = things (state_of l.step.store)
