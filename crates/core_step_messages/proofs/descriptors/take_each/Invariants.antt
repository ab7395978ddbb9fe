use Rattle.std.proofs.Common.{◌≡◌, ◌+◌, ◌≤◌, drop, length}
use Rattle.rpc_machine.specs.Progress.{with_state}
use Rattle.core_store.specs.Holding.{state_of}
use Rattle.core_step.specs.InProgress.{progress_of, IsReady}
use Rattle.core_step_messages.proofs.InTurn.{found_by}
use Rattle.core_step_messages.proofs.descriptors.take_each.Given as goal

abbrev pub invariant-loop-descriptor : goal.invariant-loop-descriptor
invariant-loop-descriptor l = record {
  found : found_by (state_of l.fn.step.store) l.descriptors ≡ found_by (state_of l.step.store) (drop l.descriptor-index l.descriptors);
  only : progress_of l.step ≡ with_state (progress_of l.fn.step) (state_of l.step.store);
  left : length l.descriptors ≤ l.step.store.slack + l.descriptor-index;
  taken : l.step.store.waits.taken ≡ l.fn.step.store.waits.taken;
  ready : IsReady l.step;
}
