use Rattle.std.proofs.Common.{◌≡◌, drop}
use Rattle.rpc_machine.specs.Progress.{with_state, numbers}
use Rattle.core_store.specs.Holding.{state_of}
use Rattle.core_step.specs.InProgress.{progress_of, IsReady}
use Rattle.core_step_messages.proofs.InTurn.{given_by}
use Rattle.core_step_messages.proofs.flags.give_each.Given as goal

abbrev pub invariant-loop-id : goal.invariant-loop-id
invariant-loop-id l = record {
  given : given_by l.fn.step.store.exports.entries (numbers l.ids) ≡ given_by l.step.store.exports.entries (numbers (drop l.id-index l.ids));
  only : progress_of l.step ≡ with_state (progress_of l.fn.step) (record (state_of l.fn.step.store) { exports = l.step.store.exports.entries });
  left : l.step.store.slack ≡ l.fn.step.store.slack;
  waits : l.step.store.waits ≡ l.fn.step.store.waits;
  ready : IsReady l.step;
}
