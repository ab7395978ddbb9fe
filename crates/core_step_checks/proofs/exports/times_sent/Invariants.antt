use Rattle.std.proofs.Common.{◌≡◌, ◌≤◌, take}
use Rattle.core_store.specs.Holding.{state_of}
use Rattle.core_step_checks.specs.Sending.{sent_out, times_among}
use Rattle.core_step_checks.proofs.exports.times_sent.Given as goal

abbrev pub invariant-loop-id : goal.invariant-loop-id
invariant-loop-id l = record {
  times : l.times ≡ times_among l.node (sent_out (state_of l.store) (take l.id-index l.refs));
  few : l.times ≤ l.id-index;
}
