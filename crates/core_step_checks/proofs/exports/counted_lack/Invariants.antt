use Rattle.std.proofs.Common.{◌≤◌, take}
use Rattle.core_store.specs.Holding.{state_of}
use Rattle.core_step_checks.specs.Sending.{sent_out}
use Rattle.core_step_checks.specs.Counted.{Counts}
use Rattle.core_step_checks.proofs.Outgoing.{Foreseen}
use Rattle.core_step_checks.proofs.exports.counted_lack.Given as goal

abbrev pub invariant-loop-id : goal.invariant-loop-id
invariant-loop-id l = record {
  seen : Foreseen (state_of l.store) l.refs l.id-index l.size;
  counted : Counts l.times (sent_out (state_of l.store) (take l.id-index l.refs));
  within : l.size ≤ 4096;
}
