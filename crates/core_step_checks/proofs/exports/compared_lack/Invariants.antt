use Rattle.std.proofs.Common.{◌≤◌}
use Rattle.core_store.specs.Holding.{state_of}
use Rattle.core_step_checks.proofs.Outgoing.{Foreseen}
use Rattle.core_step_checks.proofs.exports.compared_lack.Given as goal

abbrev pub invariant-loop-at : goal.invariant-loop-at
invariant-loop-at l = record {
  seen : Foreseen (state_of l.store) l.refs l.at l.size;
  within : l.size ≤ 4096;
}
