use Rattle.std.proofs.Common.{◌≡◌, true, take}
use Rattle.rpc_machine.specs.Progress.{numbers}
use Rattle.rpc_machine.specs.Flags.{obey}
use Rattle.core_store.specs.Holding.{state_of, IsSound}
use Rattle.core_store_tables.proofs.exports.lower_each.Given as goal

abbrev pub invariant-loop-id : goal.invariant-loop-id
invariant-loop-id l = record {
  state : state_of l.store ≡ obey (state_of l.fn.store) true (numbers (take l.id-index l.ids));
  left : l.store.slack ≡ l.fn.store.slack;
  waits : l.store.waits ≡ l.fn.store.waits;
  sound : IsSound l.store;
}
