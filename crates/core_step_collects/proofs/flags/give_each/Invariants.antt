use Rattle.std.proofs.Common.{◌≡◌, take}
use Rattle.rpc_machine.specs.Flags.{give_each}
use Rattle.rpc_machine.specs.Progress.{numbers}
use Rattle.core_store.specs.Holding.{state_of, IsSound}
use Rattle.core_step_collects.proofs.flags.give_each.Given as goal

abbrev pub invariant-loop-id : goal.invariant-loop-id
invariant-loop-id l = record {
  state : state_of l.store ≡ record (state_of l.fn.store) { imports = give_each (state_of l.fn.store).imports (numbers (take l.id-index l.ids)) };
  left : l.store.slack ≡ l.fn.store.slack;
  waits : l.store.waits ≡ l.fn.store.waits;
  sound : IsSound l.store;
}
