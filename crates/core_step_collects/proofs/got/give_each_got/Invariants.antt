use Rattle.std.proofs.Common.{◌≡◌, take}
use Rattle.rpc_machine.specs.Flags.{give_each}
use Rattle.core_store.specs.Holding.{state_of, IsSound}
use Rattle.core_step_collects.proofs.Getting.{got}
use Rattle.core_step_collects.proofs.got.give_each_got.Given as goal

abbrev pub invariant-loop-cap : goal.invariant-loop-cap
invariant-loop-cap l = record {
  state : state_of l.store ≡ record (state_of l.fn.store) { imports = give_each (state_of l.fn.store).imports (got (take l.cap-index l.caps)) };
  left : l.store.slack ≡ l.fn.store.slack;
  waits : l.store.waits ≡ l.fn.store.waits;
  sound : IsSound l.store;
}
