use Rattle.std.proofs.Common.{◌≡◌, ◌+◌, ◌-◌, ◌≤◌, ◌++◌, take, length, vec_len, vec_capacity}
use Rattle.rpc_machine.specs.Progress.{with_refs, new_refs}
use Rattle.core_store.specs.Holding.{state_of, IsSound}
use Rattle.core_store.specs.Noted.{noted_of}
use Rattle.core_store_handles.proofs.references.add_refs.Given as goal

abbrev pub invariant-loop-node : goal.invariant-loop-node
invariant-loop-node l = record {
  sound : IsSound l.store;
  state : state_of l.store ≡ with_refs (state_of l.fn.store) (take l.node-index l.nodes);
  ids : l.ids.items ≡ l.fn.ids.items ++ new_refs l.fn.store.next_ref (take l.node-index l.nodes);
  next : l.store.next_ref ≡ l.fn.store.next_ref + l.node-index;
  slack : l.store.slack + l.node-index ≡ l.fn.store.slack;
  waits : l.store.waits ≡ l.fn.store.waits;
  noted : noted_of l.store.names ≡ noted_of l.fn.store.names;
  room : vec_len l.ids + (length l.nodes - l.node-index) ≤ vec_capacity l.ids;
}
