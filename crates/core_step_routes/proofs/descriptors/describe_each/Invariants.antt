use Rattle.std.proofs.Common.{◌≡◌, ◌+◌, ◌-◌, ◌≤◌, false, take, drop, length, vec_len, vec_capacity}
use Rattle.rpc_msg.specs.Messages.{given}
use Rattle.rpc_machine.specs.Descriptors.{DescribesAll}
use Rattle.rpc_machine.specs.Progress.{export_ids}
use Rattle.core_store.specs.Holding.{state_of, IsSound}
use Rattle.core_store.specs.Noted.{noted_of}
use Rattle.rpc_machine.specs.Fullness.{exports_lack_room, going_out}
use Rattle.core_step_routes.proofs.Roomy.{HasRoomFor}
use Rattle.core_step_routes.proofs.descriptors.describe_each.Given as goal

abbrev pub invariant-loop-node : goal.invariant-loop-node
invariant-loop-node l = record {
  sound : IsSound l.store;
  said : DescribesAll (state_of l.fn.store) (take l.node-index l.nodes) l.said.items (state_of l.store);
  given : l.ids.items ≡ export_ids (given l.said.items);
  fits : exports_lack_room (state_of l.fn.store) (going_out (state_of l.fn.store) l.nodes) ≡ false → HasRoomFor (state_of l.store) (drop l.node-index l.nodes);
  left : l.fn.store.slack ≤ l.store.slack + l.node-index;
  less : l.store.slack ≤ l.fn.store.slack;
  waits : l.store.waits ≡ l.fn.store.waits;
  noted : noted_of l.store.names ≡ noted_of l.fn.store.names;
  room : vec_len l.said + (length l.nodes - l.node-index) ≤ vec_capacity l.said;
  id_room : vec_len l.ids + (length l.nodes - l.node-index) ≤ vec_capacity l.ids;
}
