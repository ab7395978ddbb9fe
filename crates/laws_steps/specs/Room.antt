-- When exports find room for the capabilities of a Call (docs/protocol.md, "Limits").
use Rattle.std.specs.Prelude.{◌≡◌, ◌≤◌, ◌<◌, ◌↔◌, ℕ, false, Some, List}
use Rattle.std.specs.FinMap as map
use Rattle.laws_acts.specs.rpc_msg.specs.declared.parts.Descriptor.{Descriptor}
use Rattle.laws_acts.specs.rpc_machine.specs.declared.node.Node.{Node}
use Rattle.laws_acts.specs.rpc_machine.specs.declared.entries.Export.{Export}
use Rattle.laws_acts.specs.rpc_machine.specs.State.{State}
use Rattle.laws_acts.specs.rpc_machine.specs.Descriptors.{DescribesAll}
use Rattle.laws_acts.specs.rpc_machine.specs.Limits.{table_limit, count_limit, export_count}
use Rattle.laws_acts.specs.rpc_machine.specs.Fullness.{going_out, exports_lack_room}

-- No two exports stand for one node.
abbrev pub HasOneEach : State → Type 0
HasOneEach s = (e f : ℕ) (x y : Export) → map.get s.exports e ≡ Some x → map.get s.exports f ≡ Some y → x.node ≡ y.node → e ≡ f

-- The exports pass no limit.
abbrev pub ExportsFit : State → Type 0
ExportsFit s = (map.len s.exports ≤ table_limit) × ((e : ℕ) → export_count (map.get s.exports e) < count_limit)

-- There is room for the nodes exactly where no limit is passed once they are described, whichever free ids are picked.
abbrev pub RoomIsExact : Type 0
RoomIsExact = (s : State) (ns : List Node) (ds : List Descriptor) (t : State) → HasOneEach s → ExportsFit s → DescribesAll s ns ds t → (exports_lack_room s (going_out s ns) ≡ false) ↔ ExportsFit t
