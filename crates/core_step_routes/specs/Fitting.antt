-- When the exports have room for a node that is described; and when a call that has to wait can.
use Rattle.std.specs.Prelude.{◌≡◌, ℕ, ◌≤◌, true, false, Option, None, Some, IsSome}
use Rattle.std.specs.FinMap as map
use Rattle.finite_maps.specs.Tally.{Map}
use Rattle.rpc_machine.specs.declared.node.Node.{Node}
use Rattle.rpc_machine.specs.declared.node.Node.TheVariants as node
use Rattle.rpc_machine.specs.declared.entries.Export.{Export}
use Rattle.rpc_machine.specs.State.{State}
use Rattle.rpc_machine.specs.Fullness.{is_exportable, name_lacks_room}
use Rattle.vat_tables.specs.Exports.{IsNotExported}
use Rattle.core_waits.specs.Changes.{IsOpen}
use Rattle.core_step_routes.specs.Prepared.{reason_limit}

-- An export stands for the node, and none with a greater count; or none does.
abbrev pub IsCount : Map Export → Node → Option ℕ → Type 0
IsCount exports n None = IsNotExported exports n
IsCount exports n (Some count) =
    (IsNotExported exports n → ⊥)
    × ((e : ℕ) (x : Export) → map.get exports e ≡ Some x → x.node ≡ n → x.count ≤ count)

-- The counts of all nodes of which exports are made.
abbrev pub AreCounts : State → (Node → Option ℕ) → Type 0
AreCounts s counts = (n : Node) → is_exportable n ≡ true → IsCount s.exports n (counts n)

-- If an export is made of the node, or has one more on its count, no limit is passed.
abbrev pub HasExportRoom : State → (Node → Option ℕ) → Node → Type 0
HasExportRoom s counts n = is_exportable n ≡ true → name_lacks_room (map.len s.exports) (counts n) ≡ false

-- Where a call waits if it goes to this node, it can: the promise is there and open, or the outcome is there. Where the
-- node is broken, the reason fits into a text with that room.
abbrev pub IsOpenThere : ℕ → State → Node → Type 0
IsOpenThere room s (node.Object o) = Unit {0}
IsOpenThere room s (node.Promise p) = IsOpen (map.get s.promises p)
IsOpenThere room s (node.Field o path) = IsSome (map.get s.outcomes o)
IsOpenThere room s (node.Import e) = Unit {0}
IsOpenThere room s (node.Pipe q path) = Unit {0}
IsOpenThere room s (node.Broken reason) = reason_limit ≤ room
