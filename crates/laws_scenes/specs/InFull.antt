-- Calls arrive in full (docs/protocol.md, "What is promised").
use Rattle.std.specs.Prelude.{◌≡◌, ℕ, Option, Some, List, [], ◌∷◌}
use Rattle.std.specs.FinMap as map
use Rattle.rpc_msg.specs.declared.ids.ObjectId.{ObjectId}
use Rattle.rpc_msg.specs.declared.ids.Stamp.{Stamp}
use Rattle.rpc_msg.specs.declared.ids.Vat.{Vat}
use Rattle.rpc_journal.specs.declared.entry.JournalEntry.{JournalEntry}
use Rattle.rpc_journal.specs.History.{Ref, delivered, made}
use Rattle.rpc_machine.specs.declared.entries.Reference.{Reference}
use Rattle.rpc_machine.specs.declared.node.Node.{Node}
use Rattle.rpc_machine.specs.declared.node.Node.TheVariants as node
use Rattle.rpc_machine.specs.Claims.{BothUp, EveryRun}
use Rattle.rpc_machine.specs.Nodes.{settle}
use Rattle.rpc_machine.specs.Pending.{pending}
use Rattle.rpc_machine.specs.World.{World, core}
use Rattle.laws_runs.specs.Scenes.{Scene, IsScene}
use Rattle.laws_routes.specs.Ghosts.{ref_at}

-- Where a call of a reference was delivered and none of its calls is pending, all of them were delivered.
abbrev pub ArriveInFull : List JournalEntry → World → Type 0
ArriveInFull h w = (r : Ref) (s : Stamp) (ss : List Stamp) → delivered h r ≡ s ∷ ss → pending w r ≡ [] → delivered h r ≡ made h r

abbrev pub ScenesArriveInFull : Type 0
ScenesArriveInFull = (root_a root_b : Option ObjectId) (x : Scene) → IsScene root_a root_b x → ArriveInFull x.journal x.world

-- So in every run, while neither vat is down.
abbrev pub RunsArriveInFull : Type 0
RunsArriveInFull = EveryRun (λ h xs w. BothUp w → ArriveInFull h.journal w)

-- ---- At the own vat

-- An object, or what is still open.
abbrev pub IsOwnEnd : Node → Type 0
IsOwnEnd (node.Object o) = Unit {0}
IsOwnEnd (node.Promise p) = Unit {0}
IsOwnEnd (node.Field o path) = Unit {0}
IsOwnEnd (node.Import e) = ⊥
IsOwnEnd (node.Pipe q path) = ⊥
IsOwnEnd (node.Broken reason) = ⊥

-- So it is of a reference that leads, at its own vat, to an object or to what is still open, also where none was delivered.
abbrev pub OwnArriveInFull : List JournalEntry → World → Type 0
OwnArriveInFull h w =
    (v : Vat) (r : ℕ) (x : Reference) → map.get (core w v).refs r ≡ Some x → IsOwnEnd (settle (core w v) x.head)
    → pending w (ref_at v r) ≡ [] → delivered h (ref_at v r) ≡ made h (ref_at v r)

abbrev pub OwnScenesArriveInFull : Type 0
OwnScenesArriveInFull = (root_a root_b : Option ObjectId) (x : Scene) → IsScene root_a root_b x → OwnArriveInFull x.journal x.world
