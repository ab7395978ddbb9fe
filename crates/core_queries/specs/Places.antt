-- Where a reference of the application leads, as the application is told (docs/protocol.md, "Where a node leads").
use Rattle.std.specs.Prelude.{ℕ, Bool, true, false, is_some, Option, None, Some, Result, Ok, Err}
use Rattle.std.specs.FinMap as map
use Rattle.rpc_msg.specs.declared.ids.RefId.{RefId}
use Rattle.rpc_machine.specs.declared.node.Node.{Node}
use Rattle.rpc_machine.specs.declared.node.Node.TheVariants as node
use Rattle.rpc_machine.specs.declared.command.Refusal.{Refusal}
use Rattle.rpc_machine.specs.declared.command.Refusal.TheVariants as refusal
use Rattle.rpc_machine.specs.declared.entries.Embargo.{Embargo}
use Rattle.rpc_machine.specs.declared.entries.Import.{Import}
use Rattle.rpc_machine.specs.declared.entries.Reference.{Reference}
use Rattle.rpc_machine.specs.declared.entries.Resolution.{Resolution}
use Rattle.rpc_machine.specs.declared.entries.SenderKind.{SenderKind}
use Rattle.rpc_machine.specs.declared.entries.SenderKind.TheVariants as sender
use Rattle.rpc_machine.specs.State.{State}
use Rattle.rpc_machine.specs.Nodes.{settle}
use Rattle.core_queries.specs.declared.places.ImportKind.{ImportKind}
use Rattle.core_queries.specs.declared.places.ImportKind.TheVariants as kind
use Rattle.core_queries.specs.declared.places.Place.{Place}
use Rattle.core_queries.specs.declared.places.Place.TheVariants as place

abbrev pub kind_as_given : SenderKind → ImportKind
kind_as_given sender.Hosted = kind.Hosted
kind_as_given sender.Promise = kind.Unresolved

-- A Resolve settles what was given as a promise.
abbrev pub kind_of : SenderKind → Option Resolution → ImportKind
kind_of given None = kind_as_given given
kind_of given (Some said) = kind.Resolved

abbrev pub import_kind : Option Import → Option ImportKind
import_kind None = None
import_kind (Some x) = Some (kind_of x.kind x.resolution)

abbrev pub is_unresolved : Option ImportKind → Bool
is_unresolved None = false
is_unresolved (Some kind.Hosted) = false
is_unresolved (Some kind.Unresolved) = true
is_unresolved (Some kind.Resolved) = false

abbrev pub place_of : State → Node → Place
place_of s (node.Object o) = place.Own o
place_of s (node.Promise p) = place.OwnPromise
place_of s (node.Field o path) = place.OwnCall
place_of s (node.Import e) = place.Import e (is_unresolved (import_kind (map.get s.imports e.0)))
place_of s (node.Pipe q path) = place.Answer q path
place_of s (node.Broken reason) = place.Broken reason

-- A reference leads where its head settles; its calls may wait under an embargo before.
abbrev pub leads_through : State → Option Reference → Result (Place × Bool) Refusal
leads_through s None = Err refusal.UnknownRef
leads_through s (Some x) = Ok (place_of s (settle s x.head), is_some x.embargo)

-- A vat that is down has no references.
abbrev pub leads_unless : State → RefId → Option ℕ → Result (Place × Bool) Refusal
leads_unless s r None = leads_through s (map.get s.refs r.0)
leads_unless s r (Some fault) = Err refusal.Down

abbrev pub leads_to : State → RefId → Result (Place × Bool) Refusal
leads_to s r = leads_unless s r s.down

-- The reference whose calls wait under the embargo.
abbrev pub embargoed_reference : Option Embargo → Option RefId
embargoed_reference None = None
embargoed_reference (Some x) = Some x.reference
