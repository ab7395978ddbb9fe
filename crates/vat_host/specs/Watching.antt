-- What a message of the peer makes known to the application beside calls (docs/protocol.md, "What an application is told").
use Rattle.std.specs.Prelude.{Bool, true, false, cond, ◌&&◌, not, is_some, Option, None, Some, Result, Ok, Err}
use Rattle.std.specs.FinMap as map
use Rattle.rpc_msg.specs.declared.ids.ExportId.{ExportId}
use Rattle.rpc_msg.specs.declared.ids.RefId.{RefId}
use Rattle.rpc_msg.specs.declared.message.DisembargoContext.{DisembargoContext}
use Rattle.rpc_msg.specs.declared.message.DisembargoContext.TheVariants as context
use Rattle.rpc_msg.specs.declared.message.Message.{Message}
use Rattle.rpc_msg.specs.declared.message.Message.TheVariants as message
use Rattle.rpc_msg.specs.declared.message.PlainMessage.{PlainMessage}
use Rattle.rpc_msg.specs.declared.message.PlainMessage.TheVariants as plain
use Rattle.rpc_machine.specs.declared.command.Refusal.{Refusal}
use Rattle.rpc_machine.specs.State.{State}
use Rattle.core_queries.specs.declared.places.Place.{Place}
use Rattle.core_queries.specs.Peers.{names_import, names_question}
use Rattle.core_queries.specs.Places.{embargoed_reference, import_kind, is_unresolved, leads_to}
use Rattle.vat_host.specs.declared.event.Event.{Event}
use Rattle.vat_host.specs.declared.event.Event.TheVariants as event
use Rattle.vat_host.specs.declared.event.PeerPlace.TheVariants as place
use Rattle.vat_host.specs.declared.watched.Watched.{Watched}
use Rattle.vat_host.specs.declared.watched.Watched.TheVariants as watched

-- ---- before the message

-- The peer exports a promise by that id that no Resolve has settled.
abbrev pub waits_for : State → ExportId → Bool
waits_for s e = is_unresolved (import_kind (map.get s.imports e.0))

abbrev pub import_if : Bool → ExportId → Watched
import_if true e = watched.Import e
import_if false e = watched.Nothing

abbrev pub reference_if : Option RefId → Watched
reference_if None = watched.Nothing
reference_if (Some r) = watched.Reference r

-- the reference whose embargo the message may lift
abbrev pub watched_at : State → DisembargoContext → Watched
watched_at s (context.SenderLoopback e) = watched.Nothing
watched_at s (context.ReceiverLoopback e) = reference_if (embargoed_reference (map.get s.embargoes e.0))

abbrev pub watched_in : PlainMessage → State → Watched
watched_in (plain.Resolve x) s = import_if (waits_for s x.promise) x.promise
watched_in (plain.Return x) s = watched.Question (record { 0 = x.answer.0 })
watched_in (plain.Disembargo x) s = watched_at s x.context
watched_in m s = watched.Nothing

-- What a message may make known: what an unsettled promise of the peer is, what the results of a question are, or that an embargo is
-- over.
abbrev pub watched_by : Message → State → Watched
watched_by (message.Plain m) s = watched_in m s
watched_by (message.Unimplemented m) s = watched.Nothing

-- ---- after it

abbrev pub event_if : Bool → Event → Option Event
event_if true e = Some e
event_if false e = None

-- There is such a reference, and its calls don't wait under an embargo.
abbrev pub is_free : Result (Place × Bool) Refusal → Bool
is_free (Ok x) = not x.1
is_free (Err r) = false

-- What became of it, if anything. Of what no place names nothing is told.
abbrev pub became : Watched → State → Option Event
became watched.Nothing t = None
became (watched.Import e) t = event_if (not (waits_for t e) && names_import t e) (event.Resolved (place.Import e))
became (watched.Question q) t = event_if (names_question t q) (event.Resolved (place.Question q))
became (watched.Reference r) t = event_if (is_free (leads_to t r)) (event.Lifted r)

-- What it made known, if anything. Of a vat that is down nothing is.
abbrev pub made_known : Watched → State → Option Event
made_known w t = cond (is_some t.down) None (became w t)

-- What a message makes known that took the vat from one state to the other.
abbrev pub known_by : Message → State → State → Option Event
known_by m s t = made_known (watched_by m s) t
