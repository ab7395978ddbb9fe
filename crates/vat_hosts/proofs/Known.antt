-- What a message makes known.
use Rattle.std.proofs.Common.{Bool, true, false, cond, is_some, List, [], ◌∷◌, Option, None, Some}
use Rattle.rpc_msg.specs.declared.ids.ExportId.{ExportId}
use Rattle.rpc_msg.specs.declared.ids.RefId.{RefId}
use Rattle.rpc_msg.specs.declared.message.DisembargoContext.{DisembargoContext}
use Rattle.rpc_msg.specs.declared.message.DisembargoContext.TheVariants as context
use Rattle.rpc_msg.specs.declared.message.Message.{Message}
use Rattle.rpc_msg.specs.declared.message.Message.TheVariants as message
use Rattle.rpc_msg.specs.declared.message.PlainMessage.TheVariants as plain
use Rattle.rpc_machine.specs.State.{State}
use Rattle.vat_host.specs.declared.event.Event.{Event}
use Rattle.vat_host.specs.declared.event.Event.TheVariants as event
use Rattle.vat_host.specs.declared.event.PeerPlace.{PeerPlace}
use Rattle.vat_host.specs.declared.event.PeerPlace.TheVariants as place
use Rattle.vat_host.specs.Queues.{listed}
use Rattle.vat_host.specs.Watching.{became, event_if, import_if, known_by, reference_if, watched_at, watched_by}

-- Each of them is such an event.
abbrev pub Each : (Event → Type 0) → List Event → Type 0
Each P [] = Unit {0}
Each P (e ∷ es) = P e × Each P es

-- What a message may make known is such.
pub record AreKnown (P : Event → Type 0) : Type 0 where
  pub resolved : (p : PeerPlace) → P (event.Resolved p)
  pub lifted : (r : RefId) → P (event.Lifted r)

module _ (P : Event → Type 0) (all : AreKnown P) where
  if_so : (b : Bool) (e : Event) → P e → Each P (listed (event_if b e))
  if_so true e holds = (holds, tt)
  if_so false e holds = tt

  of_import : (b : Bool) (e : ExportId) (t : State) → Each P (listed (became (import_if b e) t))
  of_import true e t = if_so _ (event.Resolved (place.Import e)) (all.resolved (place.Import e))
  of_import false e t = tt

  of_reference : (r : Option RefId) (t : State) → Each P (listed (became (reference_if r) t))
  of_reference None t = tt
  of_reference (Some r) t = if_so _ (event.Lifted r) (all.lifted r)

  of_context : (c : DisembargoContext) (s t : State) → Each P (listed (became (watched_at s c) t))
  of_context (context.SenderLoopback e) s t = tt
  of_context (context.ReceiverLoopback e) s t = of_reference _ t

  -- By messages: what a host watches for has no name here.
  became_are : (m : Message) (s t : State) → Each P (listed (became (watched_by m s) t))
  became_are (message.Plain (plain.Resolve x)) s t = of_import _ x.promise t
  became_are (message.Plain (plain.Return x)) s t =
      if_so _ (event.Resolved (place.Question (record { 0 = x.answer.0 }))) (all.resolved (place.Question (record { 0 = x.answer.0 })))
  became_are (message.Plain (plain.Disembargo x)) s t = of_context x.context s t
  became_are (message.Plain (plain.Abort exception)) s t = tt
  became_are (message.Plain (plain.Bootstrap q)) s t = tt
  became_are (message.Plain (plain.Call c)) s t = tt
  became_are (message.Plain (plain.Finish f)) s t = tt
  became_are (message.Plain (plain.Release r)) s t = tt
  became_are (message.Plain (plain.Other k)) s t = tt
  became_are (message.Unimplemented p) s t = tt

  unless : (down : Bool) (known : Option Event) → Each P (listed known) → Each P (listed (cond down None known))
  unless true known each = tt
  unless false known each = each

  pub known_are : (m : Message) (s t : State) → Each P (listed (known_by m s t))
  known_are m s t = unless (is_some t.down) (became (watched_by m s) t) (became_are m s t)
