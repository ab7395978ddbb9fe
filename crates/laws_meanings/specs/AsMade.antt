-- What is about and what is delivered is what was made (docs/history.md, "Calls"): the interface, method and payload of
-- the call that was made with that stamp, and as many capabilities as that had references.
use Rattle.std.specs.Prelude.{◌≡◌, ℕ, Option, None, Some, List, [], ◌∷◌, length}
use Rattle.std.specs.FinMap as map
use Rattle.rpc_msg.specs.Payloads.{Contents as Payload}
use Rattle.rpc_msg.specs.declared.ids.Vat.{Vat}
use Rattle.rpc_msg.specs.declared.ids.ObjectId.{ObjectId}
use Rattle.rpc_msg.specs.declared.ids.Stamp.{Stamp}
use Rattle.rpc_msg.specs.declared.message.PlainMessage.{PlainMessage}
use Rattle.rpc_msg.specs.declared.message.PlainMessage.TheVariants as plain
use Rattle.rpc_msg.specs.declared.message.Message.{Message}
use Rattle.rpc_msg.specs.declared.message.Message.TheVariants as message
use Rattle.rpc_journal.specs.declared.report.Delivery.{Delivery}
use Rattle.rpc_journal.specs.declared.entry.MadeCall.{MadeCall}
use Rattle.rpc_journal.specs.declared.entry.JournalEntry.{JournalEntry}
use Rattle.rpc_journal.specs.declared.entry.JournalEntry.TheVariants as entry
use Rattle.rpc_journal.specs.History.{made_with}
use Rattle.rpc_journal.specs.Meaning.{History}
use Rattle.rpc_machine.specs.declared.calls.HeldCall.{HeldCall}
use Rattle.rpc_machine.specs.declared.calls.KeptOutcome.{KeptOutcome}
use Rattle.rpc_machine.specs.declared.calls.Promise.{Promise}
use Rattle.rpc_machine.specs.declared.calls.Promise.TheVariants as promise
use Rattle.rpc_machine.specs.declared.calls.WaitingCall.{WaitingCall}
use Rattle.rpc_machine.specs.declared.entries.Embargo.{Embargo}
use Rattle.rpc_machine.specs.State.{State}
use Rattle.rpc_machine.specs.World.{core, inbox}
use Rattle.rpc_machine.specs.Claims.{Upto, history}
use Rattle.laws_runs.specs.Scenes.{Scene, IsScene}

-- A call with that stamp was made, with this interface, method and payload, and with so many references.
pub record WasMade (h : List JournalEntry) (s : Stamp) (interface method : ℕ) (payload : Payload) (count : ℕ) : Type 0 where
  pub call : MadeCall
  pub was_made : made_with h s ≡ Some call
  pub interface_is : interface ≡ call.interface
  pub method_is : method ≡ call.method
  pub payload_is : payload ≡ call.payload
  pub refs : count ≡ length call.refs

module _ (h : List JournalEntry) where
  abbrev pub CallMade : WaitingCall → Type 0
  CallMade c = WasMade h c.request.stamp c.request.interface c.request.method c.request.payload (length c.request.caps)

  abbrev pub CallsMade : List WaitingCall → Type 0
  CallsMade [] = Unit {0}
  CallsMade (c ∷ cs) = CallMade c × CallsMade cs

  abbrev pub HeldMade : List HeldCall → Type 0
  HeldMade [] = Unit {0}
  HeldMade (x ∷ xs) = CallMade x.call × HeldMade xs

  abbrev pub PromiseMade : Option Promise → Type 0
  PromiseMade None = Unit {0}
  PromiseMade (Some (promise.Open calls)) = CallsMade calls
  PromiseMade (Some (promise.Fixed to)) = Unit {0}

  abbrev pub OutcomeMade : Option KeptOutcome → Type 0
  OutcomeMade None = Unit {0}
  OutcomeMade (Some x) = HeldMade x.waiting

  abbrev pub EmbargoMade : Option Embargo → Type 0
  EmbargoMade None = Unit {0}
  EmbargoMade (Some b) = CallsMade b.waiting

  abbrev pub PlainMade : PlainMessage → Type 0
  PlainMade (plain.Abort exception) = Unit {0}
  PlainMade (plain.Bootstrap q) = Unit {0}
  PlainMade (plain.Call c) = WasMade h c.stamp c.interface c.method c.payload (length c.descriptors)
  PlainMade (plain.Return r) = Unit {0}
  PlainMade (plain.Finish f) = Unit {0}
  PlainMade (plain.Resolve r) = Unit {0}
  PlainMade (plain.Release r) = Unit {0}
  PlainMade (plain.Disembargo d) = Unit {0}
  PlainMade (plain.Other n) = Unit {0}

  -- One that comes back is no call.
  abbrev pub MessageMade : Message → Type 0
  MessageMade (message.Plain p) = PlainMade p
  MessageMade (message.Unimplemented p) = Unit {0}

  abbrev pub LinkMade : List Message → Type 0
  LinkMade [] = Unit {0}
  LinkMade (m ∷ ms) = MessageMade m × LinkMade ms

  abbrev pub DeliveryMade : Delivery → Type 0
  DeliveryMade d = WasMade h d.stamp d.interface d.method d.payload (length d.refs)

-- The calls that wait at a vat.
pub record WaitingAreMade (h : List JournalEntry) (s : State) : Type 0 where
  pub promises : (k : ℕ) → PromiseMade h (map.get s.promises k)
  pub outcomes : (k : ℕ) → OutcomeMade h (map.get s.outcomes k)
  pub embargoes : (k : ℕ) → EmbargoMade h (map.get s.embargoes k)

-- So in each scene: what waits at a vat, and what is on its way to it.
abbrev pub CallsAreAsMade : Type 0
CallsAreAsMade =
    (root_a root_b : Option ObjectId) (x : Scene)
    → IsScene root_a root_b x → (v : Vat) → WaitingAreMade x.journal (core x.world v) × LinkMade x.journal (inbox x.world v)

abbrev pub IfMade : History → JournalEntry → Type 0
IfMade h (entry.Delivered v d) = DeliveryMade h.journal d
IfMade h e = Unit {0}

-- And each delivery, by the history up to it.
abbrev pub DeliveriesAreAsMade : Type 0
DeliveriesAreAsMade = (root_a root_b : Option ObjectId) (x : Scene) → IsScene root_a root_b x → Upto IfMade (history root_a root_b x.journal)
