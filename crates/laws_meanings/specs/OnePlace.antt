-- Each call is at one place at most (docs/history.md, "Calls"): it waits at one vat, is on its way to one, or was
-- delivered, once.
use Rattle.std.specs.Prelude.{◌≡◌, ℕ, ◌+◌, ◌≤◌, Bool, true, false, Option, None, List, [], ◌∷◌}
use Rattle.finite_maps.specs.Tally.{tally}
use Rattle.rpc_msg.specs.declared.ids.ObjectId.{ObjectId}
use Rattle.rpc_msg.specs.declared.ids.Stamp.{Stamp}
use Rattle.rpc_msg.specs.declared.message.Message.{Message}
use Rattle.rpc_msg.specs.declared.message.Message.TheVariants as message
use Rattle.rpc_msg.specs.declared.message.PlainMessage.{PlainMessage}
use Rattle.rpc_msg.specs.declared.message.PlainMessage.TheVariants as plain
use Rattle.rpc_journal.specs.declared.entry.JournalEntry.{JournalEntry}
use Rattle.rpc_journal.specs.declared.entry.JournalEntry.TheVariants as entry
use Rattle.rpc_journal.specs.History.{same_stamp, first_that, delivery_one}
use Rattle.rpc_journal.specs.Meaning.{History}
use Rattle.rpc_machine.specs.declared.calls.WaitingCall.{WaitingCall}
use Rattle.rpc_machine.specs.declared.calls.HeldCall.{HeldCall}
use Rattle.rpc_machine.specs.declared.calls.Promise.{Promise}
use Rattle.rpc_machine.specs.declared.calls.Promise.TheVariants as promise
use Rattle.rpc_machine.specs.declared.calls.KeptOutcome.{KeptOutcome}
use Rattle.rpc_machine.specs.declared.entries.Embargo.{Embargo}
use Rattle.rpc_machine.specs.State.{State}
use Rattle.rpc_machine.specs.Claims.{Upto, history, EveryRun}
use Rattle.laws_runs.specs.Scenes.{Scene, IsScene}

abbrev pub counted : Bool → ℕ
counted true = 1
counted false = 0

-- How often a call with that stamp is there.
module _ (s : Stamp) where
  abbrev pub is_call : WaitingCall → ℕ
  is_call c = counted (same_stamp s c.request.stamp)

  abbrev pub in_calls : List WaitingCall → ℕ
  in_calls [] = 0
  in_calls (c ∷ cs) = is_call c + in_calls cs

  abbrev pub in_held : List HeldCall → ℕ
  in_held [] = 0
  in_held (x ∷ xs) = is_call x.call + in_held xs

  abbrev pub at_promise : Promise → ℕ
  at_promise (promise.Open calls) = in_calls calls
  at_promise (promise.Fixed to) = 0

  abbrev pub at_outcome : KeptOutcome → ℕ
  at_outcome x = in_held x.waiting

  abbrev pub at_embargo : Embargo → ℕ
  at_embargo b = in_calls b.waiting

  -- where calls wait at a vat,
  abbrev pub waiting : State → ℕ
  waiting t = tally at_promise t.promises + tally at_outcome t.outcomes + tally at_embargo t.embargoes

  abbrev pub in_plain : PlainMessage → ℕ
  in_plain (plain.Call c) = counted (same_stamp s c.stamp)
  in_plain m = 0

  -- One that comes back is no call.
  abbrev pub in_message : Message → ℕ
  in_message (message.Plain p) = in_plain p
  in_message (message.Unimplemented p) = 0

  -- on a link,
  abbrev pub on_way : List Message → ℕ
  on_way [] = 0
  on_way (m ∷ ms) = in_message m + on_way ms

  abbrev pub in_entry : JournalEntry → ℕ
  in_entry (entry.Delivered v d) = counted (same_stamp s d.stamp)
  in_entry e = 0

  -- and in the journal, as one that was delivered.
  abbrev pub deliveries_of : List JournalEntry → ℕ
  deliveries_of [] = 0
  deliveries_of (e ∷ es) = in_entry e + deliveries_of es

  abbrev pub places : Scene → ℕ
  places x =
      waiting x.world.a.core + waiting x.world.b.core + (on_way x.world.a.inbox + on_way x.world.b.inbox) + deliveries_of x.journal

-- So in each scene.
abbrev pub CallsAreAtOnePlace : Type 0
CallsAreAtOnePlace = (root_a root_b : Option ObjectId) (x : Scene) → IsScene root_a root_b x → (s : Stamp) → places s x ≤ 1

abbrev pub IfFirstDelivery : History → JournalEntry → Type 0
IfFirstDelivery h (entry.Delivered v d) = first_that (delivery_one d.stamp) h.journal ≡ None
IfFirstDelivery h e = Unit {0}

-- And each delivery of a call is its first.
abbrev pub DeliveriesAreFirst : Type 0
DeliveriesAreFirst = (root_a root_b : Option ObjectId) (x : Scene) → IsScene root_a root_b x → Upto IfFirstDelivery (history root_a root_b x.journal)

-- In every run no call is delivered twice.
abbrev pub DeliveredOnce : Type 0
DeliveredOnce = EveryRun (λ h xs w. (s : Stamp) → deliveries_of s h.journal ≤ 1)
