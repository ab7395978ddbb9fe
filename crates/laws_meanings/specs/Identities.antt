-- Which call an outcome is of (docs/history.md, "Calls"): the one that its caller asked. A vat's own call was asked with its
-- number; the peer's is the one that it sent last with that question id.
use Rattle.std.specs.Prelude.{◌≡◌, ◌⊎◌, ℕ, nat_eq, Option, None, Some, List, [], ◌∷◌}
use Rattle.std.specs.FinMap as map
use Rattle.finite_maps.specs.Tally.{Map}
use Rattle.rpc_msg.specs.declared.ids.Vat.{Vat}
use Rattle.rpc_msg.specs.declared.ids.Stamp.{Stamp}
use Rattle.rpc_msg.specs.declared.ids.ObjectId.{ObjectId}
use Rattle.rpc_msg.specs.declared.message.PlainMessage.{PlainMessage}
use Rattle.rpc_msg.specs.declared.message.PlainMessage.TheVariants as plain
use Rattle.rpc_msg.specs.declared.message.Message.{Message}
use Rattle.rpc_msg.specs.declared.message.Message.TheVariants as message
use Rattle.rpc_msg.specs.Vats.{other_vat}
use Rattle.rpc_journal.specs.declared.report.Delivery.{Delivery}
use Rattle.rpc_journal.specs.declared.entry.JournalEntry.{JournalEntry}
use Rattle.rpc_journal.specs.declared.entry.JournalEntry.TheVariants as entry
use Rattle.rpc_journal.specs.History.{same_vat, or_rest, if_so}
use Rattle.rpc_journal.specs.Sources.{Asking, OfBootstrap, OfCall, asking, at_vat}
use Rattle.rpc_machine.specs.declared.calls.WaitingCall.{WaitingCall}
use Rattle.rpc_machine.specs.declared.calls.HeldCall.{HeldCall}
use Rattle.rpc_machine.specs.declared.calls.Promise.{Promise}
use Rattle.rpc_machine.specs.declared.calls.Promise.TheVariants as promise
use Rattle.rpc_machine.specs.declared.calls.KeptOutcome.{KeptOutcome}
use Rattle.rpc_machine.specs.declared.calls.Caller.{Caller}
use Rattle.rpc_machine.specs.declared.calls.Caller.TheVariants as caller
use Rattle.rpc_machine.specs.declared.entries.Role.{Role}
use Rattle.rpc_machine.specs.declared.entries.Role.TheVariants as role
use Rattle.rpc_machine.specs.declared.entries.Question.{Question}
use Rattle.rpc_machine.specs.declared.entries.Embargo.{Embargo}
use Rattle.rpc_machine.specs.State.{State}
use Rattle.rpc_machine.specs.World.{core, inbox}
use Rattle.laws_runs.specs.Scenes.{Scene, IsScene}

-- ---- What a question asks

abbrev pub asked_by : ℕ → PlainMessage → Option Asking
asked_by q (plain.Abort exception) = None
asked_by q (plain.Bootstrap p) = if_so (nat_eq q p.0) OfBootstrap
asked_by q (plain.Call c) = if_so (nat_eq q c.question.0) (OfCall c.stamp)
asked_by q (plain.Return r) = None
asked_by q (plain.Finish f) = None
asked_by q (plain.Resolve r) = None
asked_by q (plain.Release r) = None
asked_by q (plain.Disembargo d) = None
asked_by q (plain.Other n) = None

-- One that comes back asks nothing.
abbrev pub asked_in : ℕ → Message → Option Asking
asked_in q (message.Plain m) = asked_by q m
asked_in q (message.Unimplemented m) = None

-- By the last of these messages that asks with that id.
abbrev pub asked_last : ℕ → List Message → Option Asking
asked_last q [] = None
asked_last q (m ∷ ms) = or_rest (asked_last q ms) (asked_in q m)

abbrev pub asked_one : Vat → ℕ → JournalEntry → Option Asking
asked_one v q (entry.Sent u m) = at_vat (same_vat v u) (asked_in q m)
asked_one v q e = None

-- What the vat asked last with that id.
abbrev pub last_asked : List JournalEntry → Vat → ℕ → Option Asking
last_asked [] v q = None
last_asked (e ∷ es) v q = or_rest (last_asked es v q) (asked_one v q e)

-- What a caller of that vat asked.
abbrev pub asked_of : List JournalEntry → Vat → Caller → Option Asking
asked_of h v (caller.Application c) = asking h v c.0
asked_of h v (caller.Peer q) = last_asked h (other_vat v) q.0

-- The delivery is in the journal.
abbrev pub DeliveredIn : List JournalEntry → Vat → ℕ → Stamp → Type 0
DeliveredIn [] v k s = ⊥
DeliveredIn (e ∷ es) v k s = ((d : Delivery) × (e ≡ entry.Delivered v d) × (d.task.0 ≡ k) × (d.stamp ≡ s)) ⊎ DeliveredIn es v k s

-- ---- What is of a call

abbrev pub IfNone : {X : Type 0} → Option X → Type 0 → Type 0
IfNone None P = P
IfNone (Some x) P = Unit {0}

-- C says what a caller asked.
module _ (C : Caller → Option Asking) where
  -- An outcome that is not known is of that call.
  abbrev pub IsOf : Asking → Option KeptOutcome → Type 0
  IsOf a None = Unit {0}
  IsOf a (Some x) = IfNone x.value (C x.caller ≡ Some a)

  module _ (os : Map KeptOutcome) where
    abbrev pub Is : ℕ → Asking → Type 0
    Is o a = IsOf a (map.get os o)

    abbrev pub CallIs : WaitingCall → Type 0
    CallIs c = Is c.outcome (OfCall c.request.stamp)

    abbrev pub CallsAre : List WaitingCall → Type 0
    CallsAre [] = Unit {0}
    CallsAre (c ∷ cs) = CallIs c × CallsAre cs

    abbrev pub HeldAre : List HeldCall → Type 0
    HeldAre [] = Unit {0}
    HeldAre (x ∷ xs) = CallIs x.call × HeldAre xs

    abbrev pub PromiseIs : Option Promise → Type 0
    PromiseIs None = Unit {0}
    PromiseIs (Some (promise.Open calls)) = CallsAre calls
    PromiseIs (Some (promise.Fixed to)) = Unit {0}

    abbrev pub KeptIs : Option KeptOutcome → Type 0
    KeptIs None = Unit {0}
    KeptIs (Some x) = HeldAre x.waiting

    abbrev pub EmbargoIs : Option Embargo → Type 0
    EmbargoIs None = Unit {0}
    EmbargoIs (Some b) = CallsAre b.waiting

    -- T says what tasks were delivered of.
    abbrev pub TaskIs : (ℕ → Stamp → Type 0) → ℕ → Option ℕ → Type 0
    TaskIs T k None = Unit {0}
    TaskIs T k (Some o) = (s : Stamp) × T k s × Is o (OfCall s)

    abbrev pub RoleIs : Option Asking → Role → Type 0
    RoleIs last (role.Direct c) = (a : Asking) × (C (caller.Application c) ≡ Some a) × (last ≡ Some a)
    RoleIs last (role.Relay o) = (s : Stamp) × (last ≡ Some (OfCall s)) × Is o (OfCall s)

    abbrev pub QuestionIs : Option Asking → Option Question → Type 0
    QuestionIs last None = Unit {0}
    QuestionIs last (Some x) = IfNone x.returned (RoleIs last x.role)

-- ---- In scenes

-- Each task of a vat was delivered of the call of its outcome; each call that waits is that of its outcome; and each
-- question that has not returned is of the own call, or of the outcome, for which it was asked.
pub record AreOfCalls (h : List JournalEntry) (v : Vat) (s : State) : Type 0 where
  pub tasks : (k : ℕ) → TaskIs (asked_of h v) s.outcomes (DeliveredIn h v) k (map.get s.tasks k)
  pub questions : (q : ℕ) → QuestionIs (asked_of h v) s.outcomes (last_asked h v q) (map.get s.questions q)
  pub promises : (p : ℕ) → PromiseIs (asked_of h v) s.outcomes (map.get s.promises p)
  pub outcomes : (o : ℕ) → KeptIs (asked_of h v) s.outcomes (map.get s.outcomes o)
  pub embargoes : (e : ℕ) → EmbargoIs (asked_of h v) s.outcomes (map.get s.embargoes e)

-- And what is on its way to a vat with a question id is what the other asked last with it.
abbrev pub AreAskedLast : List JournalEntry → Vat → List Message → Type 0
AreAskedLast h v ms = (q : ℕ) (a : Asking) → asked_last q ms ≡ Some a → last_asked h v q ≡ Some a

abbrev pub OutcomesAreOfCalls : Type 0
OutcomesAreOfCalls =
    (root_a root_b : Option ObjectId) (x : Scene)
    → IsScene root_a root_b x → (v : Vat) → AreOfCalls x.journal v (core x.world v) × AreAskedLast x.journal (other_vat v) (inbox x.world v)
