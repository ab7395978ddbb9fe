-- Calls that wait, in the order in which they came. A call is named by the key of its outcome.
use Rattle.std.specs.Prelude.{◌≡◌, ◌≢◌, ◌⊎◌, ℕ, ◌+◌, Option, None, Some, List, [], ◌∷◌}
use Rattle.std.specs.FinMap as map
use Rattle.finite_maps.specs.Tally.{Map, tally}
use Rattle.rpc_msg.specs.Op.{Op}
use Rattle.rpc_msg.specs.declared.message.PlainMessage.{PlainMessage}
use Rattle.rpc_msg.specs.declared.message.PlainMessage.TheVariants as plain
use Rattle.rpc_msg.specs.declared.message.Message.{Message}
use Rattle.rpc_msg.specs.declared.message.Message.TheVariants as message
use Rattle.rpc_machine.specs.rpc_journal.specs.declared.report.Delivery.{Delivery}
use Rattle.rpc_machine.specs.declared.node.Node.{Node}
use Rattle.rpc_machine.specs.declared.node.Node.TheVariants as node
use Rattle.rpc_machine.specs.declared.calls.WaitingCall.{WaitingCall}
use Rattle.rpc_machine.specs.declared.calls.HeldCall.{HeldCall}
use Rattle.rpc_machine.specs.declared.calls.Promise.{Promise}
use Rattle.rpc_machine.specs.declared.calls.Promise.TheVariants as promise
use Rattle.rpc_machine.specs.declared.calls.KeptOutcome.{KeptOutcome}
use Rattle.rpc_machine.specs.declared.entries.Role.{Role}
use Rattle.rpc_machine.specs.declared.entries.Role.TheVariants as role
use Rattle.rpc_machine.specs.declared.entries.Question.{Question}
use Rattle.rpc_machine.specs.declared.entries.Embargo.{Embargo}
use Rattle.rpc_machine.specs.State.{State}
use Rattle.laws_nodes.specs.Sources.{at_promise, at_outcome, at_embargo}

-- ---- In a list

-- The call is in the list.
abbrev pub Has : ℕ → List WaitingCall → Type 0
Has a [] = ⊥
Has a (c ∷ cs) = (c.outcome ≡ a) ⊎ Has a cs

-- The first call stands in the list, and the second behind it.
abbrev pub Before : ℕ → ℕ → List WaitingCall → Type 0
Before a b [] = ⊥
Before a b (c ∷ cs) = ((c.outcome ≡ a) × Has b cs) ⊎ Before a b cs

-- Of the calls that wait for an outcome, those for the field at that path.
abbrev pub HasAt : List Op → ℕ → List HeldCall → Type 0
HasAt path a [] = ⊥
HasAt path a (h ∷ hs) = ((h.path ≡ path) × (h.call.outcome ≡ a)) ⊎ HasAt path a hs

abbrev pub BeforeAt : List Op → ℕ → ℕ → List HeldCall → Type 0
BeforeAt path a b [] = ⊥
BeforeAt path a b (h ∷ hs) = ((h.path ≡ path) × (h.call.outcome ≡ a) × HasAt path b hs) ⊎ BeforeAt path a b hs

-- ---- In a state

-- Of the calls that wait for a promise, for an outcome, under an embargo.
abbrev pub OfPromise : (List WaitingCall → Type 0) → Option Promise → Type 0
OfPromise f None = ⊥
OfPromise f (Some (promise.Open calls)) = f calls
OfPromise f (Some (promise.Fixed to)) = ⊥

abbrev pub OfOutcome : (List HeldCall → Type 0) → Option KeptOutcome → Type 0
OfOutcome f None = ⊥
OfOutcome f (Some x) = f x.waiting

abbrev pub OfEmbargo : (List WaitingCall → Type 0) → Option Embargo → Type 0
OfEmbargo f None = ⊥
OfEmbargo f (Some b) = f b.waiting

-- The two calls wait in one line, the first ahead of the second: for one promise, for one field, or under one embargo.
pub data IsAhead (s : State) (a b : ℕ) : Type 0 where
  AtPromise : (p : ℕ) → OfPromise (Before a b) (map.get s.promises p) → IsAhead s a b
  ForField : (o : ℕ) (path : List Op) → OfOutcome (BeforeAt path a b) (map.get s.outcomes o) → IsAhead s a b
  UnderEmbargo : (e : ℕ) → OfEmbargo (Before a b) (map.get s.embargoes e) → IsAhead s a b

-- The call waits at that node: for the promise, or for the field.
pub data IsAt (s : State) (a : ℕ) : Node → Type 0 where
  ForPromise : (p : ℕ) → OfPromise (Has a) (map.get s.promises p) → IsAt s a (node.Promise p)
  ForFieldAt : (o : ℕ) (path : List Op) → OfOutcome (HasAt path a) (map.get s.outcomes o) → IsAt s a (node.Field o path)

-- At how many places the call waits.
abbrev pub times_waiting : ℕ → State → ℕ
times_waiting a s = tally (at_promise a) s.promises + tally (at_outcome a) s.outcomes + tally (at_embargo a) s.embargoes

-- ---- In the effects of a step

-- The calls that are delivered, in order, by their tasks.
abbrev pub delivered : Map ℕ → List Delivery → List (Option ℕ)
delivered tasks [] = []
delivered tasks (y ∷ ys) = map.get tasks y.task.0 ∷ delivered tasks ys

-- The calls of before that a step sends on, in order, by the questions that ask them. (Of a call that goes out as it is made
-- there is none.)
abbrev pub of_role : Role → Option ℕ
of_role (role.Direct c) = None
of_role (role.Relay o) = Some o

abbrev pub of_question : Option Question → Option ℕ
of_question None = None
of_question (Some x) = of_role x.role

abbrev pub with_call : Map Question → PlainMessage → List (Option ℕ) → List (Option ℕ)
with_call qs (plain.Call c) rest = of_question (map.get qs c.question.0) ∷ rest
with_call qs m rest = rest

abbrev pub sent_on : Map Question → List Message → List (Option ℕ)
sent_on qs [] = []
sent_on qs (message.Plain m ∷ ms) = with_call qs m (sent_on qs ms)
sent_on qs (message.Unimplemented m ∷ ms) = sent_on qs ms

-- The call is not in the list.
abbrev pub Lacks : ℕ → List (Option ℕ) → Type 0
Lacks a [] = Unit {0}
Lacks a (x ∷ xs) = (x ≢ Some a) × Lacks a xs

-- The first call is nowhere in the list behind the second.
abbrev pub NotBehind : ℕ → ℕ → List (Option ℕ) → Type 0
NotBehind a b [] = Unit {0}
NotBehind a b (x ∷ xs) = (x ≡ Some b → Lacks a xs) × NotBehind a b xs
