-- A reference and its embargo name one another; and an embargo is there from its Disembargo on until that comes back
-- (docs/protocol.md, "Shortening a path"; rpc.capnp, Disembargo).
use Rattle.std.specs.Prelude.{◌≡◌, ℕ, ◌+◌, ◌≤◌, ◌<◌, Bool, false, nat_eq, Option, None, Some, List}
use Rattle.std.specs.FinMap as map
use Rattle.finite_maps.specs.Tally.{Map}
use Rattle.rpc_msg.specs.declared.ids.EmbargoId.{EmbargoId}
use Rattle.rpc_msg.specs.declared.message.DisembargoContext.{DisembargoContext}
use Rattle.rpc_msg.specs.declared.message.DisembargoContext.TheVariants.{SenderLoopback, ReceiverLoopback}
use Rattle.rpc_msg.specs.declared.message.PlainMessage.{PlainMessage}
use Rattle.rpc_msg.specs.declared.message.PlainMessage.TheVariants as plain
use Rattle.rpc_msg.specs.declared.message.Message.{Message}
use Rattle.rpc_msg.specs.declared.message.Message.TheVariants as message
use Rattle.rpc_machine.specs.declared.command.Command.{Command}
use Rattle.rpc_machine.specs.declared.command.Granted.{Granted}
use Rattle.rpc_machine.specs.declared.command.Effects.{Effects}
use Rattle.rpc_machine.specs.declared.command.Level.TheVariants.{One}
use Rattle.rpc_machine.specs.declared.entries.Reference.{Reference}
use Rattle.rpc_machine.specs.declared.entries.Embargo.{Embargo}
use Rattle.rpc_machine.specs.State.{State}
use Rattle.rpc_machine.specs.Lists.{how_many}
use Rattle.rpc_machine.specs.Faults.{fault_of}
use Rattle.rpc_machine.specs.Steps.{Does, Handles}
use Rattle.laws_nodes.specs.Ones.{one_if}
use Rattle.laws_steps.specs.NodesThere.{IsReached}

abbrev pub embargo_of : Option Reference → Option EmbargoId
embargo_of None = None
embargo_of (Some x) = x.embargo

abbrev pub IsOf : ℕ → Option Embargo → Type 0
IsOf r None = ⊥
IsOf r (Some b) = b.reference.0 ≡ r

-- What a reference says of its embargo: that is there, and its own.
abbrev pub HasIts : Map Embargo → ℕ → Option EmbargoId → Type 0
HasIts m r None = Unit {0}
HasIts m r (Some e) = IsOf r (map.get m e.0)

-- What a reference says that an embargo e belongs to, if it is there.
abbrev pub NamesIt : ℕ → Option Reference → Type 0
NamesIt e None = Unit {0}
NamesIt e (Some x) = x.embargo ≡ Some (record { 0 = e })

abbrev pub IsNamed : Map Reference → ℕ → Option Embargo → Type 0
IsNamed m e None = Unit {0}
IsNamed m e (Some b) = NamesIt e (map.get m b.reference.0)

-- The reference was made before.
abbrev pub IsOld : ℕ → Option Embargo → Type 0
IsOld next None = Unit {0}
IsOld next (Some b) = b.reference.0 < next

pub record Paired (refs : Map Reference) (embargoes : Map Embargo) (next : ℕ) : Type 0 where
  pub theirs : (r : ℕ) → HasIts embargoes r (embargo_of (map.get refs r))
  pub named : (e : ℕ) → IsNamed refs e (map.get embargoes e)
  pub old : (e : ℕ) → IsOld next (map.get embargoes e)
  pub fresh : (k : ℕ) → next ≤ k → map.get refs k ≡ None

abbrev pub ArePaired : State → Type 0
ArePaired s = Paired s.refs s.embargoes s.next_ref

abbrev pub EmbargoesArePaired : Type 0
EmbargoesArePaired = (s : State) → IsReached s → ArePaired s

-- ---- Loopbacks

abbrev pub here : {X : Type 0} → Option X → ℕ
here None = 0
here (Some x) = 1

abbrev pub is_out : ℕ → DisembargoContext → Bool
is_out e (SenderLoopback x) = nat_eq e x.0
is_out e (ReceiverLoopback x) = false

abbrev pub is_back : ℕ → DisembargoContext → Bool
is_back e (SenderLoopback x) = false
is_back e (ReceiverLoopback x) = nat_eq e x.0

abbrev pub tests : (DisembargoContext → Bool) → PlainMessage → Bool
tests f (plain.Abort x) = false
tests f (plain.Bootstrap q) = false
tests f (plain.Call c) = false
tests f (plain.Return r) = false
tests f (plain.Finish x) = false
tests f (plain.Resolve r) = false
tests f (plain.Release r) = false
tests f (plain.Disembargo d) = f d.context
tests f (plain.Other n) = false

-- The message is the Disembargo of the sender's embargo e.
abbrev pub goes_out : ℕ → Message → Bool
goes_out e (message.Plain m) = tests (is_out e) m
goes_out e (message.Unimplemented m) = false

-- It is that of the receiver's embargo e, come back.
abbrev pub comes_back : ℕ → Message → Bool
comes_back e (message.Plain m) = tests (is_back e) m
comes_back e (message.Unimplemented m) = false

-- That many of the messages do.
abbrev pub out : ℕ → List Message → ℕ
out e ms = how_many (goes_out e) ms

abbrev pub back : ℕ → List Message → ℕ
back e ms = how_many (comes_back e) ms

pub record Loopbacks : Type 0 where
  pub commands : (e : ℕ) (s : State) (c : Command) (g : Granted) (x : Effects) (t : State) → Does s c g x t → (here (map.get t.embargoes e) ≡ here (map.get s.embargoes e) + out e x.sends) × (back e x.sends ≡ 0)
  pub messages : (e : ℕ) (s : State) (m : Message) (x : Effects) (t : State) → s.level ≡ One → fault_of s m ≡ None → Handles s m x t
      → (here (map.get t.embargoes e) + one_if (comes_back e m) ≡ here (map.get s.embargoes e)) × (out e x.sends ≡ 0) × (back e x.sends ≡ one_if (goes_out e m))
