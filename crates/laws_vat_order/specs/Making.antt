-- Whatever the peer sends: the calls that the application makes through one reference are delivered, or go out, in the order
-- in which they were made.
use Rattle.std.specs.Prelude.{◌≡◌, ◌⊎◌, ℕ, ◌<◌, Option, None, Some, IsSome, Ok}
use Rattle.std.specs.FinMap as map
use Rattle.rpc_msg.specs.declared.ids.CallId.{CallId}
use Rattle.rpc_msg.specs.declared.ids.EmbargoId.{EmbargoId}
use Rattle.rpc_msg.specs.declared.ids.QuestionId.{QuestionId}
use Rattle.rpc_machine.specs.declared.node.Node.{Node}
use Rattle.rpc_machine.specs.declared.command.CallCommand.{CallCommand}
use Rattle.rpc_machine.specs.declared.command.Command.TheVariants as command
use Rattle.rpc_machine.specs.declared.command.Granted.TheVariants as granted
use Rattle.rpc_machine.specs.declared.command.Effects.{Effects}
use Rattle.rpc_machine.specs.declared.calls.OwnCall.TheVariants as own
use Rattle.rpc_machine.specs.declared.entries.Reference.{Reference}
use Rattle.rpc_machine.specs.State.{State}
use Rattle.rpc_machine.specs.Nodes.{settle}
use Rattle.rpc_machine.specs.Steps.{Obeys}
use Rattle.laws_steps.specs.NodesThere.{IsReached}
use Rattle.laws_vat_order.specs.Lines.{Has, OfEmbargo, IsAt, IsAhead, times_waiting}
use Rattle.laws_vat_order.specs.Order.{DoesNotPass}
use Rattle.laws_vat_order.specs.Arriving.{IsStep, Waits}

-- ---- The line of a reference

-- The call waits under the embargo; or, without one, where the head leads.
abbrev pub InLineAt : State → ℕ → Node → Option EmbargoId → Type 0
InLineAt s a head None = IsAt s a (settle s head)
InLineAt s a head (Some e) = OfEmbargo (Has a) (map.get s.embargoes e.0)

abbrev pub InLineOf : State → ℕ → Option Reference → Type 0
InLineOf s a None = ⊥
InLineOf s a (Some x) = InLineAt s a x.head x.embargo

-- The call waits in the line of the reference r.
abbrev pub IsInLine : State → ℕ → ℕ → Type 0
IsInLine s r a = InLineOf s a (map.get s.refs r)

-- ---- Calls that are made

-- The application makes a call through the reference r, and its outcome is kept here: k is the key of it.
pub record Makes (s : State) (r k : ℕ) (x : Effects) (t : State) : Type 0 where
  pub call : CallCommand
  pub number : CallId
  pub through : call.reference.0 ≡ r
  pub done : Obeys s (command.Call call) (Ok (granted.Call number)) x t
  pub kept : map.get t.calls number.0 ≡ Some (own.Kept k)

-- It makes one that goes out at once.
pub record SendsOut (s : State) (r : ℕ) (x : Effects) (t : State) : Type 0 where
  pub call : CallCommand
  pub number : CallId
  pub question : QuestionId
  pub through : call.reference.0 ≡ r
  pub done : Obeys s (command.Call call) (Ok (granted.Call number)) x t
  pub asked : map.get t.calls number.0 ≡ Some (own.Direct question)

-- A vat comes from the state to the last one. At each on the way the reference is there, and the call waits.
pub data Holds (r a : ℕ) (last : State) : State → Type 0 where
  HoldsHere : 0 < times_waiting a last → IsSome (map.get last.refs r) → Holds r a last last
  HoldsFurther : {s mid : State} (x : Effects) → 0 < times_waiting a s → IsSome (map.get s.refs r) → IsStep s x mid → Holds r a last mid → Holds r a last s

-- ---- The law

-- A call that is made waits in the line of its reference, or waits no more.
abbrev pub MadeLands : Type 0
MadeLands = (s : State) (r a : ℕ) (x : Effects) (t : State) → IsReached s → Makes s r a x t → IsSome (map.get t.refs r) → IsInLine t r a ⊎ (times_waiting a t ≡ 0)

-- One that is made stands behind those in the line of its reference.
abbrev pub MadeJoins : Type 0
MadeJoins = (s : State) (r b : ℕ) (x : Effects) (t : State) → IsReached s → Makes s r b x t → (a : ℕ) → IsInLine s r a → DoesNotPass a b x t

-- While a call is in the line of a reference, none that is made through it goes out at once.
abbrev pub NoneGoesOut : Type 0
NoneGoesOut = (s : State) (r : ℕ) (x : Effects) (t : State) → IsReached s → SendsOut s r x t → (a : ℕ) → IsInLine s r a → ⊥

-- A call stays in the line of its reference, whatever happens, also as that takes a shorter path.
abbrev pub StaysInLine : Type 0
StaysInLine = (s : State) (r a : ℕ) (x : Effects) (t : State) → IsReached s → IsStep s x t → IsSome (map.get t.refs r) → IsInLine s r a → IsInLine t r a ⊎ (times_waiting a t ≡ 0)

-- Two calls are made through one reference. As long as the first waits, from its making on, the second does not go out as it
-- is made, and waits behind it. In the step in which the first waits no more, whichever it is, the second is not delivered
-- before it, and does not go out before it.
pub record CallsKeepOrder : Type 0 where
  pub behind : (r a b : ℕ) (x y : Effects) (s t u v w : State) → IsReached s → Makes s r a x t → Holds r a u t → Makes u r b y v → Waits a w v → IsAhead w a b
  pub leaves : (r a b : ℕ) (x y z : Effects) (s t u v w end : State) → IsReached s → Makes s r a x t → Holds r a u t → Makes u r b y v → Waits a w v → IsStep w z end → DoesNotPass a b z end
  pub made : (r a b : ℕ) (x y : Effects) (s t u v : State) → IsReached s → Makes s r a x t → Holds r a u t → Makes u r b y v → DoesNotPass a b y v
  pub out : (r a : ℕ) (x y : Effects) (s t u v : State) → IsReached s → Makes s r a x t → Holds r a u t → SendsOut u r y v → ⊥
