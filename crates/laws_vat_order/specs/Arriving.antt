-- Whatever the peer sends: the calls that it aims at one target are delivered, or sent on, in the order in which they came.
use Rattle.std.specs.Prelude.{◌≡◌, ◌⊎◌, ℕ, ◌<◌, Option, None, Some, Result}
use Rattle.std.specs.FinMap as map
use Rattle.rpc_msg.specs.declared.parts.Target.{Target}
use Rattle.rpc_msg.specs.declared.message.Call.{Call}
use Rattle.rpc_msg.specs.declared.message.PlainMessage.TheVariants as plain
use Rattle.rpc_msg.specs.declared.message.Message.{Message}
use Rattle.rpc_msg.specs.declared.message.Message.TheVariants as message
use Rattle.rpc_machine.specs.declared.node.Node.{Node}
use Rattle.rpc_machine.specs.declared.command.Command.{Command}
use Rattle.rpc_machine.specs.declared.command.Granted.{Granted}
use Rattle.rpc_machine.specs.declared.command.Refusal.{Refusal}
use Rattle.rpc_machine.specs.declared.command.Effects.{Effects}
use Rattle.rpc_machine.specs.declared.entries.AnswerEntry.{AnswerEntry}
use Rattle.rpc_machine.specs.State.{State}
use Rattle.rpc_machine.specs.Nodes.{settle}
use Rattle.rpc_machine.specs.Faults.{target_node}
use Rattle.rpc_machine.specs.Steps.{Obeys, Receives}
use Rattle.laws_steps.specs.NodesThere.{IsReached}
use Rattle.laws_vat_order.specs.Lines.{IsAt, IsAhead, times_waiting}
use Rattle.laws_vat_order.specs.Order.{DoesNotPass}

-- ---- Steps

-- A step: of any command, or of any message.
pub data IsStep (s : State) (x : Effects) (t : State) : Type 0 where
  OfCommand : (c : Command) (answer : Result Granted Refusal) → Obeys s c answer x t → IsStep s x t
  OfMessage : (m : Message) → Receives s m x t → IsStep s x t

-- The outcome of the answer has that key.
abbrev pub IsAnswer : ℕ → Option AnswerEntry → Type 0
IsAnswer k None = ⊥
IsAnswer k (Some a) = a.outcome ≡ k

-- In the step a Call of the peer's comes and is taken: k is the key of its outcome.
pub record Comes (s : State) (c : Call) (k : ℕ) (x : Effects) (t : State) : Type 0 where
  pub up : s.down ≡ None
  pub received : Receives s (message.Plain (plain.Call c)) x t
  pub answer : IsAnswer k (map.get t.answers c.question.0)

-- ---- Ways

-- A vat comes from the state to the last one, and the call waits at each on the way.
pub data Waits (a : ℕ) (last : State) : State → Type 0 where
  Here : 0 < times_waiting a last → Waits a last last
  Further : {s mid : State} (x : Effects) → 0 < times_waiting a s → IsStep s x mid → Waits a last mid → Waits a last s

-- And at each the target stands for the node.
pub data Stands (a : ℕ) (target : Target) (n : Node) (last : State) : State → Type 0 where
  StandsHere : 0 < times_waiting a last → target_node last target ≡ n → Stands a target n last last
  StandsFurther : {s mid : State} (x : Effects) → 0 < times_waiting a s → target_node s target ≡ n → IsStep s x mid → Stands a target n last mid → Stands a target n last s

-- ---- The law

-- A call that came waits where its target leads, or waits no more.
abbrev pub Lands : Type 0
Lands = (s : State) (c : Call) (a : ℕ) (x : Effects) (t : State) → IsReached s → Comes s c a x t → target_node t c.target ≡ target_node s c.target → IsAt t a (settle t (target_node s c.target)) ⊎ (times_waiting a t ≡ 0)

-- One that comes stands behind those that wait where its target leads.
abbrev pub Joins : Type 0
Joins = (s : State) (c : Call) (b : ℕ) (x : Effects) (t : State) → IsReached s → Comes s c b x t → (a : ℕ) → IsAt s a (settle s (target_node s c.target)) → DoesNotPass a b x t

-- Two calls come, aimed at one target, which stands for one node from the first to the second. As long as the first waits,
-- from its coming on, the second waits behind it. In the step in which the first waits no more, whichever it is, the second is
-- not delivered before it, and is not sent on before it. (A call that waits no more was delivered, sent on, or broken, or the
-- vat went down.)
pub record ArrivalsKeepOrder : Type 0 where
  pub behind : (first second : Call) (n : Node) (a b : ℕ) (x y : Effects) (s t u v w : State) → IsReached s
      → target_node s first.target ≡ n → Comes s first a x t → Stands a first.target n u t
      → second.target ≡ first.target → Comes u second b y v → Waits a w v
      → IsAhead w a b
  pub leaves : (first second : Call) (n : Node) (a b : ℕ) (x y z : Effects) (s t u v w end : State) → IsReached s
      → target_node s first.target ≡ n → Comes s first a x t → Stands a first.target n u t
      → second.target ≡ first.target → Comes u second b y v → Waits a w v → IsStep w z end
      → DoesNotPass a b z end
  -- in the step in which the second comes, it is so too
  pub comes : (first second : Call) (n : Node) (a b : ℕ) (x y : Effects) (s t u v : State) → IsReached s
      → target_node s first.target ≡ n → Comes s first a x t → Stands a first.target n u t
      → second.target ≡ first.target → Comes u second b y v
      → DoesNotPass a b y v
