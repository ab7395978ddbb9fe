-- No call passes another in its line, whatever the peer sends.
use Rattle.std.specs.Prelude.{◌≡◌, ◌⊎◌, ℕ, ◌≤◌, Result}
use Rattle.rpc_msg.specs.declared.message.Message.{Message}
use Rattle.rpc_machine.specs.declared.command.Command.{Command}
use Rattle.rpc_machine.specs.declared.command.Granted.{Granted}
use Rattle.rpc_machine.specs.declared.command.Refusal.{Refusal}
use Rattle.rpc_machine.specs.declared.command.Effects.{Effects}
use Rattle.rpc_machine.specs.State.{State}
use Rattle.rpc_machine.specs.Nodes.{settle}
use Rattle.rpc_machine.specs.declared.node.Node.{Node}
use Rattle.rpc_machine.specs.Steps.{Obeys, Receives}
use Rattle.laws_steps.specs.NodesThere.{IsReached}
use Rattle.laws_steps.specs.Settled.{IsThere}
use Rattle.laws_vat_order.specs.Lines.{IsAt, IsAhead, times_waiting, delivered, sent_on, Lacks, NotBehind}

abbrev pub WaitsOnce : Type 0
WaitsOnce = (s : State) → IsReached s → (a : ℕ) → times_waiting a s ≤ 1

-- After a step the first call still stands ahead of the second, which was not delivered and did not go out; or the first
-- waits no more, and was not delivered behind the second, nor did it go out behind it.
abbrev pub DoesNotPass : ℕ → ℕ → Effects → State → Type 0
DoesNotPass a b x t =
    (IsAhead t a b × Lacks b (delivered t.tasks x.deliveries) × Lacks b (sent_on t.questions x.sends))
    ⊎ ((times_waiting a t ≡ 0) × NotBehind a b (delivered t.tasks x.deliveries) × NotBehind a b (sent_on t.questions x.sends))

pub record NonePasses : Type 0 where
  pub commands : (s : State) (c : Command) (answer : Result Granted Refusal) (x : Effects) (t : State) → IsReached s → Obeys s c answer x t → (a b : ℕ) → IsAhead s a b → DoesNotPass a b x t
  pub messages : (s : State) (m : Message) (x : Effects) (t : State) → IsReached s → Receives s m x t → (a b : ℕ) → IsAhead s a b → DoesNotPass a b x t

-- The call that waited where the node leads waits where it leads now, or waits no more. (Nothing is said of a node that is
-- gone.)
abbrev pub Follows : ℕ → Node → State → Type 0
Follows a n t = IsThere t n → IsAt t a (settle t n) ⊎ (times_waiting a t ≡ 0)

pub record CallsFollow : Type 0 where
  pub commands : (s : State) (c : Command) (answer : Result Granted Refusal) (x : Effects) (t : State) → IsReached s → Obeys s c answer x t → (a : ℕ) (n : Node) → IsAt s a (settle s n) → Follows a n t
  pub messages : (s : State) (m : Message) (x : Effects) (t : State) → IsReached s → Receives s m x t → (a : ℕ) (n : Node) → IsAt s a (settle s n) → Follows a n t
