-- What is proved of the machine and of two vats.
use Rattle.std.specs.Prelude.{◌≡◌, ℕ, zero, suc, ◌+◌, false, None, Some, IsSome, Result}
use Rattle.std.specs.FinMap as map
use Rattle.rpc_journal.specs.rpc_msg.specs.declared.message.PlainMessage.{PlainMessage}
use Rattle.rpc_journal.specs.rpc_msg.specs.declared.message.Message.TheVariants as message
use Rattle.rpc_journal.specs.rpc_msg.specs.declared.message.Message.{Message}
use Rattle.rpc_machine.specs.declared.command.Command.{Command}
use Rattle.rpc_machine.specs.declared.command.Granted.{Granted}
use Rattle.rpc_machine.specs.declared.command.Refusal.{Refusal}
use Rattle.rpc_machine.specs.declared.command.Effects.{Effects}
use Rattle.rpc_machine.specs.declared.node.Node.{Node}
use Rattle.rpc_machine.specs.State.{State}
use Rattle.rpc_machine.specs.Nodes.{link, settle}
use Rattle.rpc_machine.specs.Down.{IsUnchanged}
use Rattle.rpc_machine.specs.Steps.{Does, Handles, Obeys, Receives}
use Rattle.rpc_machine.specs.Limits.{export_count}
use Rattle.rpc_machine.specs.Descriptors.{giving}
use Rattle.rpc_machine.specs.Faults.{fault_of, is_foreign}
use Rattle.rpc_machine.specs.UnderWay.{takes_off}
use Rattle.rpc_machine.specs.World.{World}
use Rattle.rpc_machine.specs.Claims.{IdleIsNonePending}

-- What holds of each step: of a command, and of a received message.
pub record OfEachStep (P : State → Effects → State → Type 0) : Type 0 where
  pub commands : (s : State) (c : Command) (answer : Result Granted Refusal) (effects : Effects) (new : State) → Obeys s c answer effects new → P s effects new
  pub messages : (s : State) (m : Message) (effects : Effects) (new : State) → Receives s m effects new → P s effects new

-- A vat that is down stays as it is, and says nothing.
abbrev pub StaysDown : State → Effects → State → Type 0
StaysDown s effects t = IsSome s.down → IsUnchanged s effects t

-- The node stops after exactly that many links.
abbrev pub Stops : State → ℕ → Node → Type 0
Stops s zero n = link s n ≡ None
Stops s (suc d) n = (m : Node) × (link s n ≡ Some m) × Stops s d m

-- Of a node that stops anywhere: where it settles, it stops, and it settles where its link leads.
pub record SettlesWhereItLeads : Type 0 where
  pub stops : (s : State) (d : ℕ) (n : Node) → Stops s d n → link s (settle s n) ≡ None
  pub follows : (s : State) (d : ℕ) (n m : Node) → link s n ≡ Some m → Stops s d m → settle s n ≡ settle s m

-- That no call of a reference is pending can be asked.
abbrev pub IdleIsRight : Type 0
IdleIsRight = (w : World) → IdleIsNonePending w

-- The count of an export; without an entry, nothing.
abbrev pub given_out : ℕ → State → ℕ
given_out e s = export_count (map.get s.exports e)

-- The count of an export rises by the descriptors that a step sends, and falls by what a received message takes off.
pub record SendsRaiseCounts : Type 0 where
  pub commands : (e : ℕ) (s : State) (c : Command) (answer : Granted) (effects : Effects) (new : State) → Does s c answer effects new → given_out e new ≡ given_out e s + giving e effects.sends
  pub messages : (e : ℕ) (s : State) (m : PlainMessage) (effects : Effects) (new : State) → is_foreign s.level m ≡ false → fault_of s (message.Plain m) ≡ None → Handles s (message.Plain m) effects new → given_out e new + takes_off s e (message.Plain m) ≡ given_out e s + giving e effects.sends
