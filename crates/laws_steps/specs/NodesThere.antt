-- In each state to which a vat comes, what every node is of that a place names is there (docs/protocol.md, "Places"); so
-- what is settled stays settled.
use Rattle.std.specs.Prelude.{◌≡◌, ◌↔◌, ℕ, ◌<◌, false, Option, Some, IsSome, Result}
use Rattle.std.specs.FinMap as map
use Rattle.laws_acts.specs.rpc_msg.specs.declared.ids.Vat.{Vat}
use Rattle.laws_acts.specs.rpc_msg.specs.declared.ids.ObjectId.{ObjectId}
use Rattle.laws_acts.specs.rpc_msg.specs.declared.message.Message.{Message}
use Rattle.laws_acts.specs.rpc_machine.specs.declared.command.Level.{Level}
use Rattle.laws_acts.specs.rpc_machine.specs.declared.command.Command.{Command}
use Rattle.laws_acts.specs.rpc_machine.specs.declared.command.Granted.{Granted}
use Rattle.laws_acts.specs.rpc_machine.specs.declared.command.Refusal.{Refusal}
use Rattle.laws_acts.specs.rpc_machine.specs.declared.command.Effects.{Effects}
use Rattle.laws_acts.specs.rpc_machine.specs.State.{State, start}
use Rattle.laws_acts.specs.rpc_machine.specs.Down.{fallen}
use Rattle.laws_acts.specs.rpc_machine.specs.Steps.{Obeys, Receives}
use Rattle.laws_acts.specs.rpc_machine.specs.Claims.{EveryRun}
use Rattle.laws_acts.specs.rpc_machine.specs.declared.node.Node.{Node}
use Rattle.laws_acts.specs.rpc_machine.specs.declared.node.Node.TheVariants as node
use Rattle.laws_acts.specs.rpc_machine.specs.declared.entries.Import.{Import}
use Rattle.laws_acts.specs.rpc_machine.specs.Nodes.{settle, is_open, is_import}
use Rattle.laws_acts.specs.rpc_machine.specs.Places.{places, names}
use Rattle.laws_steps.specs.Settled.{IsThere, IsAmong}
use Rattle.laws_steps.specs.Callers.{IsAskedFor, CallersAreServed}

-- A vat comes from one state to the other, whatever it is commanded and whatever it receives. It may also fall because
-- there is no room for what it says.
pub data ComesTo (last : State) : State → Type 0 where
  Stays : ComesTo last last
  Commanded : {s mid : State} (c : Command) (answer : Result Granted Refusal) (effects : Effects) → Obeys s c answer effects mid → ComesTo last mid → ComesTo last s
  Received : {s mid : State} (m : Message) (effects : Effects) → Receives s m effects mid → ComesTo last mid → ComesTo last s
  Fell : {s : State} (n : ℕ) → ComesTo last (fallen s n) → ComesTo last s

-- It began as a new vat.
abbrev pub IsReached : State → Type 0
IsReached s = (vat : Vat) × (level : Level) × (bootstrap : Option ObjectId) × ComesTo s (start vat level bootstrap)

-- The vat has what the node is of: the promise, the outcome or the import; or the question, which was asked for a call
-- of the application and whose Finish was not sent.
abbrev pub Stands : State → Node → Type 0
Stands s (node.Object o) = Unit {0}
Stands s (node.Promise p) = IsSome (map.get s.promises p)
Stands s (node.Field o path) = IsSome (map.get s.outcomes o)
Stands s (node.Import e) = IsSome (map.get s.imports e.0)
Stands s (node.Pipe q path) = (c : ℕ) × IsAskedFor c (map.get s.questions q.0)
Stands s (node.Broken reason) = Unit {0}

-- Every node that a place names stands, an import is there exactly where a place names it, and was received at least
-- once, and callers have what they wait for.
pub record IsWhole (s : State) : Type 0 where
  pub there : (n : Node) → IsAmong n (places s) → Stands s n
  pub imports : (e : ℕ) → IsSome (map.get s.imports e) ↔ 0 < names s (is_import e)
  pub counts : (e : ℕ) (x : Import) → map.get s.imports e ≡ Some x → 0 < x.count
  pub callers : CallersAreServed s

abbrev pub NodesAreThere : Type 0
NodesAreThere = (s : State) → IsReached s → IsWhole s

-- At both vats in every run of two.
abbrev pub NodesThereInRuns : Type 0
NodesThereInRuns = EveryRun (λ h xs w. IsWhole w.a.core × IsWhole w.b.core)

-- So a node that is settled and there afterwards stays settled, at the same place.
abbrev pub IsSettledStill : State → State → Type 0
IsSettledStill s t = (n : Node) → IsThere t n → is_open (settle s n) ≡ false → settle t n ≡ settle s n

pub record SettledForGood : Type 0 where
  pub commands : (s : State) (c : Command) (answer : Result Granted Refusal) (effects : Effects) (t : State) → IsReached s → Obeys s c answer effects t → IsSettledStill s t
  pub messages : (s : State) (m : Message) (effects : Effects) (t : State) → IsReached s → Receives s m effects t → IsSettledStill s t
