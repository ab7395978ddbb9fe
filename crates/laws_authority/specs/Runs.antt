-- A run of one vat with any peer, and what its application gave the peer in it (docs/laws/authority.md, "Runs of one vat").
use Rattle.std.specs.Prelude.{◌⊎◌, ℕ, Option, List, [], ◌∷◌, Result, Ok, Err}
use Rattle.rpc_msg.specs.declared.ids.Vat.{Vat}
use Rattle.rpc_msg.specs.declared.ids.ObjectId.{ObjectId}
use Rattle.rpc_msg.specs.declared.message.Message.{Message}
use Rattle.rpc_machine.specs.declared.node.Node.TheVariants as node
use Rattle.rpc_machine.specs.declared.command.Command.{Command}
use Rattle.rpc_machine.specs.declared.command.Granted.{Granted}
use Rattle.rpc_machine.specs.declared.command.Refusal.{Refusal}
use Rattle.rpc_machine.specs.declared.command.Effects.{Effects}
use Rattle.rpc_machine.specs.declared.command.Level.{Level}
use Rattle.rpc_machine.specs.State.{State, start}
use Rattle.rpc_machine.specs.Down.{fallen}
use Rattle.rpc_machine.specs.Steps.{Obeys, Receives}
use Rattle.laws_authority.specs.Grants.{Gives, Opens}

-- In that state a command of the application was done, or a message came; and these were the effects.
pub data Event : Type 0 where
  DidCommand : (s : State) (c : Command) (x : Effects) → Event
  GotMessage : (s : State) (m : Message) (x : Effects) → Event

-- The log after a command: a refused one is not in it.
abbrev pub logged : State → Command → Result Granted Refusal → Effects → List Event → List Event
logged s c (Ok g) x log = DidCommand s c x ∷ log
logged s c (Err r) x log = log

-- A vat came from its start to the state, whatever its application commanded and whatever it received. The log has what
-- happened, the latest first. The vat may also have fallen because there was no room for what it says.
pub data RunsTo : State → List Event → Type 0 where
  New : (vat : Vat) (level : Level) (bootstrap : Option ObjectId) → RunsTo (start vat level bootstrap) []
  Commanded : {s t : State} {log : List Event} (c : Command) (answer : Result Granted Refusal) (x : Effects) → RunsTo s log → Obeys s c answer x t → RunsTo t (logged s c answer x log)
  Received : {s t : State} {log : List Event} (m : Message) (x : Effects) → RunsTo s log → Receives s m x t → RunsTo t (GotMessage s m x ∷ log)
  Fell : {s : State} {log : List Event} (n : ℕ) → RunsTo s log → RunsTo (fallen s n) log

-- The peer was given the object: by a command of the application, or it is the bootstrap object and a Bootstrap came.
abbrev pub WasGiven : List Event → ObjectId → Type 0
WasGiven [] o = ⊥
WasGiven (DidCommand s c x ∷ log) o = Gives s c (node.Object o) ⊎ WasGiven log o
WasGiven (GotMessage s m x ∷ log) o = Opens s m o ⊎ WasGiven log o
