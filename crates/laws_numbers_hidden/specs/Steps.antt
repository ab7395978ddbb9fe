-- What goes out depends on objects by their places alone.
use Rattle.std.specs.Prelude.{◌≡◌, Result}
use Rattle.rpc_msg.specs.declared.ids.ObjectId.{ObjectId}
use Rattle.rpc_msg.specs.declared.message.Message.{Message}
use Rattle.rpc_machine.specs.declared.command.Command.{Command}
use Rattle.rpc_machine.specs.declared.command.Granted.{Granted}
use Rattle.rpc_machine.specs.declared.command.Refusal.{Refusal}
use Rattle.rpc_machine.specs.declared.command.Effects.{Effects}
use Rattle.rpc_machine.specs.State.{State}
use Rattle.rpc_machine.specs.Steps.{Obeys, Receives}
use Rattle.laws_numbers_hidden.specs.Renamed.{state_by, effects_by, command_by}

-- No two objects get the same number.
abbrev pub KeepsApart : (ObjectId → ObjectId) → Type 0
KeepsApart f = (o x : ObjectId) → f o ≡ f x → o ≡ x

-- A step with other numbers of all objects is a step. It answers the same, and the effects differ in the objects of deliveries
-- alone: the same messages are sent.
pub record StepsHideNumbers : Type 0 where
  pub commands : (f : ObjectId → ObjectId) → KeepsApart f → (s : State) (c : Command) (answer : Result Granted Refusal) (x : Effects) (t : State)
      → Obeys s c answer x t → Obeys (state_by f s) (command_by f c) answer (effects_by f x) (state_by f t)
  pub messages : (f : ObjectId → ObjectId) → KeepsApart f → (s : State) (m : Message) (x : Effects) (t : State)
      → Receives s m x t → Receives (state_by f s) m (effects_by f x) (state_by f t)
