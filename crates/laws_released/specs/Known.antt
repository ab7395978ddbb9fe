-- Who keeps a list of objects knows which of them are released, with no search (docs/laws/released.md).
use Rattle.std.specs.Prelude.{◌≡◌, ◌≢◌, ◌⊎◌, ℕ, ◌+◌, cond, Option, None, Some, IsSome, IsTrue, Result}
use Rattle.std.specs.FinMap as map
use Rattle.finite_maps.specs.Tally.{Map}
use Rattle.rpc_msg.specs.declared.ids.ObjectId.{ObjectId}
use Rattle.rpc_msg.specs.declared.ids.Vat.{Vat}
use Rattle.rpc_msg.specs.declared.message.Message.{Message}
use Rattle.rpc_machine.specs.declared.command.Command.{Command}
use Rattle.rpc_machine.specs.declared.command.Granted.{Granted}
use Rattle.rpc_machine.specs.declared.command.Level.{Level}
use Rattle.rpc_machine.specs.declared.command.Refusal.{Refusal}
use Rattle.rpc_machine.specs.declared.command.Effects.{Effects}
use Rattle.rpc_machine.specs.State.{State, start}
use Rattle.rpc_machine.specs.Steps.{Obeys, Receives}
use Rattle.rpc_uses.specs.Objects.{named_objects, names_object}
use Rattle.laws_released.specs.Names.{IsNamed, Hosts}

-- Objects of an application, by their numbers.
abbrev pub Objects : Type 0
Objects = Map (Unit {0})

-- Among them is each object that a place of the vat names, and its bootstrap object.
abbrev pub KnowsAll : State → Objects → Type 0
KnowsAll s known = (o : ObjectId) → IsNamed s o ⊎ (s.bootstrap ≡ Some o) → IsSome (map.get known o.0)

-- If they are among them before a step, they are after it, once an object is added that it hosted. In a new vat the bootstrap object
-- alone has to be.
pub record StaysKnown : Type 0 where
  pub commands : (s : State) (c : Command) (answer : Result Granted Refusal) (x : Effects) (t : State) → Obeys s c answer x t
      → (known : Objects) → KnowsAll s known → (o : ObjectId) → IsNamed t o ⊎ (t.bootstrap ≡ Some o) → IsSome (map.get known o.0) ⊎ Hosts c answer o
  pub messages : (s : State) (m : Message) (x : Effects) (t : State) → Receives s m x t → (known : Objects) → KnowsAll s known → KnowsAll t known
  pub new : (v : Vat) (l : Level) (root : Option ObjectId) (known : Objects) → ((o : ObjectId) → root ≡ Some o → IsSome (map.get known o.0)) → KnowsAll (start v l root) known

-- ---- How many there are

-- 1 if there is a bootstrap object and no place names it, else 0
abbrev pub unnamed_root : State → Option ObjectId → ℕ
unnamed_root s None = 0
unnamed_root s (Some o) = cond (names_object s o) 0 1

-- how many objects are known at least: those that places name, and the bootstrap object
abbrev pub least_known : State → ℕ
least_known s = named_objects s + unnamed_root s s.bootstrap

-- If no more are known than that, a place names each but the bootstrap object.
abbrev pub CountTells : Type 0
CountTells =
    (s : State) (known : Objects) → KnowsAll s known → map.len known ≡ least_known s
    → (o : ObjectId) → IsSome (map.get known o.0) → s.bootstrap ≢ Some o → IsTrue (names_object s o)
