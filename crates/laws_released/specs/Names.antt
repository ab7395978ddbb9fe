-- Where calls are delivered, and how an object comes to be named, by the places of a vat (docs/laws/released.md;
-- docs/protocol.md, "Places").
use Rattle.std.specs.Prelude.{◌≡◌, ◌⊎◌, ◌<◌, Bool, Result, Ok, Err}
use Rattle.rpc_msg.specs.declared.ids.ObjectId.{ObjectId}
use Rattle.rpc_msg.specs.declared.message.Message.{Message}
use Rattle.rpc_machine.specs.rpc_journal.specs.declared.report.Delivery.{Delivery}
use Rattle.rpc_machine.specs.declared.node.Node.{Node}
use Rattle.rpc_machine.specs.declared.command.Command.{Command}
use Rattle.rpc_machine.specs.declared.command.Command.TheVariants as command
use Rattle.rpc_machine.specs.declared.command.Granted.{Granted}
use Rattle.rpc_machine.specs.declared.command.Refusal.{Refusal}
use Rattle.rpc_machine.specs.declared.command.Effects.{Effects}
use Rattle.rpc_machine.specs.State.{State}
use Rattle.rpc_machine.specs.Places.{names}
use Rattle.rpc_machine.specs.Steps.{Obeys, Receives}
use Rattle.rpc_uses.specs.Objects.{is_the_object}
use Rattle.laws_acts.specs.Moments.{Moment}
use Rattle.laws_acts.specs.SmallActs.{Acts, DoesActs, HandlesActs}
use Rattle.laws_authority.specs.Reach.{IsIn}
use Rattle.laws_authority.specs.Grants.{Opens}

-- The node is that object.
abbrev pub is_object : ObjectId → Node → Bool
is_object o = is_the_object o.0

-- A place of the vat names the object.
abbrev pub IsNamed : State → ObjectId → Type 0
IsNamed s o = 0 < names s (is_object o)

-- Each delivery of a step is to an object that a place named before the step. Nothing more is asked of the state, and
-- neither a Host nor a Bootstrap is an exception.
pub record DeliveriesAreNamed : Type 0 where
  pub commands : (s : State) (c : Command) (answer : Result Granted Refusal) (x : Effects) (t : State) → Obeys s c answer x t → (y : Delivery) → IsIn y x.deliveries → IsNamed s y.object
  pub messages : (s : State) (m : Message) (x : Effects) (t : State) → Receives s m x t → (y : Delivery) → IsIn y x.deliveries → IsNamed s y.object

-- The command is a Host of the object, and it was done.
abbrev pub Hosts : Command → Result Granted Refusal → ObjectId → Type 0
Hosts c (Ok given) o = c ≡ command.Host o
Hosts c (Err r) o = ⊥

-- What is named after a step was named before it, was hosted in it, or is the bootstrap object after a Bootstrap.
pub record NamesComeByHost : Type 0 where
  pub commands : (s : State) (c : Command) (answer : Result Granted Refusal) (x : Effects) (t : State) → Obeys s c answer x t → (o : ObjectId) → IsNamed t o → IsNamed s o ⊎ Hosts c answer o
  pub messages : (s : State) (m : Message) (x : Effects) (t : State) → Receives s m x t → (o : ObjectId) → IsNamed t o → IsNamed s o ⊎ Opens s m o

-- The object of a Host that was done is named after its step.
abbrev pub HostedIsNamed : Type 0
HostedIsNamed = (s : State) (o : ObjectId) (given : Granted) (x : Effects) (t : State) → Obeys s (command.Host o) (Ok given) x t → IsNamed t o

-- The same holds at each moment of a step. So only the bootstrap object can be named in a step and neither before nor after.
pub record NamedWithin : Type 0 where
  pub commands : (s : State) (c : Command) (given : Granted) (x : Effects) (t : State) (k : DoesActs s c given x t) (d : Moment) → Acts d k.started → (o : ObjectId) → IsNamed d.state o → IsNamed s o ⊎ (c ≡ command.Host o)
  pub messages : (s : State) (m : Message) (x : Effects) (t : State) (k : HandlesActs s m x t) (d : Moment) → Acts d k.consumed → (o : ObjectId) → IsNamed d.state o → IsNamed s o ⊎ Opens s m o
