-- Whatever a peer sends, its calls are delivered to those objects alone that it was given (docs/laws/authority.md).
use Rattle.std.specs.Prelude.{◌≡◌, ◌⊎◌, ℕ, Option, None, Some, IsSome, List, ◌∷◌, Result}
use Rattle.std.specs.FinMap as map
use Rattle.rpc_msg.specs.declared.ids.ObjectId.{ObjectId}
use Rattle.rpc_msg.specs.declared.parts.Target.{Target}
use Rattle.rpc_msg.specs.declared.parts.Target.TheVariants.{ImportedCap, PromisedAnswer}
use Rattle.rpc_msg.specs.declared.message.Call.{Call}
use Rattle.rpc_msg.specs.declared.message.PlainMessage.TheVariants as plain
use Rattle.rpc_msg.specs.declared.message.Message.{Message}
use Rattle.rpc_msg.specs.declared.message.Message.TheVariants as message
use Rattle.rpc_machine.specs.rpc_journal.specs.declared.report.Delivery.{Delivery}
use Rattle.rpc_machine.specs.declared.node.Node.{Node}
use Rattle.rpc_machine.specs.declared.node.Node.TheVariants as node
use Rattle.rpc_machine.specs.declared.command.Command.{Command}
use Rattle.rpc_machine.specs.declared.command.Granted.{Granted}
use Rattle.rpc_machine.specs.declared.command.Refusal.{Refusal}
use Rattle.rpc_machine.specs.declared.command.Effects.{Effects}
use Rattle.rpc_machine.specs.declared.calls.Caller.{Caller}
use Rattle.rpc_machine.specs.declared.calls.Caller.TheVariants as caller
use Rattle.rpc_machine.specs.declared.calls.KeptOutcome.{KeptOutcome}
use Rattle.rpc_machine.specs.declared.calls.WaitingCall.{WaitingCall}
use Rattle.rpc_machine.specs.State.{State}
use Rattle.rpc_machine.specs.Faults.{fault_of}
use Rattle.rpc_machine.specs.Steps.{Obeys, Receives}
use Rattle.laws_steps.specs.NodesThere.{IsReached}
use Rattle.laws_authority.specs.Reach.{IsIn, IsForPeer, WaitsAt, Reaches, MayReach}
use Rattle.laws_authority.specs.Grants.{LeadsTo, Gives, Opens}
use Rattle.laws_authority.specs.Runs.{Event, DidCommand, RunsTo, WasGiven}

-- ---- Whose call a delivery is of

-- Who is told of the outcome is the application.
abbrev pub IsApplication : Caller → Type 0
IsApplication (caller.Application c) = Unit {0}
IsApplication (caller.Peer q) = ⊥

-- The outcome is there, and it is of a call of the application.
abbrev pub IsForApplication : Option KeptOutcome → Type 0
IsForApplication None = ⊥
IsForApplication (Some x) = IsApplication x.caller

-- The delivery is of a call of the peer's: the outcome of its task is for the peer.
abbrev pub IsOfPeer : State → Delivery → Type 0
IsOfPeer t y = (o : ℕ) × (map.get t.tasks y.task.0 ≡ Some o) × IsForPeer (map.get t.outcomes o)

-- The delivery is of a call of the vat's own application.
abbrev pub IsOwn : State → Delivery → Type 0
IsOwn t y = (o : ℕ) × (map.get t.tasks y.task.0 ≡ Some o) × IsForApplication (map.get t.outcomes o)

-- Each delivery of a step is one of the two, so what is said of them leaves none out.
pub record EachIsOfPeerOrOwn : Type 0 where
  pub commands : (s : State) (c : Command) (answer : Result Granted Refusal) (x : Effects) (t : State) → IsReached s → Obeys s c answer x t → (y : Delivery) → IsIn y x.deliveries → IsOfPeer t y ⊎ IsOwn t y
  pub messages : (s : State) (m : Message) (x : Effects) (t : State) → IsReached s → Receives s m x t → (y : Delivery) → IsIn y x.deliveries → IsOfPeer t y ⊎ IsOwn t y

-- ---- Each step

-- A call waits at a node that leads there.
abbrev pub IsWaitedFor : State → Node → Type 0
IsWaitedFor s n = (c : WaitingCall) × (p : Node) × WaitsAt s c p × LeadsTo s p n

-- The step of a command from s to t gives the peer what the command gives, and no more.
pub record GivesNoMore (s : State) (c : Command) (x : Effects) (t : State) : Type 0 where
  pub objects : (o : ObjectId) → MayReach t (node.Object o) → MayReach s (node.Object o) ⊎ Gives s c (node.Object o)
  -- a call of the peer's is delivered to what it could reach before, or is given
  pub deliveries : (y : Delivery) → IsIn y x.deliveries → IsOfPeer t y → Reaches s (node.Object y.object) ⊎ Gives s c (node.Object y.object)
  -- each delivery has its task
  pub tasks : (y : Delivery) → IsIn y x.deliveries → IsSome (map.get t.tasks y.task.0)

-- The step of a message from s to t takes nothing that the peer was not given.
pub record TakesNothing (s : State) (m : Message) (x : Effects) (t : State) : Type 0 where
  pub objects : (o : ObjectId) → MayReach t (node.Object o) → MayReach s (node.Object o) ⊎ Opens s m o
  -- a call of the peer's is delivered to what it could reach before
  pub deliveries : (y : Delivery) → IsIn y x.deliveries → IsOfPeer t y → Reaches s (node.Object y.object)
  -- each delivery has its task
  pub tasks : (y : Delivery) → IsIn y x.deliveries → IsSome (map.get t.tasks y.task.0)
  -- any other call is delivered there too, or a call waited that leads there
  pub others : (y : Delivery) → IsIn y x.deliveries → Reaches s (node.Object y.object) ⊎ IsWaitedFor s (node.Object y.object)

-- No step lets the peer reach more than it is given.
pub record AuthorityIsKept : Type 0 where
  pub commands : (s : State) (c : Command) (answer : Result Granted Refusal) (x : Effects) (t : State) → Obeys s c answer x t → GivesNoMore s c x t
  pub messages : (s : State) (m : Message) (x : Effects) (t : State) → IsReached s → Receives s m x t → TakesNothing s m x t

-- ---- Each run

-- What the peer can reach, and where its calls are delivered, it was given.
pub record AuthorityIsGiven : Type 0 where
  pub reached : (s : State) (log : List Event) → RunsTo s log → (o : ObjectId) → MayReach s (node.Object o) → WasGiven log o
  -- in the step of a command a call of the peer's is delivered to what was given before, or by this command
  pub commands : (s : State) (log : List Event) → RunsTo s log → (c : Command) (answer : Result Granted Refusal) (x : Effects) (t : State) → Obeys s c answer x t
      → (y : Delivery) → IsIn y x.deliveries → IsOfPeer t y → WasGiven (DidCommand s c x ∷ log) y.object
  -- in the step of a message it is delivered to what was given before
  pub messages : (s : State) (log : List Event) → RunsTo s log → (m : Message) (x : Effects) (t : State) → Receives s m x t
      → (y : Delivery) → IsIn y x.deliveries → IsOfPeer t y → WasGiven log y.object

-- ---- All was given back

-- The peer has no export and no answer: it gave all back.
pub record HoldsNothing (s : State) : Type 0 where
  pub exports : (e : ℕ) → map.get s.exports e ≡ None
  pub answers : (q : ℕ) → map.get s.answers q ≡ None

-- Then it reaches nothing, and no message has a call of the peer's delivered.
pub record AuthorityEnds : Type 0 where
  pub nothing : (s : State) → IsReached s → HoldsNothing s → (n : Node) → Reaches s n → ⊥
  pub messages : (s : State) (m : Message) (x : Effects) (t : State) → IsReached s → HoldsNothing s → Receives s m x t → (y : Delivery) → IsIn y x.deliveries → IsOfPeer t y → ⊥

-- ---- Targets

-- The export or the answer that the target names is there.
abbrev pub IsAimed : State → Target → Type 0
IsAimed s (ImportedCap e) = IsSome (map.get s.exports e.0)
IsAimed s (PromisedAnswer q path) = IsSome (map.get s.answers q.0)

-- A Call whose target is not there is a fault.
abbrev pub CallsAreAimed : Type 0
CallsAreAimed = (s : State) (c : Call) → fault_of s (message.Plain (plain.Call c)) ≡ None → IsAimed s c.target
