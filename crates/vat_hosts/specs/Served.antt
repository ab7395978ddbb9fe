-- Whatever the peer of a host sends: each call that the host has its application serve is an own call of the application, or is for an
-- object that the peer was given and has not given back; none is served twice, and no own call ends twice (docs/laws/hosts.md, "One host
-- and any peer").
use Rattle.std.specs.Prelude.{◌≡◌, ◌⊎◌, ℕ, ◌+◌, ◌≤◌, nat_eq, Option, List, [], ◌∷◌, Result, flat_map}
use Rattle.rpc_msg.specs.declared.ids.ObjectId.{ObjectId}
use Rattle.rpc_msg.specs.declared.ids.Vat.{Vat}
use Rattle.rpc_msg.specs.declared.message.Message.{Message}
use Rattle.rpc_journal.specs.declared.report.Delivery.{Delivery}
use Rattle.rpc_machine.specs.declared.command.Command.{Command}
use Rattle.rpc_machine.specs.declared.command.Effects.{Effects}
use Rattle.rpc_machine.specs.declared.command.Granted.{Granted}
use Rattle.rpc_machine.specs.declared.command.Level.{Level}
use Rattle.rpc_machine.specs.declared.command.Refusal.{Refusal}
use Rattle.rpc_machine.specs.declared.node.Node.TheVariants as node
use Rattle.rpc_machine.specs.State.{State, start}
use Rattle.rpc_machine.specs.Steps.{Obeys, Receives}
use Rattle.laws_nodes.specs.Ones.{one_if}
use Rattle.laws_authority.specs.Authority.{IsOfPeer, IsOwn}
use Rattle.laws_authority.specs.Grants.{Gives}
use Rattle.laws_authority.specs.Reach.{IsIn, Reaches}
use Rattle.laws_authority.specs.Runs.{Event as Logged, DidCommand, GotMessage, RunsTo, WasGiven}
use Rattle.vat_host.specs.declared.event.Event.{Event}
use Rattle.vat_host.specs.declared.event.Event.TheVariants as event
use Rattle.vat_host.specs.Hosting.{Hosted, idle}
use Rattle.vat_hosts.specs.OneHost.{Act, ActsAll, calls_in, happened_by, happened_in, told_to}

-- ---- calls to serve

-- The peer was given the object, and it can reach it: it has not given it back.
pub record HasObject (s : State) (log : List Logged) (o : ObjectId) : Type 0 where
  pub was_given : WasGiven log o
  pub reaches : Reaches s (node.Object o)

-- The step of a command from s to t has the call served: it is an own call of the application; or the peer's, for an object that the
-- peer has, or that the command gives it.
pub record IsServedByCommand (s : State) (c : Command) (x : Effects) (log : List Logged) (y : Delivery) : Type 0 where
  pub t : State
  pub answer : Result Granted Refusal
  pub obeys : Obeys s c answer x t
  pub among : IsIn y x.deliveries
  pub rightly : IsOwn t y ⊎ (IsOfPeer t y × (HasObject s log y.object ⊎ Gives s c (node.Object y.object)))

-- The step of a message from s to t has the call served: it is an own call of the application; or the peer's, for an object that the
-- peer has.
pub record IsServedByMessage (s : State) (m : Message) (x : Effects) (log : List Logged) (y : Delivery) : Type 0 where
  pub t : State
  pub receives : Receives s m x t
  pub among : IsIn y x.deliveries
  pub rightly : IsOwn t y ⊎ (IsOfPeer t y × HasObject s log y.object)

-- A step of the log has it served.
abbrev pub WasServed : List Logged → Delivery → Type 0
WasServed [] y = ⊥
WasServed (DidCommand s c x ∷ log) y = IsServedByCommand s c x log y ⊎ WasServed log y
WasServed (GotMessage s m x ∷ log) y = IsServedByMessage s m x log y ⊎ WasServed log y

abbrev pub serves_of : ℕ → Event → ℕ
serves_of k (event.Served y) = one_if (nat_eq k y.task.0)
serves_of k e = 0

-- how often it is told that the task with the number k is to be served
abbrev pub times_served : ℕ → List Event → ℕ
times_served k [] = 0
times_served k (e ∷ es) = serves_of k e + times_served k es

-- ---- own calls that end

abbrev pub ends_of : ℕ → Event → ℕ
ends_of k (event.Ended x) = one_if (nat_eq k x.call.0)
ends_of k e = 0

-- how often it is told that the call with the number k ended
abbrev pub times_told : ℕ → List Event → ℕ
times_told k [] = 0
times_told k (e ∷ es) = ends_of k e + times_told k es

-- ---- the law

-- Such a host is one vat with its peer: it came to where it is in a run in which that happened which was done; and what its application
-- was told of calls, or is still to be told, is what the steps of the run left to tell, in order, each once.
pub record IsOneVat (xs : List Act) (h : Hosted) : Type 0 where
  pub log : List Logged
  pub ran : RunsTo h.core log
  pub happened : happened_in log ≡ flat_map happened_by xs
  pub told : told_to xs h ≡ calls_in log
  pub served : (y : Delivery) → IsIn (event.Served y) (told_to xs h) → WasServed log y
  pub tasks : (k : ℕ) → times_served k (told_to xs h) ≤ 1
  pub ended : (k : ℕ) → times_told k (told_to xs h) ≤ 1

-- Whatever is done with a new host.
abbrev pub HostsServeWhatIsGiven : Type 0
HostsServeWhatIsGiven = (vat : Vat) (level : Level) (root : Option ObjectId) (xs : List Act) (h : Hosted) → ActsAll (idle (start vat level root)) xs h → IsOneVat xs h
