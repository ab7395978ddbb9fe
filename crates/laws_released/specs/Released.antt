-- The step in which an object is released, and what holds from then on (docs/laws/released.md).
use Rattle.std.specs.Prelude.{◌≡◌, ◌≢◌, ◌⊎◌, ℕ, Some, Result}
use Rattle.rpc_msg.specs.declared.ids.ObjectId.{ObjectId}
use Rattle.rpc_msg.specs.declared.message.Message.{Message}
use Rattle.rpc_machine.specs.rpc_journal.specs.declared.report.Delivery.{Delivery}
use Rattle.rpc_machine.specs.declared.command.Command.{Command}
use Rattle.rpc_machine.specs.declared.command.Granted.{Granted}
use Rattle.rpc_machine.specs.declared.command.Refusal.{Refusal}
use Rattle.rpc_machine.specs.declared.command.Effects.{Effects}
use Rattle.rpc_machine.specs.State.{State}
use Rattle.rpc_machine.specs.Places.{names}
use Rattle.rpc_machine.specs.Down.{fallen}
use Rattle.rpc_machine.specs.Steps.{Obeys, Receives}
use Rattle.laws_steps.specs.NodesThere.{ComesTo}
use Rattle.laws_steps.specs.NodesThere as run
use Rattle.laws_authority.specs.Reach.{IsIn}
use Rattle.laws_released.specs.Names.{is_object, IsNamed, Hosts}

-- The step from s to t releases the object: a place named it before, none does after, and it is not the bootstrap object.
pub record IsReleased (s t : State) (o : ObjectId) : Type 0 where
  pub before : IsNamed s o
  pub after : names t (is_object o) ≡ 0
  pub other : s.bootstrap ≢ Some o

-- A vat comes to the last state, and no Host of the object is done on the way.
pub data ComesUnhosted (o : ObjectId) (last : State) : State → Type 0 where
  Stays : ComesUnhosted o last last
  Commanded : {s mid : State} (c : Command) (answer : Result Granted Refusal) (x : Effects) → Obeys s c answer x mid → (Hosts c answer o → ⊥) → ComesUnhosted o last mid → ComesUnhosted o last s
  Received : {s mid : State} (m : Message) (x : Effects) → Receives s m x mid → ComesUnhosted o last mid → ComesUnhosted o last s
  Fell : {s : State} (n : ℕ) → ComesUnhosted o last (fallen s n) → ComesUnhosted o last s

-- Take an object that no place of s names, and that is not the bootstrap object. Until it is hosted, no place names it and
-- no call is delivered to it. That includes the step right after t, whatever it is.
pub record ReleasedStays : Type 0 where
  pub unnamed : (o : ObjectId) (t s : State) → ComesUnhosted o t s → s.bootstrap ≢ Some o → names s (is_object o) ≡ 0 → names t (is_object o) ≡ 0
  pub commands : (o : ObjectId) (t s : State) → ComesUnhosted o t s → s.bootstrap ≢ Some o → names s (is_object o) ≡ 0
      → (c : Command) (answer : Result Granted Refusal) (x : Effects) (u : State) → Obeys t c answer x u → (y : Delivery) → IsIn y x.deliveries → y.object ≢ o
  pub messages : (o : ObjectId) (t s : State) → ComesUnhosted o t s → s.bootstrap ≢ Some o → names s (is_object o) ≡ 0
      → (m : Message) (x : Effects) (u : State) → Receives t m x u → (y : Delivery) → IsIn y x.deliveries → y.object ≢ o

-- Some step of the way releases the object, or the vat falls on the way because there is no room for what it says.
abbrev pub IsReleasedIn : (o : ObjectId) (t s : State) → ComesTo t s → Type 0
IsReleasedIn o t s run.Stays = ⊥
IsReleasedIn o t s (run.Commanded {mid = mid} c a x h more) = IsReleased s mid o ⊎ IsReleasedIn o t mid more
IsReleasedIn o t s (run.Received {mid = mid} m x h more) = IsReleased s mid o ⊎ IsReleasedIn o t mid more
IsReleasedIn o t s (run.Fell n more) = Unit {0}

-- An object that was named, is named no more and is not the bootstrap object was released on the way: none is missed.
abbrev pub NoneIsMissed : Type 0
NoneIsMissed = (o : ObjectId) (t s : State) (k : ComesTo t s) → s.bootstrap ≢ Some o → IsNamed s o → names t (is_object o) ≡ 0 → IsReleasedIn o t s k
