-- What a store says of its vat: the machine's state, and what holds of its parts together.
use Rattle.std.specs.Prelude.{◌≡◌, ℕ, ◌+◌, ◌≤◌, ◌<◌, Option, None, Some, List, [], length}
use Rattle.std.specs.List.{Contains}
use Rattle.std.specs.FinMap as map
use Rattle.finite_maps.specs.Tally.{Map}
use Rattle.laws_acts.specs.Alike.{places_beside}
use Rattle.rpc_machine.specs.declared.node.Node.{Node}
use Rattle.rpc_machine.specs.declared.calls.Promise.{Promise}
use Rattle.rpc_machine.specs.declared.calls.Promise.TheVariants as promise
use Rattle.rpc_machine.specs.declared.calls.Value.{Value}
use Rattle.rpc_machine.specs.declared.calls.KeptOutcome.{KeptOutcome}
use Rattle.rpc_machine.specs.declared.entries.Question.{Question}
use Rattle.rpc_machine.specs.declared.entries.Returned.{Returned}
use Rattle.rpc_machine.specs.declared.entries.Role.{Role}
use Rattle.rpc_machine.specs.declared.entries.Role.TheVariants as role
use Rattle.rpc_machine.specs.State.{State}
use Rattle.rpc_machine.specs.Nodes.{links}
use Rattle.rpc_machine.specs.Collecting.{CallerIsDone}
use Rattle.rpc_machine.specs.Sweeping.{IsNotSent}
use Rattle.rpc_machine.specs.Limits.{IsWithin, held, held_limit, number_limit}
use Rattle.core_refcounts.specs.Names.{Names, Counted, Counts, times, times_named, HasRoom, HasSpare, all_with_rooms}
use Rattle.core_waits.specs.Waiting.{Waiting}
use Rattle.core_store.specs.declared.store.Store.{Store}

-- The machine's state that it holds.
abbrev pub state_of : Store → State
state_of x = record {
  vat = x.vat;
  level = x.level;
  bootstrap = x.bootstrap;
  questions = x.questions.entries;
  answers = x.answers.entries;
  imports = x.imports.entries;
  exports = x.exports.entries;
  refs = x.refs.entries;
  calls = x.calls.entries;
  tasks = x.tasks.entries;
  unsettled = x.unsettled.entries;
  promises = x.waits.promises;
  outcomes = x.waits.outcomes;
  embargoes = x.waits.embargoes;
  next_ref = x.next_ref;
  next_call = x.next_call;
  next_task = x.next_task;
  next_promise = x.next_promise;
  down = x.down;
}

-- The nodes that are named: by the state's places, and by the calls that were taken out to be routed.
abbrev pub all_named : Store → List Node
all_named x = places_beside x.waits.taken (state_of x)

-- No entry has a number to come.
abbrev pub IsFresh : {X : Type 0} → Map X → ℕ → Type 0
IsFresh m next = (k : ℕ) → next ≤ k → map.get m k ≡ None

-- ---- What may have to go is noted

abbrev pub IsFixed : Option Promise → Type 0
IsFixed None = ⊥
IsFixed (Some (promise.Open calls)) = ⊥
IsFixed (Some (promise.Fixed to)) = Unit {0}

abbrev pub IsToldTo : State → ℕ → KeptOutcome → Option Value → Type 0
IsToldTo s o x None = ⊥
IsToldTo s o x (Some v) = (x.waiting ≡ []) × CallerIsDone s o x.caller

-- The outcome is known, nothing waits for it, and nobody is still to be told.
abbrev pub IsTold : State → ℕ → Option KeptOutcome → Type 0
IsTold s o None = ⊥
IsTold s o (Some x) = IsToldTo s o x x.value

abbrev pub IsThere : {X : Type 0} → Option X → Type 0
IsThere None = ⊥
IsThere (Some x) = Unit {0}

abbrev pub HasReturned : Option Returned → Type 0
HasReturned None = ⊥
HasReturned (Some said) = Unit {0}

-- Counted zero times it is noted.
abbrev pub IsNoted : Counted → ℕ → Type 0
IsNoted c k = times c.counts k ≡ 0 → Contains c.noted k

-- A relay's question is noted once its Return came, whatever names it; a direct one once the application finished the
-- call.
abbrev pub IsNotedFor : State → Counted → ℕ → Question → Role → Type 0
IsNotedFor s c q x (role.Relay o) = HasReturned x.returned → Contains c.noted q
IsNotedFor s c q x (role.Direct call) = map.get s.calls call.0 ≡ None → IsNoted c q

-- A question whose Finish is still to be sent.
abbrev pub IsNotedAs : State → Counted → ℕ → Option Question → Type 0
IsNotedAs s c q None = Unit {0}
IsNotedAs s c q (Some x) = IsNotSent x.finish → IsNotedFor s c q x x.role

-- What would go but for its names, and is named nowhere, is noted; and so is each question that is over.
pub record IsCovered (s : State) (c : Names) : Type 0 where
  pub promises : (p : ℕ) → IsFixed (map.get s.promises p) → IsNoted c.promises p
  pub outcomes : (o : ℕ) → IsTold s o (map.get s.outcomes o) → IsNoted c.outcomes o
  pub imports : (e : ℕ) → IsThere (map.get s.imports e) → IsNoted c.imports e
  pub questions : (q : ℕ) → IsNotedAs s c.questions q (map.get s.questions q)

-- ---- Room

-- So many more entries of every kind, and names, need no more memory.
pub record HasRooms (n : ℕ) (x : Store) : Type 0 where
  pub questions : n ≤ x.questions.room
  pub answers : n ≤ x.answers.room
  pub imports : n ≤ x.imports.room
  pub exports : n ≤ x.exports.room
  pub refs : n ≤ x.refs.room
  pub calls : n ≤ x.calls.room
  pub tasks : n ≤ x.tasks.room
  pub unsettled : n ≤ x.unsettled.room
  pub waits : n ≤ x.waits.room
  pub names : HasRoom n x.names
  pub notes : HasSpare n x.names

-- At most the rooms differ.
pub record IsSameButRoom (old new : Store) : Type 0 where
  pub state : state_of new ≡ state_of old
  pub taken : new.waits.taken ≡ old.waits.taken
  pub held : new.waits.held ≡ old.waits.held
  pub names : new.names ≡ all_with_rooms old.names new.names
  pub added : new.added ≡ old.added
  pub links : new.links ≡ old.links

-- ---- All

-- The next numbers are free.
pub record IsNumbered (s : State) : Type 0 where
  pub refs : IsFresh s.refs s.next_ref
  pub calls : IsFresh s.calls s.next_call
  pub tasks : IsFresh s.tasks s.next_task
  pub unsettled : IsFresh s.unsettled s.next_promise

-- The calls that wait are counted, with those that were taken out.
pub record HoldsCalls (s : State) (w : Waiting) : Type 0 where
  pub counted : w.held ≡ held s + length w.taken
  pub within : w.held ≤ held_limit

-- No number that is kept of names and links outgrows 64 bits while there is slack.
pub record IsBounded (x : Store) : Type 0 where
  pub names : (n : Node) → times_named x.names n ≤ x.added
  pub links : x.links ≤ x.added
  pub added : x.added + x.slack < number_limit

pub record IsSound (x : Store) : Type 0 where
  pub counted : Counts x.names (all_named x)
  pub covered : IsCovered (state_of x) x.names
  pub within : IsWithin (state_of x)
  pub numbered : IsNumbered (state_of x)
  pub holds : HoldsCalls (state_of x) x.waits
  pub far : x.links ≡ links (state_of x)
  pub bounded : IsBounded x
  pub room : HasRooms x.slack x
