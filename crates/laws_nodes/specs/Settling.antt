-- Each node stops, and where it settles after a change (docs/protocol.md, "Where a node leads").
use Rattle.std.specs.Prelude.{◌≡◌, ℕ, true, false, cond, Option, None, Some, List}
use Rattle.std.specs.FinMap as map
use Rattle.rpc_msg.specs.Op.{Op}
use Rattle.rpc_machine.specs.declared.node.Node.{Node}
use Rattle.rpc_machine.specs.declared.node.Node.TheVariants as node
use Rattle.rpc_machine.specs.declared.calls.WaitingCall.{WaitingCall}
use Rattle.rpc_machine.specs.declared.calls.HeldCall.{HeldCall}
use Rattle.rpc_machine.specs.declared.calls.Promise.{Promise}
use Rattle.rpc_machine.specs.declared.calls.Promise.TheVariants as promise
use Rattle.rpc_machine.specs.declared.calls.KeptOutcome.{KeptOutcome}
use Rattle.rpc_machine.specs.declared.calls.Value.{Value}
use Rattle.rpc_machine.specs.declared.calls.Caller.{Caller}
use Rattle.rpc_machine.specs.State.{State}
use Rattle.rpc_machine.specs.Laws.{Stops}
use Rattle.rpc_machine.specs.Nodes.{field_of, promise_link, value_of, link, follow, settle, is_promise, is_field}
use Rattle.rpc_machine.specs.Places.{places}
use Rattle.rpc_machine.specs.Progress.{Progress}
use Rattle.rpc_machine.specs.Refusals.{refused}
use Rattle.rpc_machine.specs.Collecting.{Collects}
use Rattle.rpc_machine.specs.Settling.{known, Fits}
use Rattle.rpc_msg.specs.declared.message.Message.{Message}
use Rattle.rpc_machine.specs.declared.command.Command.{Command}
use Rattle.rpc_machine.specs.declared.command.Granted.{Granted}
use Rattle.laws_acts.specs.Moments.{Moment, beginning}
use Rattle.laws_acts.specs.FirstActs.{Starts}
use Rattle.laws_acts.specs.MessageActs.{Consumes}
use Rattle.laws_acts.specs.SmallActs.{Acts}
use Rattle.laws_steps.specs.Settled.{IsAmong}
use Rattle.laws_steps.specs.NodesThere.{IsReached}

-- Each node stops after some number of links: none leads back to itself.
abbrev pub AllStop : State → Type 0
AllStop s = (n : Node) → (d : ℕ) × Stops s d n

abbrev pub EachNodeStops : Type 0
EachNodeStops = (s : State) → IsReached s → AllStop s

-- So at every moment of a step too.
pub record StopsWithin : Type 0 where
  pub commands : (s : State) (c : Command) (g : Granted) (first last : Moment) → refused s c ≡ None → AllStop s → Starts (beginning s) c g first → Acts last first → AllStop last.state
  pub messages : (s : State) (m : Message) (first last : Moment) → AllStop s → Consumes (beginning s) m first → Acts last first → AllStop last.state

-- The state with the promise fixed.
abbrev pub fixed : State → ℕ → Node → State
fixed s p to = record s { promises = map.insert s.promises p (promise.Fixed to) }

-- Fixed to what leads to it, a promise leads back to itself for good: it never stops. So a resolve that would fix it so is
-- refused.
abbrev pub CirclesNeverStop : Type 0
CirclesNeverStop = (s : State) (p : ℕ) (to : Node) → AllStop s → promise_link (map.get s.promises p) ≡ None → is_promise p (settle s to) ≡ true → (d : ℕ) → ¬ (Stops (fixed s p to) d (node.Promise p))

-- Nodes have the same links.
abbrev pub SameLinks : State → State → Type 0
SameLinks s t = (n : Node) → link t n ≡ link s n

-- A promise that was not fixed is open under this key, or is not there; an outcome has no value.
abbrev pub StaysOpen : Option Promise → Type 0
StaysOpen o = promise_link o ≡ None

abbrev pub StaysUnknown : Option KeptOutcome → Type 0
StaysUnknown o = value_of o ≡ None

pub record Settling : Type 0 where
  -- where a node settles there is no link, so it settles there once more; and it settles where its link leads
  pub ends : (s : State) → AllStop s → (n : Node) → link s (settle s n) ≡ None
  pub again : (s : State) → AllStop s → (n : Node) → settle s (settle s n) ≡ settle s n
  pub here : (s : State) (n : Node) → link s n ≡ None → settle s n ≡ n
  pub on : (s : State) → AllStop s → (n m : Node) → link s n ≡ Some m → settle s n ≡ settle s m
  pub followed : (s : State) → AllStop s → (k : ℕ) (n : Node) → link s (follow s k n) ≡ None → settle s n ≡ follow s k n
  -- the same links, the same ends
  pub same : (s t : State) → SameLinks s t → AllStop s → AllStop t × ((n : Node) → settle t n ≡ settle s n)
  -- an open promise, new or with other calls, and an outcome that isn't known, new or with other calls, change no link
  pub opens : (s : State) (p : ℕ) (calls : List WaitingCall) → StaysOpen (map.get s.promises p) → SameLinks s (record s { promises = map.insert s.promises p (promise.Open calls) })
  pub begins : (s : State) (o : ℕ) (x : KeptOutcome) → value_of (map.get s.outcomes o) ≡ x.value → SameLinks s (record s { outcomes = map.insert s.outcomes o x })
  -- a promise is fixed to what does not lead to it
  pub fixes : (s : State) (p : ℕ) (to : Node) → StaysOpen (map.get s.promises p) → is_promise p (settle s to) ≡ false → AllStop s → AllStop (fixed s p to) × ((n : Node) → settle (fixed s p to) n ≡ cond (is_promise p (settle s n)) (settle s to) (settle s n))
  -- an outcome becomes known with the value that fits
  pub knows : (s mid : State) (o : ℕ) (who : Caller) (w : List HeldCall) (v fit : Value) → StaysUnknown (map.get s.outcomes o) → Fits s o who w v fit mid → AllStop s → AllStop (known mid o who w fit)
  pub known_others : (s mid : State) (o : ℕ) (who : Caller) (w : List HeldCall) (v fit : Value) → StaysUnknown (map.get s.outcomes o) → Fits s o who w v fit mid → AllStop s → (n : Node) → is_field o (settle s n) ≡ false → settle (known mid o who w fit) n ≡ settle s n
  pub known_fields : (s mid : State) (o : ℕ) (who : Caller) (w : List HeldCall) (v fit : Value) → StaysUnknown (map.get s.outcomes o) → Fits s o who w v fit mid → AllStop s → (n : Node) (path : List Op) → settle s n ≡ node.Field o path → settle (known mid o who w fit) n ≡ settle (known mid o who w fit) (field_of fit path)
  -- what no place names goes
  pub collected : (d new : Progress) → Collects new d → AllStop d.state → AllStop new.state × ((n : Node) → IsAmong n (places new.state) → settle new.state n ≡ settle d.state n)
