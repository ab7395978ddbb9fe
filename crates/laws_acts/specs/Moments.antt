-- A moment of a step: what the step has done so far, and what it still owes. The machine's relations say what a whole
-- piece of a step leads to (an outcome that is settled, calls that are routed); between the acts of such a piece this
-- says what is left of it.
use Rattle.std.specs.Prelude.{ℕ, Bool, false, is_some, ◌||◌, ◌++◌, Option, None, List, [], ◌∷◌}
use Rattle.rpc_machine.specs.rpc_msg.specs.declared.ids.QuestionId.{QuestionId}
use Rattle.rpc_machine.specs.rpc_msg.specs.declared.parts.Descriptor.{Descriptor}
use Rattle.rpc_machine.specs.rpc_msg.specs.declared.exception.Exception.{Exception}
use Rattle.rpc_machine.specs.rpc_msg.specs.declared.message.ReturnBody.{ReturnBody}
use Rattle.rpc_machine.specs.rpc_msg.specs.declared.message.PlainMessage.{PlainMessage}
use Rattle.rpc_machine.specs.rpc_msg.specs.declared.message.Message.TheVariants as message
use Rattle.finite_maps.specs.Tally.{Map}
use Rattle.rpc_machine.specs.declared.node.Node.{Node}
use Rattle.rpc_machine.specs.declared.node.Node.TheVariants as node
use Rattle.rpc_machine.specs.declared.calls.WaitingCall.{WaitingCall}
use Rattle.rpc_machine.specs.declared.calls.HeldCall.{HeldCall}
use Rattle.rpc_machine.specs.declared.calls.Value.{Value}
use Rattle.rpc_machine.specs.declared.calls.Caller.{Caller}
use Rattle.rpc_machine.specs.declared.command.Effects.{Effects}
use Rattle.rpc_machine.specs.declared.entries.Question.{Question}
use Rattle.rpc_machine.specs.State.{State}
use Rattle.rpc_machine.specs.Nodes.{is_promise, is_field}
use Rattle.rpc_machine.specs.Progress.{Progress, begin}

-- A Return that is being made: its descriptors are exported, and what no place names goes before it is sent.
pub record Saying : Type 0 where
  pub answer : QuestionId
  pub body : ReturnBody
  pub descriptors : List Descriptor

-- An outcome that is known, whose waiting calls are still in its list.
pub record Clearing : Type 0 where
  pub outcome : ℕ
  pub caller : Caller
  pub value : Value
  pub waiting : List HeldCall

-- What was settled, and what is said of it where it is broken.
pub data Settled : Type 0 where
  ThePromise : (p : ℕ) (why : Option Exception) → Settled
  TheOutcome : (o : ℕ) → Settled

-- An export whose Resolve is to be sent.
pub record Owing : Type 0 where
  pub export : ℕ
  pub node : Node
  pub why : Option Exception

pub record Moment : Type 0 where
  -- as in `Progress`
  pub state : State
  pub effects : Effects
  pub arisen : List (ℕ × Value)
  pub released : Map ℕ
  -- the outcome that becomes known next, with its value; at most one
  pub coming : List (ℕ × Value)
  -- who is to be told of an outcome; at most one
  pub telling : List (Caller × Value)
  pub saying : Option Saying
  pub clearing : Option Clearing
  -- the calls that are to be routed, in order, each with the node to which it goes
  pub yet : List (WaitingCall × Node)
  -- what was settled, and whose exports are still to be listed; then these exports
  pub settled : Option Settled
  pub owed : List Owing
  -- the questions that are to be finished; and whether they were found, at the end of the step
  pub over : List (ℕ × Question)
  pub swept : Bool

-- Nothing is owed.
abbrev pub at_rest : Progress → Moment
at_rest p = record {
  state = p.state;
  effects = p.effects;
  arisen = p.arisen;
  released = p.released;
  coming = [];
  telling = [];
  saying = None;
  clearing = None;
  yet = [];
  settled = None;
  owed = [];
  over = [];
  swept = false;
}

abbrev pub beginning : State → Moment
beginning s = at_rest (begin s)

abbrev pub progress : Moment → Progress
progress d = record { state = d.state; effects = d.effects; arisen = d.arisen; released = d.released }

-- The same is owed at another progress.
abbrev pub onto : Moment → Progress → Moment
onto d p = record d { state = p.state; effects = p.effects; arisen = p.arisen; released = p.released }

abbrev pub in_state : Moment → State → Moment
in_state d s = record d { state = s }

abbrev pub sending : Moment → PlainMessage → Moment
sending d m = record d { effects = record (d.effects) { sends = d.effects.sends ++ message.Plain m ∷ [] } }

-- All of them go to that node.
abbrev pub each_to : Node → List WaitingCall → List (WaitingCall × Node)
each_to n [] = []
each_to n (c ∷ cs) = (c, n) ∷ each_to n cs

-- Each goes to the field that it waits for.
abbrev pub held_to : ℕ → List HeldCall → List (WaitingCall × Node)
held_to o [] = []
held_to o (h ∷ hs) = (h.call, node.Field o h.path) ∷ held_to o hs

abbrev pub is_of : Settled → Node → Bool
is_of (ThePromise p why) n = is_promise p n
is_of (TheOutcome o) n = is_field o n

-- Things may go: while a Return is being made, and in the sweep.
abbrev pub is_collecting : Moment → Bool
is_collecting d = is_some d.saying || d.swept

abbrev pub why_of : Settled → Option Exception
why_of (ThePromise p why) = why
why_of (TheOutcome o) = None

abbrev pub owing : Option Exception → List (ℕ × Node) → List Owing
owing why [] = []
owing why (x ∷ xs) = record { export = x.0; node = x.1; why = why } ∷ owing why xs
