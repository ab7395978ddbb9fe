-- What is on its way back to a vat names imports and questions that it was to have, behind a step.
use Rattle.std.specs.Prelude.{◌≡◌, ℕ, true, None, Some, List, [], ◌∷◌}
use Rattle.std.specs.FinMap as map
use Rattle.rpc_msg.specs.declared.message.Message.{Message}
use Rattle.rpc_msg.specs.declared.message.Message.TheVariants as message
use Rattle.rpc_msg.specs.declared.message.PlainMessage.{PlainMessage}
use Rattle.rpc_msg.specs.Messages.{descriptors_of}
use Rattle.rpc_machine.specs.declared.calls.KeptOutcome.{KeptOutcome}
use Rattle.rpc_machine.specs.declared.command.Command.{Command}
use Rattle.rpc_machine.specs.declared.command.Effects.{Effects}
use Rattle.rpc_machine.specs.declared.command.Granted.{Granted}
use Rattle.rpc_machine.specs.declared.command.Level.TheVariants.{One}
use Rattle.rpc_machine.specs.declared.entries.Question.{Question}
use Rattle.rpc_machine.specs.State.{State}
use Rattle.rpc_machine.specs.Faults.{fault_of}
use Rattle.rpc_machine.specs.Steps.{Does, Handles}
use Rattle.laws_nodes.specs.Questions.{QuestionsEnd}
use Rattle.laws_nodes.specs.Sources.{HasOneSource}
use Rattle.laws_routes.specs.Midway.{Midway}
use Rattle.laws_routes.specs.Named.{EachReturn}
use Rattle.laws_routes.specs.Received.{IsMet}
use Rattle.laws_routes.specs.Sayings.{has_of}
use Rattle.laws_meanings.specs.NodeLabels.{Labels}
use Rattle.laws_wires.specs.Wires.{Session, asked_at}
use Rattle.laws_wires.specs.StepWires.{Around, OnTheWay, left}
use Rattle.laws_wires.specs.SceneWires.{RolesKeepLabels, has_taken}

-- The outcome of a relay is there while its question is. So where outcomes and questions that were there keep their labels, what
-- each question is of has the label that it had.
abbrev pub RolesAreKept : Type 0
RolesAreKept =
    (l m : Labels) (s : State) → HasOneSource s → QuestionsEnd s
    → ((o : ℕ) (y : KeptOutcome) → map.get s.outcomes o ≡ Some y → m.outcome o ≡ l.outcome o) → ((q : ℕ) (y : Question) → map.get s.questions q ≡ Some y → m.question q ≡ l.question q)
    → RolesKeepLabels l m s

-- The vat has no more imports and questions than it was to have, as far as the way back names them, and these questions are of
-- what they were.
pub record BackIsHeld (w : Around) (x : OnTheWay) : Type 0 where
  pub imports : (e : ℕ) → (left w).import e ≡ true → x.has.import e ≡ true
  pub questions : EachReturn (λ q. (left w).question q ≡ true → x.has.question q ≡ true) x.back
  pub asked : EachReturn (λ q. x.has.question q ≡ true → asked_at w.m q (map.get w.t.questions q) ≡ asked_at w.l q (map.get w.s.questions q)) x.back

-- So it is behind a command, and behind a message that is taken.
abbrev pub CommandsHoldBack : Type 0
CommandsHoldBack =
    (w : Around) (out back : List Message) (now : ℕ → Session) (c : Command) (g : Granted) (effects : Effects) → Midway w.s w.z out back → RolesKeepLabels w.l w.m w.s → Does w.s c g effects w.t
    → BackIsHeld w (record { out = out; back = back; has = has_of [] w.s.imports w.s.questions; now = now })

abbrev pub MessagesHoldBack : Type 0
MessagesHoldBack =
    (w : Around) (out rest : List Message) (now : ℕ → Session) (x : PlainMessage) (effects : Effects)
    → Midway w.s w.z out (message.Plain x ∷ rest) → w.s.level ≡ One → IsMet w.s w.z out rest x → RolesKeepLabels w.l w.m w.s → fault_of w.s (message.Plain x) ≡ None → Handles w.s (message.Plain x) effects w.t
    → BackIsHeld w (record { out = out; back = rest; has = has_taken w.s (descriptors_of (message.Plain x)); now = now })
