-- What a whole step of a command sends means what it should.
use Rattle.std.specs.Prelude.{◌≡◌, ◌⊎◌, ℕ, true, Option, None, Some}
use Rattle.std.specs.FinMap as map
use Rattle.rpc_msg.specs.declared.ids.QuestionId.{QuestionId}
use Rattle.rpc_msg.specs.declared.message.Message.{Message}
use Rattle.rpc_msg.specs.declared.message.Message.TheVariants as message
use Rattle.rpc_msg.specs.declared.message.PlainMessage.{PlainMessage}
use Rattle.rpc_msg.specs.Vats.{other_vat}
use Rattle.rpc_journal.specs.Meaning.{History}
use Rattle.rpc_machine.specs.declared.calls.Caller.TheVariants as caller
use Rattle.rpc_machine.specs.declared.calls.KeptOutcome.{KeptOutcome}
use Rattle.rpc_machine.specs.declared.entries.AnswerEntry.{AnswerEntry}
use Rattle.rpc_machine.specs.declared.command.Command.{Command}
use Rattle.rpc_machine.specs.declared.command.Effects.{Effects}
use Rattle.rpc_machine.specs.declared.command.Granted.{Granted}
use Rattle.rpc_machine.specs.declared.entries.Export.{Export}
use Rattle.rpc_machine.specs.declared.entries.Question.{Question}
use Rattle.rpc_machine.specs.Faults.{fault_of, is_foreign}
use Rattle.rpc_machine.specs.Progress.{quiet}
use Rattle.rpc_machine.specs.State.{State}
use Rattle.rpc_machine.specs.Steps.{Does, Handles}
use Rattle.laws_acts.specs.Moments.{Moment, beginning}
use Rattle.laws_acts.specs.MessageActs.{Consumes}
use Rattle.laws_routes.specs.Sayings.{IsSilentPlain}
use Rattle.laws_steps.specs.NodesThere.{IsWhole}
use Rattle.laws_nodes.specs.Embargoes.{ArePaired}
use Rattle.laws_nodes.specs.Questions.{QuestionsEnd}
use Rattle.laws_nodes.specs.Sources.{HasOneSource}
use Rattle.laws_meanings.specs.CommandMeanings.{OpensNothing, IsWritten, IsWrittenOpen}
use Rattle.laws_meanings.specs.MessageMeanings.{AnswersOf, ImportsKept, IsHeard, with_imports}
use Rattle.laws_meanings.specs.NodeMeanings.{Meant}
use Rattle.laws_meanings.specs.NodeLabels.{Labels, Places, AreLed, EndsAreLed, label}
use Rattle.laws_wires.specs.Wires.{Session, sessions_at}
use Rattle.laws_wires.specs.Sent.{CallerSo, AllSaySo}

-- Imports, and outcomes and questions that were there, keep their labels; exports stay, and mean what they did.
pub record Keeps (h : History) (l m : Labels) (s t : State) : Type 0 where
  pub imports : (e : ℕ) → m.import e ≡ l.import e
  pub outcomes : (o : ℕ) (y : KeptOutcome) → map.get s.outcomes o ≡ Some y → m.outcome o ≡ l.outcome o
  pub questions : (q : ℕ) (y : Question) → map.get s.questions q ≡ Some y → m.question q ≡ l.question q
  pub exports : (e : ℕ) (x : Export) → map.get s.exports e ≡ Some x → (y : Export) × (map.get t.exports e ≡ Some y) × (y.node ≡ x.node) × (label h s.vat m x.node ≡ label h s.vat l x.node)

-- By the same labels nodes mean what they should at the end of the step, and all that it sent does.
abbrev pub CommandsSend : Type 0
CommandsSend =
    (h : History) (l : Labels) (said : ℕ → Session) (s : State) (c : Command) (g : Granted) (x : Effects) (t : State)
    → (OpensNothing c × IsWritten h s.vat s c) ⊎ IsWrittenOpen h s.vat s c → IsWhole s → HasOneSource s → QuestionsEnd s → ArePaired s → Places h s.vat l quiet s
    → ((o : ℕ) → CallerSo h s.vat l said o (map.get s.outcomes o)) → Does s c g x t
    → (m : Labels) × Keeps h l m s t × Places h s.vat m x t × AreLed h s.vat x.deliveries × EndsAreLed h s.vat x.answers × AllSaySo h s.vat m t.exports t.promises said x.sends

-- ---- Messages

-- An outcome that is not known, for which the peer waits, is that of its question.
abbrev pub PeersAreServed : State → Type 0
PeersAreServed s = (o : ℕ) (x : KeptOutcome) (q : QuestionId) → map.get s.outcomes o ≡ Some x → x.value ≡ None → x.caller ≡ caller.Peer q → (a : AnswerEntry) × (map.get s.answers q.0 ≡ Some a) × (a.outcome ≡ o)

-- Imports have the labels by which the message was read; other labels stay, where something was there. Exports that are there
-- behind the first act stay, and mean what they did.
pub record KeepsBehind (h : History) (l m : Labels) (is : ℕ → Option Meant) (s u t : State) : Type 0 where
  pub imports : (e : ℕ) → m.import e ≡ is e
  pub outcomes : (o : ℕ) (y : KeptOutcome) → map.get s.outcomes o ≡ Some y → m.outcome o ≡ l.outcome o
  pub questions : (q : ℕ) → m.question q ≡ l.question q
  pub exports : (e : ℕ) (x : Export) → map.get s.exports e ≡ Some x → (z : Export) → map.get u.exports e ≡ Some z → z.node ≡ x.node
      → (y : Export) × (map.get t.exports e ≡ Some y) × (y.node ≡ x.node) × (label h s.vat m x.node ≡ label h s.vat l x.node)

-- Of Returns it is said by what the answers stand for behind the first act.
abbrev pub MessagesSend : Type 0
MessagesSend =
    (h : History) (l : Labels) (s : State) (is : ℕ → Option Meant) (y : Message) (x : Effects) (t : State)
    → ImportsKept l s is → IsHeard h s.vat (with_imports l is) s y → IsWhole s → HasOneSource s → QuestionsEnd s → Places h s.vat l quiet s
    → ((p : PlainMessage) → y ≡ message.Plain p → is_foreign s.level p ≡ true → IsSilentPlain p) → ((d : Moment) → Consumes (beginning s) y d → PeersAreServed d.state)
    → fault_of s y ≡ None → Handles s y x t
    → (d : Moment) × Consumes (beginning s) y d × ((m : Labels) × AnswersOf m.outcome (other_vat s.vat) d.state y × KeepsBehind h l m is s d.state t × Places h s.vat m x t × AreLed h s.vat x.deliveries × EndsAreLed h s.vat x.answers
    × AllSaySo h s.vat m t.exports t.promises (sessions_at m d.state.answers) x.sends)
