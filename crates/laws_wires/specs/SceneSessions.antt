-- What the peer's questions stand for at a vat, behind a step of it.
use Rattle.std.specs.Prelude.{◌≡◌, ◌⊎◌, ℕ, true, Option, None, Some, List, ◌∷◌}
use Rattle.std.specs.FinMap as map
use Rattle.rpc_msg.specs.declared.message.Message.{Message}
use Rattle.rpc_msg.specs.declared.message.Message.TheVariants as message
use Rattle.rpc_msg.specs.declared.message.PlainMessage.{PlainMessage}
use Rattle.rpc_machine.specs.declared.calls.KeptOutcome.{KeptOutcome}
use Rattle.rpc_machine.specs.declared.command.Command.{Command}
use Rattle.rpc_machine.specs.declared.command.Granted.{Granted}
use Rattle.rpc_machine.specs.declared.command.Level.TheVariants.{One}
use Rattle.rpc_machine.specs.declared.entries.AnswerEntry.{AnswerEntry}
use Rattle.rpc_machine.specs.State.{State}
use Rattle.laws_acts.specs.Moments.{Moment, beginning}
use Rattle.laws_acts.specs.FirstActs.{Starts}
use Rattle.laws_acts.specs.MessageActs.{Consumes}
use Rattle.laws_acts.specs.SmallActs.{Acts}
use Rattle.laws_steps.specs.NodesThere.{IsReached}
use Rattle.laws_routes.specs.Midway.{Midway}
use Rattle.laws_routes.specs.QuietLaws.{MayClose}
use Rattle.laws_routes.specs.Received.{IsMet}
use Rattle.laws_meanings.specs.MessageMeanings.{AnswersOf}
use Rattle.laws_meanings.specs.NodeLabels.{Labels}
use Rattle.laws_wires.specs.Wires.{Session, past_one, sessions_at}
use Rattle.laws_wires.specs.StepWires.{Around, then}

-- ---- Answers

-- An answer stays, of the same outcome, or it closes, where it was finished; none opens.
abbrev pub AnswerStays : Option AnswerEntry → Option AnswerEntry → Type 0
AnswerStays None y = y ≡ None
AnswerStays (Some x) None = x.finished ≡ true
AnswerStays (Some x) (Some y) = (y.outcome ≡ x.outcome) × (y.finished ≡ x.finished)

abbrev pub AnswersStay : State → State → Type 0
AnswersStay s t = (q : ℕ) → AnswerStays (map.get s.answers q) (map.get t.answers q)

-- So it is behind the acts of a step that follow its first.
abbrev pub ActsLeaveAnswers : Type 0
ActsLeaveAnswers = (last d : Moment) → Acts last d → AnswersStay d.state last.state

-- An answer that is finished has not returned: it would be gone.
abbrev pub FinishedAnswersWait : State → Type 0
FinishedAnswersWait s = (q : ℕ) (a : AnswerEntry) → map.get s.answers q ≡ Some a → a.finished ≡ true → a.returned ≡ None

abbrev pub FinishedAnswersWaitWhenReached : Type 0
FinishedAnswersWaitWhenReached = (s : State) → IsReached s → FinishedAnswersWait s

-- ---- Behind a step

abbrev pub OutcomesKeepLabels : Labels → Labels → State → Type 0
OutcomesKeepLabels l m s = (o : ℕ) (y : KeptOutcome) → map.get s.outcomes o ≡ Some y → m.outcome o ≡ l.outcome o

-- Each question id stands then for what it stood for, or its answer may close.
abbrev pub SessionsStand : Around → (ℕ → Session) → List Message → Type 0
SessionsStand w now back = (q : ℕ) → (then w q ≡ now q) ⊎ MayClose w.z back q

abbrev pub CommandsLeaveSessions : Type 0
CommandsLeaveSessions =
    (w : Around) (out back : List Message) (c : Command) (g : Granted) (d : Moment)
    → IsReached w.s → Midway w.s w.z out back → Starts (beginning w.s) c g d → OutcomesKeepLabels w.l w.m w.s → AnswersStay d.state w.t
    → SessionsStand w (sessions_at w.l w.s.answers) back

-- Behind a message, a question that it asks stands for what it asks.
abbrev pub MessagesLeaveSessions : Type 0
MessagesLeaveSessions =
    (w : Around) (out rest : List Message) (x : PlainMessage) (d : Moment)
    → IsReached w.s → Midway w.s w.z out (message.Plain x ∷ rest) → w.s.level ≡ One → IsMet w.s w.z out rest x → Consumes (beginning w.s) (message.Plain x) d
    → OutcomesKeepLabels w.l w.m w.s → AnswersOf w.m.outcome w.u d.state (message.Plain x) → AnswersStay d.state w.t
    → SessionsStand w (past_one w.u (sessions_at w.l w.s.answers) (message.Plain x)) rest
