-- What nodes mean after a whole step of a command. First of those that open nothing: no call, Bootstrap or promise.
use Rattle.std.specs.Prelude.{◌≡◌, ℕ, Some, Option, List, [], slice_get}
use Rattle.std.specs.FinMap as map
use Rattle.rpc_msg.specs.declared.ids.Vat.{Vat}
use Rattle.rpc_msg.specs.declared.ids.RefId.{RefId}
use Rattle.rpc_msg.specs.declared.ids.Stamp.{Stamp}
use Rattle.rpc_msg.specs.Op.{Op}
use Rattle.rpc_msg.specs.CapAt.TheVariants.{Cap}
use Rattle.rpc_msg.specs.Payloads.{Contents as Payload}
use Rattle.rpc_journal.specs.declared.report.Outcome.TheVariants as outcome
use Rattle.rpc_journal.specs.declared.entry.MadeCall.{MadeCall}
use Rattle.rpc_journal.specs.History.{refs_at, answer_of, made_with}
use Rattle.rpc_journal.specs.Sources.{OfBootstrap, OfCall, asking, OwnObject, OwnPromise, CloneOf, FieldOf, source, FixedTo, WasRejected, fate}
use Rattle.rpc_journal.specs.Meaning.{History}
use Rattle.rpc_machine.specs.Payloads.{cap_at}
use Rattle.rpc_machine.specs.declared.command.Command.{Command}
use Rattle.rpc_machine.specs.declared.command.Command.TheVariants as command
use Rattle.rpc_machine.specs.declared.command.Granted.{Granted}
use Rattle.rpc_machine.specs.declared.command.Effects.{Effects}
use Rattle.rpc_machine.specs.declared.calls.KeptOutcome.{KeptOutcome}
use Rattle.rpc_machine.specs.declared.calls.Promise.{Promise}
use Rattle.rpc_machine.specs.declared.entries.Question.{Question}
use Rattle.rpc_machine.specs.declared.entries.Reference.{Reference}
use Rattle.rpc_machine.specs.State.{State}
use Rattle.rpc_machine.specs.Commands.{request}
use Rattle.rpc_machine.specs.Progress.{quiet}
use Rattle.rpc_machine.specs.Steps.{Does}
use Rattle.laws_acts.specs.Moments.{Moment, beginning}
use Rattle.laws_acts.specs.FirstActs.{Starts}
use Rattle.laws_steps.specs.NodesThere.{IsWhole}
use Rattle.laws_nodes.specs.Embargoes.{ArePaired}
use Rattle.laws_nodes.specs.Questions.{QuestionsEnd}
use Rattle.laws_nodes.specs.Sources.{HasOneSource}
use Rattle.laws_meanings.specs.Identities.{DeliveredIn}
use Rattle.laws_meanings.specs.NodeMeanings.{Meant}
use Rattle.laws_meanings.specs.NodeLabels.{Labels, Places, AreLed, EndsAreLed, MomentMeans}

abbrev pub OpensNothing : Command → Type 0
OpensNothing command.Bootstrap = ⊥
OpensNothing (command.Call k) = ⊥
OpensNothing command.Promise = ⊥
OpensNothing c = Unit {0}

-- An answer's references are there, and its payload names no other capabilities.
pub record AnswersWith (s : State) (payload : Payload) (refs : List RefId) : Type 0 where
  pub there : (i : ℕ) (r : RefId) → slice_get refs i ≡ Some r → (x : Reference) × (map.get s.refs r.0 ≡ Some x)
  pub named : (path : List Op) (i : ℕ) → cap_at payload path ≡ Cap i → (r : RefId) × (slice_get refs i ≡ Some r)

-- What the history says of the command: its entry is the first of that reference, promise or task.
abbrev pub IsWritten : History → Vat → State → Command → Type 0
IsWritten h v s (command.Host o) = source h.journal (record { vat = v; number = s.next_ref }) ≡ Some (OwnObject o.0)
IsWritten h v s (command.CloneRef r) = source h.journal (record { vat = v; number = s.next_ref }) ≡ Some (CloneOf r.0)
IsWritten h v s (command.Field c path) = source h.journal (record { vat = v; number = s.next_ref }) ≡ Some (FieldOf c.0 path)
IsWritten h v s (command.Resolve p r) = fate h.journal v p.0 ≡ Some (FixedTo (record { vat = v; number = r.0 }))
IsWritten h v s (command.Reject p exception) = fate h.journal v p.0 ≡ Some WasRejected
IsWritten h v s (command.Answer t payload refs) =
    AnswersWith s payload refs
    × ((z : Stamp) → DeliveredIn h.journal v t.0 z → answer_of h.journal z ≡ Some (record { outcome = outcome.Results payload; refs = refs_at v refs }))
IsWritten h v s (command.Fail t exception) =
    (z : Stamp) → DeliveredIn h.journal v t.0 z → answer_of h.journal z ≡ Some (record { outcome = outcome.Exception exception; refs = [] })
IsWritten h v s c = Unit {0}

-- What nodes mean lasts; each call that was delivered was to the object to which its reference leads, and each that ended
-- was answered, or its reference leads to broken.
abbrev pub CommandsKeepMeanings : Type 0
CommandsKeepMeanings =
    (h : History) (v : Vat) (l : Labels) (s : State) (c : Command) (g : Granted) (x : Effects) (t : State)
    → OpensNothing c → IsWritten h v s c → QuestionsEnd s → Places h v l quiet s → Does s c g x t
    → (ps : ℕ → Option Meant) × Places h v (record l { promise = ps }) x t × AreLed h v x.deliveries × EndsAreLed h v x.answers

-- ---- Commands that open

-- What the history says of a command that opens a call, a Bootstrap or a promise.
abbrev pub IsWrittenOpen : History → Vat → State → Command → Type 0
IsWrittenOpen h v s command.Bootstrap = asking h.journal v s.next_call ≡ Some OfBootstrap
IsWrittenOpen h v s (command.Call k) =
    ((i : ℕ) (r : RefId) → slice_get k.refs i ≡ Some r → (x : Reference) × (map.get s.refs r.0 ≡ Some x))
    × ((x : Reference) → map.get s.refs k.reference.0 ≡ Some x
    → (asking h.journal v s.next_call ≡ Some (OfCall (request s k x).stamp)) × ((m : MadeCall) × (made_with h.journal (request s k x).stamp ≡ Some m) × (m.refs ≡ k.refs)))
IsWrittenOpen h v s command.Promise = source h.journal (record { vat = v; number = s.next_ref }) ≡ Some (OwnPromise s.next_promise)
IsWrittenOpen h v s c = ⊥

-- Then some labels, with a new one at the key that is opened, say what nodes mean.
abbrev pub OpeningsKeepMeanings : Type 0
OpeningsKeepMeanings =
    (h : History) (l : Labels) (s : State) (c : Command) (g : Granted) (x : Effects) (t : State)
    → IsWrittenOpen h s.vat s c → IsWhole s → HasOneSource s → QuestionsEnd s → ArePaired s → Places h s.vat l quiet s → Does s c g x t
    → (m : Labels) × Places h s.vat m x t × AreLed h s.vat x.deliveries × EndsAreLed h s.vat x.answers

-- ---- The first act of a command

-- What is there keeps its label, and so do imports.
pub record LabelsKept (l m : Labels) (s : State) : Type 0 where
  pub promises : (p : ℕ) (y : Promise) → map.get s.promises p ≡ Some y → m.promise p ≡ l.promise p
  pub imports : (e : ℕ) → m.import e ≡ l.import e
  pub outcomes : (o : ℕ) (y : KeptOutcome) → map.get s.outcomes o ≡ Some y → m.outcome o ≡ l.outcome o
  pub questions : (q : ℕ) (y : Question) → map.get s.questions q ≡ Some y → m.question q ≡ l.question q

-- What the command does itself changes no label; or only that of what it opens.
abbrev pub FirstActsMean : Type 0
FirstActsMean =
    (h : History) (v : Vat) (l : Labels) (s : State) (c : Command) (g : Granted) (new : Moment)
    → OpensNothing c → IsWritten h v s c → QuestionsEnd s → Places h v l quiet s → Starts (beginning s) c g new → MomentMeans h v l new

abbrev pub FirstOpeningsMean : Type 0
FirstOpeningsMean =
    (h : History) (l : Labels) (s : State) (c : Command) (g : Granted) (new : Moment)
    → IsWrittenOpen h s.vat s c → IsWhole s → HasOneSource s → QuestionsEnd s → ArePaired s → Places h s.vat l quiet s → Starts (beginning s) c g new
    → (m : Labels) × LabelsKept l m s × MomentMeans h s.vat m new
