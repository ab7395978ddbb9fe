-- What nodes mean after a received message: where what it says means what it should, by the nodes that the receiver makes
-- of its descriptors and its target, all that the vat holds means what it should.
use Rattle.std.specs.Prelude.{◌≡◌, ◌⊎◌, ℕ, Option, None, Some, List, slice_get}
use Rattle.std.specs.FinMap as map
use Rattle.rpc_msg.specs.declared.ids.Vat.{Vat}
use Rattle.rpc_msg.specs.declared.ids.QuestionId.{QuestionId}
use Rattle.rpc_msg.specs.declared.message.Call.{Call}
use Rattle.rpc_msg.specs.declared.message.Message.{Message}
use Rattle.rpc_msg.specs.declared.message.Message.TheVariants as message
use Rattle.rpc_msg.specs.declared.message.PlainMessage.{PlainMessage}
use Rattle.rpc_msg.specs.declared.message.PlainMessage.TheVariants as plain
use Rattle.rpc_msg.specs.declared.message.Resolve.{Resolve}
use Rattle.rpc_msg.specs.declared.message.ResolvedTo.{ResolvedTo}
use Rattle.rpc_msg.specs.declared.message.ResolvedTo.TheVariants as resolved
use Rattle.rpc_msg.specs.declared.parts.Descriptor.{Descriptor}
use Rattle.rpc_msg.specs.declared.parts.Descriptor.TheVariants as descriptor
use Rattle.rpc_msg.specs.declared.parts.Target.{Target}
use Rattle.rpc_msg.specs.declared.parts.Target.TheVariants.{ImportedCap, PromisedAnswer}
use Rattle.rpc_msg.specs.Op.{Op}
use Rattle.rpc_msg.specs.Paths.{fields}
use Rattle.rpc_msg.specs.Vats.{other_vat}
use Rattle.rpc_journal.specs.History.{caller}
use Rattle.rpc_journal.specs.Sources.{Asking, OfBootstrap, OfCall, SentWith}
use Rattle.rpc_journal.specs.Meaning.{History, Broken, root}
use Rattle.rpc_machine.specs.declared.calls.KeptOutcome.{KeptOutcome}
use Rattle.rpc_machine.specs.declared.calls.Promise.{Promise}
use Rattle.rpc_machine.specs.declared.calls.Value.{Value}
use Rattle.rpc_machine.specs.declared.command.Effects.{Effects}
use Rattle.rpc_machine.specs.declared.command.Level.TheVariants.{One}
use Rattle.rpc_machine.specs.declared.entries.AnswerEntry.{AnswerEntry}
use Rattle.rpc_machine.specs.declared.entries.Finishing.{Finishing}
use Rattle.rpc_machine.specs.declared.entries.Finishing.TheVariants as finishing
use Rattle.rpc_machine.specs.declared.entries.Import.{Import}
use Rattle.rpc_machine.specs.declared.entries.Question.{Question}
use Rattle.rpc_machine.specs.State.{State}
use Rattle.rpc_machine.specs.Claims.{object_number}
use Rattle.rpc_machine.specs.Descriptors.{read, read_all, export_node}
use Rattle.rpc_machine.specs.Faults.{fault_of, target_node, target_fault, descriptors_fault}
use Rattle.rpc_machine.specs.Messages.{bootstrap_value, results_of, value_of_results}
use Rattle.rpc_machine.specs.Progress.{quiet}
use Rattle.rpc_machine.specs.Steps.{Handles}
use Rattle.laws_acts.specs.Moments.{Moment, beginning}
use Rattle.laws_acts.specs.MessageActs.{Consumes}
use Rattle.laws_acts.specs.SmallActs.{Act}
use Rattle.laws_steps.specs.NodesThere.{IsWhole}
use Rattle.laws_nodes.specs.Questions.{QuestionsEnd}
use Rattle.laws_nodes.specs.Sources.{HasOneSource}
use Rattle.laws_meanings.specs.NodeMeanings.{Meant, Itself, OfRef, BySource, Leads}
use Rattle.laws_meanings.specs.NodeLabels.{Labels, field_label, LeadsTo, label, Means, CapsMean, ValueMeans, asked_label, Places, AreLed, EndsAreLed, MomentMeans}

-- ---- What a message says, by labels that name the imports that come with it

-- A Return says it of a question whose Finish was not sent.
abbrev pub IfAwaited : Finishing → Type 0 → Type 0
IfAwaited finishing.Owed said = said
IfAwaited finishing.Sent said = Unit {0}
IfAwaited finishing.Waived said = said

module _ (h : History) (v : Vat) (l : Labels) (s : State) where
  -- The capabilities of a call are the references that were sent with it, and it goes to what its reference leads to.
  abbrev pub CallHeard : Call → Type 0
  CallHeard c = CapsMean h v l c.stamp (read_all s c.descriptors) × Means h v l (OfRef (caller c.stamp)) (target_node s c.target)

  abbrev pub ReturnHeard : ℕ → Value → Option Question → Type 0
  ReturnHeard q x None = Unit {0}
  ReturnHeard q x (Some y) = IfAwaited y.finish ((a : Vat × Asking) × (asked_label l q y.role ≡ Some a) × ValueMeans h v l a x)

  -- A Resolve says it of an import that is there.
  abbrev pub SaidOf : Option Meant → ResolvedTo → Type 0
  SaidOf None to = ⊥
  SaidOf (Some x) (resolved.Cap d) = Means h v l x (read s d)
  SaidOf (Some x) (resolved.Exception exception) = Leads h (Itself Broken) x

  abbrev pub ResolveHeard : ℕ → ResolvedTo → Option Import → Type 0
  ResolveHeard e to None = Unit {0}
  ResolveHeard e to (Some y) = SaidOf (l.import e) to

  abbrev pub PlainHeard : PlainMessage → Type 0
  PlainHeard (plain.Abort exception) = Unit {0}
  PlainHeard (plain.Bootstrap q) = ValueMeans h v l (other_vat v, OfBootstrap) (bootstrap_value s.bootstrap)
  PlainHeard (plain.Call c) = CallHeard c
  PlainHeard (plain.Return r) = ReturnHeard r.answer.0 (value_of_results (results_of s r.body)) (map.get s.questions r.answer.0)
  PlainHeard (plain.Finish f) = Unit {0}
  PlainHeard (plain.Resolve r) = ResolveHeard r.promise.0 r.to (map.get s.imports r.promise.0)
  PlainHeard (plain.Release r) = Unit {0}
  PlainHeard (plain.Disembargo d) = Unit {0}
  PlainHeard (plain.Other n) = Unit {0}

  -- No question comes back: both vats understand those.
  abbrev pub EchoHeard : PlainMessage → Type 0
  EchoHeard (plain.Abort exception) = Unit {0}
  EchoHeard (plain.Bootstrap q) = ⊥
  EchoHeard (plain.Call c) = ⊥
  EchoHeard (plain.Return r) = Unit {0}
  EchoHeard (plain.Finish f) = Unit {0}
  EchoHeard (plain.Resolve r) = Unit {0}
  EchoHeard (plain.Release r) = Unit {0}
  EchoHeard (plain.Disembargo d) = Unit {0}
  EchoHeard (plain.Other n) = Unit {0}

  abbrev pub IsHeard : Message → Type 0
  IsHeard (message.Plain m) = PlainHeard m
  IsHeard (message.Unimplemented m) = EchoHeard m

-- ---- The labels afterwards

-- With these labels of imports.
abbrev pub with_imports : Labels → (ℕ → Option Meant) → Labels
with_imports l is = record l { import = is }

-- An import that is there keeps its label; so does an outcome.
abbrev pub ImportsKept : Labels → State → (ℕ → Option Meant) → Type 0
ImportsKept l s is = (e : ℕ) (y : Import) → map.get s.imports e ≡ Some y → is e ≡ l.import e

abbrev pub OutcomesKept : Labels → State → (ℕ → Option (Vat × Asking)) → Type 0
OutcomesKept l s os = (o : ℕ) (y : KeptOutcome) → map.get s.outcomes o ≡ Some y → os o ≡ l.outcome o

-- The answer that opens is of what was asked.
abbrev pub IsAnswerOf : (ℕ → Option (Vat × Asking)) → State → ℕ → Vat × Asking → Type 0
IsAnswerOf os t q a = (y : AnswerEntry) × (map.get t.answers q ≡ Some y) × (os y.outcome ≡ Some a)

abbrev pub OpensOf : (ℕ → Option (Vat × Asking)) → Vat → State → PlainMessage → Type 0
OpensOf os u t (plain.Abort exception) = Unit {0}
OpensOf os u t (plain.Bootstrap q) = IsAnswerOf os t q.0 (u, OfBootstrap)
OpensOf os u t (plain.Call c) = IsAnswerOf os t c.question.0 (u, OfCall c.stamp)
OpensOf os u t (plain.Return r) = Unit {0}
OpensOf os u t (plain.Finish f) = Unit {0}
OpensOf os u t (plain.Resolve r) = Unit {0}
OpensOf os u t (plain.Release r) = Unit {0}
OpensOf os u t (plain.Disembargo d) = Unit {0}
OpensOf os u t (plain.Other n) = Unit {0}

abbrev pub AnswersOf : (ℕ → Option (Vat × Asking)) → Vat → State → Message → Type 0
AnswersOf os u t (message.Plain m) = OpensOf os u t m
AnswersOf os u t (message.Unimplemented m) = Unit {0}

-- ---- Laws

-- What a message does itself keeps what nodes mean; a call that comes means what was made.
abbrev pub ConsumingMeans : Type 0
ConsumingMeans =
    (h : History) (l : Labels) (s : State) (is : ℕ → Option Meant) (m : Message) (new : Moment)
    → ImportsKept l s is → IsHeard h s.vat (with_imports l is) s m → IsWhole s → HasOneSource s → QuestionsEnd s → Places h s.vat l quiet s → Consumes (beginning s) m new
    → (os : ℕ → Option (Vat × Asking)) × OutcomesKept l s os × AnswersOf os (other_vat s.vat) new.state m × MomentMeans h s.vat (record l { import = is; outcome = os }) new

-- So does each small act; promises that are there keep their labels, and no other comes to mean something.
abbrev pub EachActMeans : Type 0
EachActMeans =
    (h : History) (v : Vat) (l : Labels) (d new : Moment)
    → Act d new → MomentMeans h v l d
    → (ps : ℕ → Option Meant) × ((p : ℕ) (y : Promise) → map.get d.state.promises p ≡ Some y → ps p ≡ l.promise p) × ((p : ℕ) → (ps p ≡ l.promise p) ⊎ (ps p ≡ None))
    × MomentMeans h v (record l { promise = ps }) new

-- So does the whole step.
abbrev pub MessagesKeepMeanings : Type 0
MessagesKeepMeanings =
    (h : History) (l : Labels) (s : State) (is : ℕ → Option Meant) (m : Message) (x : Effects) (t : State)
    → ImportsKept l s is → IsHeard h s.vat (with_imports l is) s m → IsWhole s → HasOneSource s → QuestionsEnd s → Places h s.vat l quiet s → fault_of s m ≡ None → Handles s m x t
    → (ps : ℕ → Option Meant) × (os : ℕ → Option (Vat × Asking)) × OutcomesKept l s os
    × Places h s.vat (record { promise = ps; import = is; outcome = os; question = l.question }) x t × AreLed h s.vat x.deliveries × EndsAreLed h s.vat x.answers

-- A Bootstrap says what it should where the history has the vat's bootstrap object.
abbrev pub BootstrapsAreHeard : Type 0
BootstrapsAreHeard = (h : History) (v : Vat) (l : Labels) (s : State) → root h v ≡ object_number s.bootstrap → (q : QuestionId) → IsHeard h v l s (message.Plain (plain.Bootstrap q))

-- ---- How descriptors and targets are read

module _ (h : History) (v : Vat) (l : Labels) (s : State) where
  -- own exports by their nodes, own answers by their outcomes;
  abbrev pub export_label : ℕ → Option Meant
  export_label e = label h v l (export_node (map.get s.exports e))

  abbrev pub answer_label : Option AnswerEntry → List Op → Option Meant
  answer_label None path = None
  answer_label (Some a) path = field_label h (l.outcome a.outcome) (fields path)

  -- and exports of the other vat by what they mean there.
  abbrev pub wire_label : (ℕ → Option Meant) → Descriptor → Option Meant
  wire_label is descriptor.None = Some (Itself Broken)
  wire_label is (descriptor.SenderHosted e) = is e.0
  wire_label is (descriptor.SenderPromise e) = is e.0
  wire_label is (descriptor.ReceiverHosted e) = export_label e.0
  wire_label is (descriptor.ReceiverAnswer q path) = answer_label (map.get s.answers q.0) path

  abbrev pub wire_target_label : Target → Option Meant
  wire_target_label (ImportedCap e) = export_label e.0
  wire_target_label (PromisedAnswer q path) = answer_label (map.get s.answers q.0) path

-- The nodes that the receiver makes of them have these labels, where they are no fault.
abbrev pub DescriptorsAreRead : Type 0
DescriptorsAreRead =
    (h : History) (l : Labels) (s : State) (is : ℕ → Option Meant) (ds : List Descriptor)
    → ImportsKept l s is → IsWhole s → s.level ≡ One → descriptors_fault s ds ≡ None
    → (i : ℕ) (d : Descriptor) → slice_get ds i ≡ Some d → label h s.vat (with_imports l is) (read s d) ≡ wire_label h s.vat l s is d

abbrev pub TargetsAreRead : Type 0
TargetsAreRead =
    (h : History) (l : Labels) (s : State) (is : ℕ → Option Meant) (t : Target)
    → ImportsKept l s is → IsWhole s → target_fault s t ≡ None → label h s.vat (with_imports l is) (target_node s t) ≡ wire_target_label h s.vat l s t

-- So a Call that is no fault says what it should, where on its way it does.
abbrev pub CallsAreHeard : Type 0
CallsAreHeard =
    (h : History) (l : Labels) (s : State) (is : ℕ → Option Meant) (c : Call)
    → ImportsKept l s is → IsWhole s → s.level ≡ One → fault_of s (message.Plain (plain.Call c)) ≡ None
    → LeadsTo h (OfRef (caller c.stamp)) (wire_target_label h s.vat l s c.target)
    → ((i : ℕ) (d : Descriptor) → slice_get c.descriptors i ≡ Some d → (y : Meant) × BySource h s.vat (SentWith c.stamp i) y × LeadsTo h y (wire_label h s.vat l s is d))
    → IsHeard h s.vat (with_imports l is) s (message.Plain (plain.Call c))

-- And a Resolve.
abbrev pub ResolveRead : History → (Descriptor → Option Meant) → Meant → ResolvedTo → Type 0
ResolveRead h read y (resolved.Cap d) = LeadsTo h y (read d)
ResolveRead h read y (resolved.Exception exception) = Leads h (Itself Broken) y

abbrev pub ResolvesAreHeard : Type 0
ResolvesAreHeard =
    (h : History) (l : Labels) (s : State) (is : ℕ → Option Meant) (r : Resolve)
    → ImportsKept l s is → IsWhole s → s.level ≡ One → fault_of s (message.Plain (plain.Resolve r)) ≡ None
    → ((x : Import) → map.get s.imports r.promise.0 ≡ Some x → (y : Meant) × (is r.promise.0 ≡ Some y) × ResolveRead h (wire_label h s.vat l s is) y r.to)
    → IsHeard h s.vat (with_imports l is) s (message.Plain (plain.Resolve r))
