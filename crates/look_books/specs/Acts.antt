-- What a message does to the books of a conversation (docs/looking.md).
use Rattle.std.specs.Prelude.{ℕ, ◌==◌, if◌then◌else◌, Bool, true, false, Option, Some, None, List, [], ◌∷◌, option_copied}
use Rattle.rpc_msg.specs.declared.ids.QuestionId.{QuestionId}
use Rattle.rpc_msg.specs.declared.ids.ExportId.{ExportId}
use Rattle.rpc_msg.specs.declared.ids.EmbargoId.{EmbargoId}
use Rattle.rpc_msg.specs.declared.parts.Target.{Target}
use Rattle.rpc_msg.specs.declared.parts.Descriptor.{Descriptor}
use Rattle.rpc_msg.specs.declared.message.Call.{Call}
use Rattle.rpc_msg.specs.declared.message.Return.{Return}
use Rattle.rpc_msg.specs.declared.message.ReturnBody.{ReturnBody}
use Rattle.rpc_msg.specs.declared.message.ReturnBody.TheVariants as body
use Rattle.rpc_msg.specs.declared.message.ResolvedTo.{ResolvedTo}
use Rattle.rpc_msg.specs.declared.message.ResolvedTo.TheVariants as resolved
use Rattle.rpc_msg.specs.declared.message.DisembargoContext.{DisembargoContext}
use Rattle.rpc_msg.specs.declared.message.DisembargoContext.TheVariants as context
use Rattle.rpc_msg.specs.declared.message.PlainMessage.{PlainMessage}
use Rattle.rpc_msg.specs.declared.message.PlainMessage.TheVariants as plain
use Rattle.rpc_msg.specs.declared.message.Message.TheVariants as message
use Rattle.rpc_codec.specs.declared.envelope.Envelope.{Envelope}
use Rattle.rpc_codec.specs.declared.envelope.Envelope.TheVariants as envelope
use Rattle.rpc_codec.specs.declared.headings.Heading.{Heading}
use Rattle.rpc_codec.specs.declared.headings.Heading.TheVariants as heading
use Rattle.look_books.specs.declared.act.Kind.{Kind}
use Rattle.look_books.specs.declared.act.Kind.TheVariants as kind
use Rattle.look_books.specs.declared.act.Asked.{Asked}
use Rattle.look_books.specs.declared.act.Asked.TheVariants as asked
use Rattle.look_books.specs.declared.act.Outcome.{Outcome}
use Rattle.look_books.specs.declared.act.Outcome.TheVariants as outcome
use Rattle.look_books.specs.declared.act.Act.{Act}
use Rattle.look_books.specs.declared.act.Act.TheVariants as act
use Rattle.look_books.specs.declared.act.Asking.{Asking}
use Rattle.look_books.specs.declared.act.Answering.{Answering}

-- A question: what asks it, its target if it has one, whether its results stay with the answerer, whether no Return is owed,
-- and the capabilities that it gives or names.
pub record Asks : Type 0 where
  pub question : QuestionId
  pub asked : Asked
  pub target : Option Target
  pub tail : Bool
  pub waived : Bool
  pub descriptors : List Descriptor

-- A Return: its flag, its outcome, whether no Finish is owed, and the capabilities of its results.
pub record Answers : Type 0 where
  pub question : QuestionId
  pub flag : Bool
  pub outcome : Outcome
  pub waived : Bool
  pub descriptors : List Descriptor

-- What a message does.
pub data Does : Type 0 where
  asks : Asks → Does
  answers : Answers → Does
  finishes : QuestionId → Bool → Does
  -- a promise, and what it is resolved to; nothing where it broke
  resolves : ExportId → Option Descriptor → Does
  releases : ExportId → ℕ → Does
  disembargoes : Target → EmbargoId → Does
  -- a Disembargo comes back
  loops : EmbargoId → Does
  aborts : Does
  -- a message comes back: its kind, the question that it had asked, and what it gave as a Resolve
  sends_back : Kind → Option QuestionId → List Descriptor → Does
  other : Kind → Does

-- ---- kinds, by their numbers in the union of rpc.capnp's Message

abbrev pub kind_of : ℕ → Kind
kind_of n =
    if n == 0 then kind.Unimplemented
    else if n == 1 then kind.Abort
    else if n == 2 then kind.Call
    else if n == 3 then kind.Return
    else if n == 4 then kind.Finish
    else if n == 5 then kind.Resolve
    else if n == 6 then kind.Release
    else if n == 8 then kind.Bootstrap
    else if n == 13 then kind.Disembargo
    else kind.Other n

abbrev pub number_of : Kind → ℕ
number_of kind.Unimplemented = 0
number_of kind.Abort = 1
number_of kind.Call = 2
number_of kind.Return = 3
number_of kind.Finish = 4
number_of kind.Resolve = 5
number_of kind.Release = 6
number_of kind.Bootstrap = 8
number_of kind.Disembargo = 13
number_of (kind.Other n) = n

-- of a message that is no Unimplemented
abbrev pub plain_kind : PlainMessage → Kind
plain_kind (plain.Abort e) = kind.Abort
plain_kind (plain.Bootstrap q) = kind.Bootstrap
plain_kind (plain.Call c) = kind.Call
plain_kind (plain.Return r) = kind.Return
plain_kind (plain.Finish f) = kind.Finish
plain_kind (plain.Resolve r) = kind.Resolve
plain_kind (plain.Release r) = kind.Release
plain_kind (plain.Disembargo d) = kind.Disembargo
plain_kind (plain.Other n) = kind_of n

abbrev pub kind_of_asked : Asked → Kind
kind_of_asked asked.Bootstrap = kind.Bootstrap
kind_of_asked (asked.Call m) = kind.Call
kind_of_asked (asked.Unknown n) = kind_of n

abbrev pub kind_of_act : Does → Kind
kind_of_act (asks a) = kind_of_asked a.asked
kind_of_act (answers a) = kind.Return
kind_of_act (finishes q flag) = kind.Finish
kind_of_act (resolves p d) = kind.Resolve
kind_of_act (releases e n) = kind.Release
kind_of_act (disembargoes t i) = kind.Disembargo
kind_of_act (loops i) = kind.Disembargo
kind_of_act aborts = kind.Abort
kind_of_act (sends_back k q ds) = kind.Unimplemented
kind_of_act (other k) = k

-- ---- what the program has for it

abbrev pub asks_of : Asking → Asks
asks_of a = record { question = a.question; asked = a.asked; target = a.target; tail = a.tail; waived = a.waived; descriptors = a.descriptors.now }

abbrev pub answers_of : Answering → Answers
answers_of a = record { question = a.question; flag = a.flag; outcome = a.outcome; waived = a.waived; descriptors = a.descriptors.now }

abbrev pub seen : Act → Does
seen (act.Asks a) = asks (asks_of a)
seen (act.Answers a) = answers (answers_of a)
seen (act.Finishes q flag) = finishes q flag
seen (act.Resolves r) = resolves r.promise (option_copied r.descriptor)
seen (act.Releases e n) = releases e n
seen (act.Disembargoes t i) = disembargoes t i
seen (act.Loops i) = loops i
seen act.Aborts = aborts
seen (act.SendsBack b) = sends_back b.kind b.question b.descriptors.now
seen (act.Other k) = other k

-- ---- messages

-- onlyPromisePipeline, and noFinishNeeded
abbrev pub waives_return : Heading → Bool
waives_return (heading.Asks q waived) = waived
waives_return (heading.Answers a waived) = false
waives_return heading.Other = false

abbrev pub waives_finish : Heading → Bool
waives_finish (heading.Asks q waived) = false
waives_finish (heading.Answers a waived) = waived
waives_finish heading.Other = false

abbrev pub call_asks : Call → Bool → Heading → Asks
call_asks c tail h = record {
  question = c.question;
  asked = asked.Call (record { interface = c.interface; number = c.method });
  target = Some c.target;
  tail = tail;
  waived = waives_return h;
  descriptors = c.descriptors;
}

abbrev pub bare_question : QuestionId → Asked → Bool → Asks
bare_question q a waived = record { question = q; asked = a; target = None; tail = false; waived = waived; descriptors = [] }

-- a Return without results of its own
abbrev pub bare_answer : QuestionId → Bool → Outcome → Heading → Answers
bare_answer q flag o h = record { question = q; flag = flag; outcome = o; waived = waives_finish h; descriptors = [] }

abbrev pub outcome_of : ReturnBody → Outcome
outcome_of (body.Results p ds) = outcome.Results
outcome_of (body.Exception e) = outcome.Exception
outcome_of body.Canceled = outcome.Canceled

abbrev pub results_of : ReturnBody → List Descriptor
results_of (body.Results p ds) = ds
results_of (body.Exception e) = []
results_of body.Canceled = []

abbrev pub return_answers : Return → Heading → Answers
return_answers r h = record { question = r.answer; flag = r.release_param_caps; outcome = outcome_of r.body; waived = waives_finish h; descriptors = results_of r.body }

abbrev pub resolution : ResolvedTo → Option Descriptor
resolution (resolved.Cap d) = Some d
resolution (resolved.Exception e) = None

abbrev pub disembargo_does : Target → DisembargoContext → Does
disembargo_does t (context.SenderLoopback i) = disembargoes t i
disembargo_does t (context.ReceiverLoopback i) = loops i

abbrev pub plain_does : PlainMessage → Heading → Does
plain_does (plain.Abort e) h = aborts
plain_does (plain.Bootstrap q) h = asks (bare_question q asked.Bootstrap false)
plain_does (plain.Call c) h = asks (call_asks c false h)
plain_does (plain.Return r) h = answers (return_answers r h)
plain_does (plain.Finish f) h = finishes f.question f.release_result_caps
plain_does (plain.Resolve r) h = resolves r.promise (resolution r.to)
plain_does (plain.Release r) h = releases r.export r.count
plain_does (plain.Disembargo d) h = disembargo_does d.target d.context
plain_does (plain.Other n) h = other (kind_of n)

-- What came back: the question that it had asked, and what it gave.
abbrev pub resolve_gave : ResolvedTo → List Descriptor
resolve_gave (resolved.Cap d) = d ∷ []
resolve_gave (resolved.Exception e) = []

abbrev pub question_back : PlainMessage → Option QuestionId
question_back (plain.Abort e) = None
question_back (plain.Bootstrap q) = Some q
question_back (plain.Call c) = Some c.question
question_back (plain.Return r) = None
question_back (plain.Finish f) = None
question_back (plain.Resolve r) = None
question_back (plain.Release r) = None
question_back (plain.Disembargo d) = None
question_back (plain.Other n) = None

abbrev pub gave_back : PlainMessage → List Descriptor
gave_back (plain.Abort e) = []
gave_back (plain.Bootstrap q) = []
gave_back (plain.Call c) = []
gave_back (plain.Return r) = []
gave_back (plain.Finish f) = []
gave_back (plain.Resolve r) = resolve_gave r.to
gave_back (plain.Release r) = []
gave_back (plain.Disembargo d) = []
gave_back (plain.Other n) = []

-- What is not understood asks and answers all the same.
abbrev pub unknown_does : ℕ → Heading → Does
unknown_does n (heading.Asks q waived) = asks (bare_question q (asked.Unknown n) waived)
unknown_does n (heading.Answers a waived) = answers (bare_answer a false outcome.Unknown (heading.Answers a waived))
unknown_does n heading.Other = other (kind_of n)

abbrev pub back_does : PlainMessage → Does
back_does m = sends_back (plain_kind m) (question_back m) (gave_back m)

-- What a message does, of which the heading says what the envelope leaves out.
abbrev pub does : Envelope → Heading → Does
does (envelope.Message (message.Plain m)) h = plain_does m h
does (envelope.Message (message.Unimplemented m)) h = back_does m
does (envelope.TailCall c) h = asks (call_asks c true h)
does (envelope.SentElsewhere r) h = answers (bare_answer r.answer r.release_param_caps outcome.SentElsewhere h)
does (envelope.TakenFromOther r) h = answers (bare_answer r.answer r.release_param_caps (outcome.TakenFrom r.question) h)
does (envelope.Unknown u) h = unknown_does u.number h
