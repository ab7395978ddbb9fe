-- Which earlier messages a message belongs to, by what the books keep before it (docs/looking.md). `own` is what is kept of its
-- sender, and `heard` of the other end.
use Rattle.std.specs.Prelude.{ℕ, Option, Some, None, List, [], ◌∷◌, unwrap_or}
use Rattle.rpc_msg.specs.declared.ids.QuestionId.{QuestionId}
use Rattle.rpc_msg.specs.declared.ids.ExportId.{ExportId}
use Rattle.rpc_msg.specs.declared.ids.EmbargoId.{EmbargoId}
use Rattle.rpc_msg.specs.declared.parts.Target.{Target}
use Rattle.rpc_msg.specs.declared.parts.Target.TheVariants.{ImportedCap, PromisedAnswer}
use Rattle.rpc_msg.specs.declared.parts.Descriptor.{Descriptor}
use Rattle.rpc_msg.specs.declared.parts.Descriptor.TheVariants as descriptor
use Rattle.rpc_msg.specs.declared.message.ReturnBody.{ReturnBody}
use Rattle.rpc_msg.specs.declared.message.ReturnBody.TheVariants as body
use Rattle.rpc_msg.specs.declared.message.ResolvedTo.{ResolvedTo}
use Rattle.rpc_msg.specs.declared.message.ResolvedTo.TheVariants as resolved
use Rattle.rpc_msg.specs.declared.message.DisembargoContext.{DisembargoContext}
use Rattle.rpc_msg.specs.declared.message.DisembargoContext.TheVariants as context
use Rattle.rpc_msg.specs.declared.message.PlainMessage.{PlainMessage}
use Rattle.rpc_msg.specs.declared.message.PlainMessage.TheVariants as plain
use Rattle.rpc_msg.specs.declared.message.Message.TheVariants as message
use Rattle.rpc_codec.specs.declared.envelope.Envelope.{Envelope}
use Rattle.rpc_codec.specs.declared.envelope.Envelope.TheVariants as envelope
use Rattle.rpc_codec.specs.declared.headings.Heading.{Heading}
use Rattle.rpc_codec.specs.declared.headings.Heading.TheVariants as heading
use Rattle.look_books.specs.declared.export.Export.{Export}
use Rattle.look_books.specs.declared.question.Question.{Question}
use Rattle.look_books.specs.declared.question.Closed.{Closed}
use Rattle.look_books.specs.Ends.{Kept, question_at, closed_at, export_at, embargo_at}
use Rattle.look_books.specs.After.{unanswered_of, unfinished_of}

-- ---- what is kept of an id

-- the message that asked a question
abbrev pub asked : Option Question → Option ℕ
asked None = None
asked (Some q) = Some q.number

abbrev pub asked_closed : Option Closed → Option ℕ
asked_closed None = None
asked_closed (Some c) = Some c.number

-- the open question, or else the last one that is not open
abbrev pub asked_or : Option Question → Option Closed → Option ℕ
asked_or None closed = asked_closed closed
asked_or (Some q) closed = Some q.number

abbrev pub asked_in : Kept → QuestionId → Option ℕ
asked_in k q = asked_or (question_at k q) (closed_at k q)

-- if it is not answered
abbrev pub unanswered_in : Kept → QuestionId → Option ℕ
unanswered_in k q = asked (unanswered_of (question_at k q))

-- if it is not finished
abbrev pub unfinished_in : Kept → QuestionId → Option ℕ
unfinished_in k q = asked (unfinished_of (question_at k q))

-- the message that first gave an export
abbrev pub given : Option Export → Option ℕ
given None = None
given (Some x) = Some x.given.number

abbrev pub given_in : Kept → ExportId → Option ℕ
given_in k x = given (export_at k x)

-- the message that began an embargo
abbrev pub embargo_in : Kept → EmbargoId → Option ℕ
embargo_in k i = embargo_at k i

-- ---- what a message is about

abbrev pub about_disembargo : Kept → DisembargoContext → Option ℕ
about_disembargo heard (context.SenderLoopback i) = None
about_disembargo heard (context.ReceiverLoopback i) = embargo_in heard i

abbrev pub about_plain : Kept → Kept → PlainMessage → Option ℕ
about_plain own heard (plain.Abort e) = None
about_plain own heard (plain.Bootstrap q) = None
about_plain own heard (plain.Call c) = None
about_plain own heard (plain.Return r) = unanswered_in heard r.answer
about_plain own heard (plain.Finish f) = unfinished_in own f.question
about_plain own heard (plain.Resolve r) = given_in own r.promise
about_plain own heard (plain.Release r) = given_in heard r.export
about_plain own heard (plain.Disembargo d) = about_disembargo heard d.context
about_plain own heard (plain.Other n) = None

-- of a message that came back
abbrev pub about_back : Kept → PlainMessage → Option ℕ
about_back heard (plain.Abort e) = None
about_back heard (plain.Bootstrap q) = unanswered_in heard q
about_back heard (plain.Call c) = unanswered_in heard c.question
about_back heard (plain.Return r) = None
about_back heard (plain.Finish f) = None
about_back heard (plain.Resolve r) = None
about_back heard (plain.Release r) = None
about_back heard (plain.Disembargo d) = None
about_back heard (plain.Other n) = None

-- what is not understood answers all the same
abbrev pub about_unknown : Kept → Heading → Option ℕ
about_unknown heard (heading.Asks q waived) = None
about_unknown heard (heading.Answers a waived) = unanswered_in heard a
about_unknown heard heading.Other = None

abbrev pub about : Kept → Kept → Envelope → Heading → Option ℕ
about own heard (envelope.Message (message.Plain m)) h = about_plain own heard m
about own heard (envelope.Message (message.Unimplemented m)) h = about_back heard m
about own heard (envelope.TailCall c) h = None
about own heard (envelope.SentElsewhere r) h = unanswered_in heard r.answer
about own heard (envelope.TakenFromOther r) h = unanswered_in heard r.answer
about own heard (envelope.Unknown u) h = about_unknown heard h

-- ---- what its target is of

abbrev pub of_target : Kept → Kept → Target → Option ℕ
of_target own heard (ImportedCap x) = given_in heard x
of_target own heard (PromisedAnswer q path) = asked_in own q

abbrev pub target_of_disembargo : Kept → Kept → Target → DisembargoContext → Option ℕ
target_of_disembargo own heard t (context.SenderLoopback i) = of_target own heard t
target_of_disembargo own heard t (context.ReceiverLoopback i) = None

abbrev pub target_of_plain : Kept → Kept → PlainMessage → Option ℕ
target_of_plain own heard (plain.Abort e) = None
target_of_plain own heard (plain.Bootstrap q) = None
target_of_plain own heard (plain.Call c) = of_target own heard c.target
target_of_plain own heard (plain.Return r) = None
target_of_plain own heard (plain.Finish f) = None
target_of_plain own heard (plain.Resolve r) = None
target_of_plain own heard (plain.Release r) = None
target_of_plain own heard (plain.Disembargo d) = target_of_disembargo own heard d.target d.context
target_of_plain own heard (plain.Other n) = None

-- The results that a Return takes are those of a question, too.
abbrev pub target_of : Kept → Kept → Envelope → Option ℕ
target_of own heard (envelope.Message (message.Plain m)) = target_of_plain own heard m
target_of own heard (envelope.Message (message.Unimplemented m)) = None
target_of own heard (envelope.TailCall c) = of_target own heard c.target
target_of own heard (envelope.SentElsewhere r) = None
target_of own heard (envelope.TakenFromOther r) = asked_in own r.question
target_of own heard (envelope.Unknown u) = None

-- ---- what its capabilities are of

abbrev pub descriptors_of_body : ReturnBody → List Descriptor
descriptors_of_body (body.Results p ds) = ds
descriptors_of_body (body.Exception e) = []
descriptors_of_body body.Canceled = []

abbrev pub descriptor_of : ResolvedTo → List Descriptor
descriptor_of (resolved.Cap d) = d ∷ []
descriptor_of (resolved.Exception e) = []

abbrev pub descriptors_of_plain : PlainMessage → List Descriptor
descriptors_of_plain (plain.Abort e) = []
descriptors_of_plain (plain.Bootstrap q) = []
descriptors_of_plain (plain.Call c) = c.descriptors
descriptors_of_plain (plain.Return r) = descriptors_of_body r.body
descriptors_of_plain (plain.Finish f) = []
descriptors_of_plain (plain.Resolve r) = descriptor_of r.to
descriptors_of_plain (plain.Release r) = []
descriptors_of_plain (plain.Disembargo d) = []
descriptors_of_plain (plain.Other n) = []

abbrev pub descriptors_of : Envelope → List Descriptor
descriptors_of (envelope.Message (message.Plain m)) = descriptors_of_plain m
descriptors_of (envelope.Message (message.Unimplemented m)) = []
descriptors_of (envelope.TailCall c) = c.descriptors
descriptors_of (envelope.SentElsewhere r) = []
descriptors_of (envelope.TakenFromOther r) = []
descriptors_of (envelope.Unknown u) = []

-- An export that is not held is given by the message itself.
abbrev pub given_by : Kept → ExportId → ℕ → ℕ
given_by own x number = unwrap_or (given_in own x) number

abbrev pub of_descriptor : Kept → Kept → ℕ → Descriptor → Option ℕ
of_descriptor own heard number descriptor.None = None
of_descriptor own heard number (descriptor.SenderHosted x) = Some (given_by own x number)
of_descriptor own heard number (descriptor.SenderPromise x) = Some (given_by own x number)
of_descriptor own heard number (descriptor.ReceiverHosted x) = given_in heard x
of_descriptor own heard number (descriptor.ReceiverAnswer q path) = asked_in own q
