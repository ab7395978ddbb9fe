-- What is kept behind a message, by what was kept before it (docs/looking.md). What can't be done, because it breaks the protocol, is
-- left out.
use Rattle.std.specs.Prelude.{◌≡◌, ℕ, ◌+◌, ◌-◌, ◌&&◌, cond, nat_lt, Bool, true, false, if◌then◌else◌, Option, Some, None, is_some, option_map, List, [], ◌∷◌}
use Rattle.std.specs.BTreeMap.{is_at}
use Rattle.std.specs.Ordering.{nat_cmp}
use Rattle.rpc_msg.specs.declared.ids.QuestionId.{QuestionId}
use Rattle.rpc_msg.specs.declared.ids.ExportId.{ExportId}
use Rattle.rpc_msg.specs.declared.ids.EmbargoId.{EmbargoId}
use Rattle.rpc_msg.specs.declared.parts.Descriptor.{Descriptor}
use Rattle.rpc_msg.specs.declared.parts.Descriptor.TheVariants as descriptor
use Rattle.rpc_msg.specs.declared.message.ReturnBody.{ReturnBody}
use Rattle.rpc_msg.specs.declared.message.ReturnBody.TheVariants as body
use Rattle.rpc_msg.specs.declared.message.PlainMessage.{PlainMessage}
use Rattle.rpc_msg.specs.declared.message.PlainMessage.TheVariants as plain
use Rattle.rpc_msg.specs.declared.message.Message.TheVariants as message
use Rattle.rpc_codec.specs.declared.envelope.Envelope.{Envelope}
use Rattle.rpc_codec.specs.declared.envelope.Envelope.TheVariants as envelope
use Rattle.look_pieces.specs.Pieces.{capped}
use Rattle.look_books.specs.declared.act.Asked.{Asked}
use Rattle.look_books.specs.declared.act.Kind.{Kind}
use Rattle.look_books.specs.declared.books.Moment.{Moment}
use Rattle.look_books.specs.declared.end.Kinds.{Kinds}
use Rattle.look_books.specs.declared.export.Export.{Export}
use Rattle.look_books.specs.declared.export.Given.{Given}
use Rattle.look_books.specs.declared.export.Origin.{Origin}
use Rattle.look_books.specs.declared.export.Origin.TheVariants as origin
use Rattle.look_books.specs.declared.question.Question.{Question}
use Rattle.look_books.specs.declared.question.Returned.{Returned}
use Rattle.look_books.specs.declared.question.Finished.{Finished}
use Rattle.look_books.specs.declared.question.Closed.{Closed}
use Rattle.look_books.specs.declared.question.Results.{Results}
use Rattle.look_books.specs.declared.question.Results.TheVariants as results
use Rattle.look_books.specs.declared.take.Said.{Said}
use Rattle.look_books.specs.Acts.{Does, asks, answers, finishes, resolves, releases, disembargoes, loops, aborts, sends_back, other, Asks, Answers, kind_of_act, number_of}
use Rattle.look_books.specs.Ends.{Kept, counted_in, question_at, export_at, embargo_at, said_of, is_free}
use Rattle.look_books.specs.Checks.{all_given}

-- What is at k is v, and all else stays.
abbrev pub put : {X : Type 0} → ℕ → X → (ℕ → X) → ℕ → X
put k v f q = cond (is_at (nat_cmp k) q) v (f q)

-- Nothing was said.
abbrev pub unsaid : Kept
unsaid = record {
  questions = λ q. None;
  closed = λ q. None;
  exports = λ x. None;
  gone = λ x. None;
  owed = λ x. false;
  led = λ x. false;
  embargoes = λ i. None;
  down = None;
  said = λ n. 0;
}

-- how many messages the program counts, by their numbers in the union
abbrev pub said_by : Kinds → ℕ → ℕ
said_by ks n = counted_in ks n

-- ---- exports

-- What is kept of an end's exports.
pub record Held : Type 0 where
  pub exports : ℕ → Option Export
  pub gone : ℕ → Option ℕ
  pub owed : ℕ → Bool

abbrev pub held_of : Kept → Held
held_of k = record { exports = k.exports; gone = k.gone; owed = k.owed }

abbrev pub with_held : Kept → Held → Kept
with_held k h = record k { exports = h.exports; gone = h.gone; owed = h.owed }

-- What stays but for what is done to the exports.
abbrev pub doing : (Held → Held) → Kept → Kept
doing f k = with_held k (f (held_of k))

abbrev pub given_export : Bool → Given → Option Export → Export
given_export promise g None = record { promise = promise; count = 1; given = g; times = 0; last = g.number; resolved = None }
given_export promise g (Some x) = record x { count = capped (x.count + 1); times = capped (x.times + 1); last = g.number }

abbrev pub with_export : ExportId → Option Export → Held → Held
with_export x o h = record h { exports = put x.0 o h.exports }

-- A Resolve of what is given as a promise may come.
abbrev pub owe : Bool → ExportId → Held → Held
owe true x h = record h { owed = put x.0 true h.owed }
owe false x h = h

abbrev pub give_export : Bool → ExportId → Given → Held → Held
give_export promise x g h = with_export x (Some (given_export promise g (h.exports x.0))) h

-- An export is given, as a promise or not.
abbrev pub give : Bool → ExportId → Given → Held → Held
give promise x g h = give_export promise x g (owe promise x h)

abbrev pub give_one : Descriptor → Given → Held → Held
give_one descriptor.None g h = h
give_one (descriptor.SenderHosted x) g h = give false x g h
give_one (descriptor.SenderPromise x) g h = give true x g h
give_one (descriptor.ReceiverHosted x) g h = h
give_one (descriptor.ReceiverAnswer q p) g h = h

-- What the descriptors of a content give in message n, from that index on.
abbrev pub give_from : ℕ → Origin → ℕ → List Descriptor → Held → Held
give_from n o i [] h = h
give_from n o i (d ∷ ds) h = give_from n o (i + 1) ds (give_one d (record { number = n; index = i; origin = o }) h)

-- None of it is left: it was given back whole in message n.
abbrev pub lose : ExportId → ℕ → Held → Held
lose x n h = record h { exports = put x.0 None h.exports; gone = put x.0 (Some n) h.gone }

abbrev pub give_back_by : Option Export → ExportId → ℕ → ℕ → Held → Held
give_back_by None x count n h = h
give_back_by (Some e) x count n h = if nat_lt count e.count then with_export x (Some (record e { count = e.count - count })) h else lose x n h

-- So many of an export are given back in message n.
abbrev pub give_back : ExportId → ℕ → ℕ → Held → Held
give_back x count n h = give_back_by (h.exports x.0) x count n h

-- Exports are given back one by one, each once.
abbrev pub give_back_all : ℕ → List ExportId → Held → Held
give_back_all n [] h = h
give_back_all n (x ∷ xs) h = give_back_all n xs (give_back x 1 n h)

abbrev pub give_back_if : Bool → ℕ → List ExportId → Held → Held
give_back_if true n xs h = give_back_all n xs h
give_back_if false n xs h = h

-- ---- questions

abbrev pub with_question : QuestionId → Option Question → Kept → Kept
with_question q o k = record k { questions = put q.0 o k.questions }

abbrev pub is_unused : Option Question → Bool
is_unused None = true
is_unused (Some old) = is_free old

abbrev pub question_of : Moment → Asks → Question
question_of m a = record { number = m.number; time = m.time; asked = a.asked; tail = a.tail; waived = a.waived; gives = all_given a.descriptors; returned = None; finished = None }

abbrev pub ask_if : Bool → Moment → Asks → Kept → Kept
ask_if true m a k = with_question a.question (Some (question_of m a)) k
ask_if false m a k = k

-- A question is asked. One under the id of an open question is not kept; what it gives counts.
abbrev pub ask : Moment → Asks → Kept → Kept
ask m a k = ask_if (is_unused (question_at k a.question)) m a (doing (give_from m.number (origin.Params a.asked) 0 a.descriptors) k)

abbrev pub number_in : Option Finished → ℕ
number_in None = 0
number_in (Some f) = f.number

abbrev pub returned_in : Option Returned → ℕ
returned_in None = 0
returned_in (Some r) = r.number

-- the larger
abbrev pub later : ℕ → ℕ → ℕ
later m n = if nat_lt m n then n else m

-- What is kept of a question that is no longer open.
abbrev pub closing : Question → Closed
closing q = record {
  number = q.number;
  asked = q.asked;
  finished = option_map (λ (f : Finished). f.number) q.finished;
  last = later (returned_in q.returned) (number_in q.finished);
}

-- Both answered and finished, but for what is waived.
abbrev pub is_over : Question → Bool
is_over q = is_some q.finished && is_free q

abbrev pub settle_if : Bool → QuestionId → Question → Kept → Kept
settle_if true q x k = record k { questions = put q.0 None k.questions; closed = put q.0 (Some (closing x)) k.closed }
settle_if false q x k = with_question q (Some x) k

-- A question is kept so: as an open one, or as the last one of its id that is not.
abbrev pub settle : QuestionId → Question → Kept → Kept
settle q x k = settle_if (is_over x) q x k

-- What is kept of both ends: of the one that says the message, and of the other.
abbrev pub Ends : Type 0
Ends = Kept × Kept

abbrev pub Are : Ends → Kept → Kept → Type 0
Are e own heard = (own ≡ e.0) × (heard ≡ e.1)

-- ---- answers

-- What stays where that question was taken out.
abbrev pub taken : QuestionId → Option Question → Kept → Kept
taken q None k = k
taken q (Some x) k = with_question q None k

abbrev pub unanswered_if : Question → Option Returned → Option Question
unanswered_if his None = Some his
unanswered_if his (Some r) = None

-- the question, where it is not answered so far
abbrev pub unanswered_of : Option Question → Option Question
unanswered_of None = None
unanswered_of (Some his) = unanswered_if his his.returned

abbrev pub flagged : Option Finished → Bool
flagged None = false
flagged (Some f) = f.flag

abbrev pub asked_of : Option Question → Option Asked
asked_of o = option_map (λ (q : Question). q.asked) o

-- the results that are kept of a Return
abbrev pub body_results : ReturnBody → Results
body_results (body.Results p ds) = results.Own p ds
body_results (body.Exception e) = results.None
body_results body.Canceled = results.None

abbrev pub plain_results : PlainMessage → Results
plain_results (plain.Abort e) = results.None
plain_results (plain.Bootstrap q) = results.None
plain_results (plain.Call c) = results.None
plain_results (plain.Return r) = body_results r.body
plain_results (plain.Finish f) = results.None
plain_results (plain.Resolve r) = results.None
plain_results (plain.Release r) = results.None
plain_results (plain.Disembargo d) = results.None
plain_results (plain.Other n) = results.None

abbrev pub results_in : Envelope → Results
results_in (envelope.Message (message.Plain m)) = plain_results m
results_in (envelope.Message (message.Unimplemented m)) = results.None
results_in (envelope.TailCall c) = results.None
results_in (envelope.SentElsewhere r) = results.None
results_in (envelope.TakenFromOther r) = results.Taken
results_in (envelope.Unknown u) = results.None

abbrev pub descriptors_in : Results → List Descriptor
descriptors_in results.None = []
descriptors_in results.Taken = []
descriptors_in (results.Own p ds) = ds

-- a question that has its Return
abbrev pub returned : Question → Returned → Question
returned his r = record his { returned = Some r }

-- The Return of that question: what it gives is given back at once if the Finish came with its flag.
abbrev pub answer_to : Option Question → Moment → Said → Results → Kept → Kept → Ends
answer_to None m s r own heard = (own, heard)
answer_to (Some his) m s r own heard = (
  doing (give_back_if (flagged his.finished) m.number (all_given (descriptors_in r))) own,
  settle s.question (returned his (record { number = m.number; waived = s.waived; gives = all_given (descriptors_in r); results = r })) (doing (give_back_if s.flag m.number his.gives) heard),
)

abbrev pub answer_by : Option Question → Moment → Said → Results → Kept → Kept → Ends
answer_by o m s r own heard = answer_to o m s r (doing (give_from m.number (origin.Results (asked_of o)) 0 (descriptors_in r)) own) heard

-- A Return with those results.
abbrev pub answer : Moment → Said → Results → Kept → Kept → Ends
answer m s r own heard = answer_by (unanswered_of (question_at heard s.question)) m s r own heard

-- ---- Finishes

abbrev pub unfinished_if : Question → Option Finished → Option Question
unfinished_if mine None = Some mine
unfinished_if mine (Some f) = None

-- the question, where it is not finished so far
abbrev pub unfinished_of : Option Question → Option Question
unfinished_of None = None
unfinished_of (Some mine) = unfinished_if mine mine.finished

abbrev pub given_in : Option Returned → List ExportId
given_in None = []
given_in (Some r) = r.gives

abbrev pub finished : Question → Finished → Question
finished mine f = record mine { finished = Some f }

abbrev pub finish_by : Option Question → Moment → QuestionId → Bool → Kept → Kept → Ends
finish_by None m q flag own heard = (own, heard)
finish_by (Some mine) m q flag own heard = (
  settle q (finished mine (record { number = m.number; flag = flag })) own,
  doing (give_back_if flag m.number (given_in mine.returned)) heard,
)

abbrev pub finish : Moment → QuestionId → Bool → Kept → Kept → Ends
finish m q flag own heard = finish_by (unfinished_of (question_at own q)) m q flag own heard

-- ---- the others

abbrev pub resolved_by : Option Export → ExportId → ℕ → Held → Held
resolved_by None p n h = h
resolved_by (Some x) p n h = with_export p (Some (record x { resolved = Some n })) h

-- A promise was resolved in message n, and no further Resolve may come.
abbrev pub note_resolve : ExportId → ℕ → Held → Held
note_resolve p n h = resolved_by (h.exports p.0) p n (record h { owed = put p.0 false h.owed })

abbrev pub leads : Descriptor → Bool
leads descriptor.None = false
leads (descriptor.SenderHosted x) = true
leads (descriptor.SenderPromise x) = true
leads (descriptor.ReceiverHosted x) = true
leads (descriptor.ReceiverAnswer q p) = true

abbrev pub lead_if : Bool → ExportId → Kept → Kept
lead_if true p k = record k { led = put p.0 true k.led }
lead_if false p k = k

-- what a promise is resolved to
abbrev pub resolve_to : Option Descriptor → ExportId → ℕ → Kept → Kept
resolve_to None p n k = k
resolve_to (Some d) p n k = doing (give_one d (record { number = n; index = 0; origin = origin.Resolution p })) (lead_if (leads d) p k)

abbrev pub resolve : Moment → ExportId → Option Descriptor → Kept → Kept
resolve m p d k = resolve_to d p m.number (doing (note_resolve p m.number) k)

abbrev pub begin_embargo_by : Option ℕ → EmbargoId → ℕ → Kept → Kept
begin_embargo_by None i n k = record k { embargoes = put i.0 (Some n) k.embargoes }
begin_embargo_by (Some before) i n k = k

-- An embargo begins. One under an id that is under way is not kept.
abbrev pub begin_embargo : EmbargoId → ℕ → Kept → Kept
begin_embargo i n k = begin_embargo_by (embargo_at k i) i n k

-- An embargo ends.
abbrev pub end_embargo : EmbargoId → Kept → Kept
end_embargo i k = record k { embargoes = put i.0 None k.embargoes }

-- So many messages of a kind were said.
abbrev pub with_said : Kind → ℕ → Kept → Kept
with_said kind n k = record k { said = put (number_of kind) n k.said }

abbrev pub more : Kind → Kept → Kept
more kind k = with_said kind (capped (said_of k kind + 1)) k

abbrev pub fewer : Kind → Kept → Kept
fewer kind k = with_said kind (said_of k kind - 1) k

-- A question that came back has failed, and needs no Finish.
abbrev pub fail_by : Option Question → Moment → QuestionId → Kept → Kept
fail_by None m q k = k
fail_by (Some his) m q k = settle q (returned his (record { number = m.number; waived = true; gives = []; results = results.None })) (doing (give_back_all m.number his.gives) k)

abbrev pub fail_if : Option QuestionId → Moment → Kept → Kept
fail_if None m k = k
fail_if (Some q) m k = fail_by (unanswered_of (question_at k q)) m q k

abbrev pub come_back : Moment → Kind → Option QuestionId → List Descriptor → Kept → Kept
come_back m kind q ds k = fail_if q m (doing (give_back_all m.number (all_given ds)) (fewer kind k))

-- ---- a message

-- what a Return says but for its results
abbrev pub said_in : Answers → Said
said_in a = record { question = a.question; flag = a.flag; waived = a.waived }

abbrev pub returns_of : Does → Option Said
returns_of (asks a) = None
returns_of (answers a) = Some (said_in a)
returns_of (finishes q flag) = None
returns_of (resolves p d) = None
returns_of (releases x n) = None
returns_of (disembargoes t i) = None
returns_of (loops i) = None
returns_of aborts = None
returns_of (sends_back kind q ds) = None
returns_of (other kind) = None

-- all but what a Return does
abbrev pub after_but_answer : Moment → Does → Kept → Kept → Ends
after_but_answer m (asks a) own heard = (ask m a own, heard)
after_but_answer m (answers a) own heard = (own, heard)
after_but_answer m (finishes q flag) own heard = finish m q flag own heard
after_but_answer m (resolves p d) own heard = (resolve m p d own, heard)
after_but_answer m (releases x n) own heard = (own, doing (give_back x n m.number) heard)
after_but_answer m (disembargoes t i) own heard = (begin_embargo i m.number own, heard)
after_but_answer m (loops i) own heard = (own, end_embargo i heard)
after_but_answer m aborts own heard = (record own { down = Some m.number }, heard)
after_but_answer m (sends_back kind q ds) own heard = (own, come_back m kind q ds heard)
after_but_answer m (other kind) own heard = (own, heard)

abbrev pub answer_if : Option Said → Moment → Results → Ends → Ends
answer_if None m r kept = kept
answer_if (Some said) m r kept = answer m said r kept.0 kept.1

-- What is kept of both ends behind what a message of the first does, with those results.
abbrev pub after : Moment → Does → Results → Kept → Kept → Ends
after m d r own heard = answer_if (returns_of d) m r (after_but_answer m d (more (kind_of_act d) own) heard)
