-- What of a message breaks the protocol, and what is odd and breaks nothing (docs/looking.md, "What is checked"). `own` is what
-- its sender said before, and `heard` what the other end said.
use Rattle.std.specs.Prelude.{◌≡◌, ℕ, ◌+◌, ◌==◌, ◌&&◌, ◌||◌, not, nat_lt, nat_eq, cond, unwrap_or, Bool, true, false, if◌then◌else◌, Option, Some, None, is_some, option_map, option_to_list, Result, Ok, Err, List, [], ◌∷◌, ◌++◌, slice_get}
use Rattle.std.specs.BTreeMap.{get}
use Rattle.std.specs.Ordering.{nat_cmp}
use Rattle.capn_wire.specs.declared.path.Op.{Op}
use Rattle.capn_wire.specs.declared.path.CapAt.{CapAt}
use Rattle.capn_wire.specs.declared.path.CapAt.TheVariants as cap
use Rattle.capn_wire.specs.Walking.{capability_at}
use Rattle.capn_wire.specs.Payloads.{tree_of}
use Rattle.rpc_msg.specs.declared.ids.QuestionId.{QuestionId}
use Rattle.rpc_msg.specs.declared.ids.ExportId.{ExportId}
use Rattle.rpc_msg.specs.declared.ids.EmbargoId.{EmbargoId}
use Rattle.rpc_msg.specs.declared.parts.Target.{Target}
use Rattle.rpc_msg.specs.declared.parts.Target.TheVariants as target
use Rattle.rpc_msg.specs.declared.parts.Descriptor.{Descriptor}
use Rattle.rpc_msg.specs.declared.parts.Descriptor.TheVariants as descriptor
use Rattle.look_books.specs.declared.act.Kind.{Kind}
use Rattle.look_books.specs.declared.act.Asked.{Asked}
use Rattle.look_books.specs.declared.act.Asked.TheVariants as asked
use Rattle.look_books.specs.declared.act.Outcome.{Outcome}
use Rattle.look_books.specs.declared.act.Outcome.TheVariants as outcome
use Rattle.look_books.specs.declared.export.Export.{Export}
use Rattle.look_books.specs.declared.question.Question.{Question}
use Rattle.look_books.specs.declared.question.Returned.{Returned}
use Rattle.look_books.specs.declared.question.Finished.{Finished}
use Rattle.look_books.specs.declared.question.Closed.{Closed}
use Rattle.look_books.specs.declared.question.Results.{Results}
use Rattle.look_books.specs.declared.question.Results.TheVariants as results
use Rattle.look_books.specs.declared.breach.Breach.{Breach}
use Rattle.look_books.specs.declared.breach.Breach.TheVariants as breach
use Rattle.look_books.specs.declared.breach.Use.{Use}
use Rattle.look_books.specs.declared.breach.Use.TheVariants as usage
use Rattle.look_books.specs.declared.breach.Lost.{Lost}
use Rattle.look_books.specs.declared.breach.Lost.TheVariants as lost
use Rattle.look_books.specs.declared.breach.Over.{Over}
use Rattle.look_books.specs.declared.breach.Over.TheVariants as over
use Rattle.look_books.specs.declared.breach.Unresolved.{Unresolved}
use Rattle.look_books.specs.declared.breach.Unresolved.TheVariants as unresolved
use Rattle.look_books.specs.declared.breach.GivenBack.{GivenBack}
use Rattle.look_books.specs.declared.breach.GivenBack.TheVariants as by
use Rattle.look_books.specs.declared.oddity.Oddity.{Oddity}
use Rattle.look_books.specs.declared.oddity.Oddity.TheVariants as odd
use Rattle.look_books.specs.declared.judge.Found.{Found}
use Rattle.look_books.specs.declared.returning.Gone.{Gone}
use Rattle.look_books.specs.Acts.{Does, asks, answers, finishes, resolves, releases, disembargoes, loops, aborts, sends_back, other, Asks, Answers, kind_of}
use Rattle.look_books.specs.Ends.{Kept, question_at, closed_at, export_at, count_at, gone_at, is_owed, is_led, embargo_at, said_of, is_free}

-- What is to be said of a message.
pub record Says : Type 0 where
  pub breaches : List Breach
  pub oddities : List Oddity

abbrev pub nothing : Says
nothing = record { breaches = []; oddities = [] }

abbrev pub breaks : Option Breach → Says
breaks b = record { breaches = option_to_list b; oddities = [] }

abbrev pub wonders : Option Oddity → Says
wonders o = record { breaches = []; oddities = option_to_list o }

-- one behind the other
abbrev pub both : Says → Says → Says
both s t = record { breaches = s.breaches ++ t.breaches; oddities = s.oddities ++ t.oddities }

-- What was found, and that behind it.
pub record Finds (old new : Found) (s : Says) : Type 0 where
  pub breaches : new.breaches.items ≡ old.breaches.items ++ s.breaches
  pub oddities : new.oddities.items ≡ old.oddities.items ++ s.oddities

-- ---- questions

abbrev pub in_use_by : QuestionId → Option Question → Option Breach
in_use_by q None = None
in_use_by q (Some old) = if is_free old then None else Some (breach.InUse q old.number (option_map (λ (r : Returned). r.number) old.returned))

-- The id of a new question may not be one of an open question.
abbrev pub in_use : Kept → QuestionId → Option Breach
in_use own q = in_use_by q (question_at own q)

-- An export of the other end has to be held.
abbrev pub not_held : Kept → Use → ExportId → Option Breach
not_held heard u x = if nat_lt 0 (count_at heard x) then None else Some (breach.NotHeld u x (gone_at heard x))

abbrev pub lost_by : Option ℕ → Lost
lost_by None = lost.Over
lost_by (Some n) = lost.Finished n

abbrev pub lost_before : Option Closed → Lost
lost_before None = lost.NeverAsked
lost_before (Some c) = lost_by c.finished

abbrev pub not_asked_at : Use → QuestionId → Option Finished → Option Breach
not_asked_at u q None = None
not_asked_at u q (Some f) = Some (breach.NotAsked u q (lost.Finished f.number))

abbrev pub not_asked_by : Use → QuestionId → Option Question → Option Closed → Option Breach
not_asked_by u q None closed = Some (breach.NotAsked u q (lost_before closed))
not_asked_by u q (Some mine) closed = not_asked_at u q mine.finished

-- Results can be named from the question on to its Finish.
abbrev pub not_asked : Kept → Use → QuestionId → Option Breach
not_asked own u q = not_asked_by u q (question_at own q) (closed_at own q)

-- A target has to be there.
abbrev pub no_target : Kept → Kept → Target → Option Breach
no_target own heard (target.ImportedCap x) = not_held heard usage.Target x
no_target own heard (target.PromisedAnswer q p) = not_asked own usage.Target q

abbrev pub no_target_of : Kept → Kept → Option Target → Option Breach
no_target_of own heard None = None
no_target_of own heard (Some t) = no_target own heard t

abbrev pub over_by : Option Closed → Over
over_by None = over.NeverAsked
over_by (Some c) = over.Since c.last

abbrev pub finishes_again : QuestionId → Option Finished → Option Breach
finishes_again q None = None
finishes_again q (Some f) = Some (breach.FinishesAgain q f.number)

abbrev pub not_finishable_by : QuestionId → Option Question → Option Closed → Option Breach
not_finishable_by q None closed = Some (breach.FinishesNone q (over_by closed))
not_finishable_by q (Some mine) closed = finishes_again q mine.finished

-- A question is finished once.
abbrev pub not_finishable : Kept → QuestionId → Option Breach
not_finishable own q = not_finishable_by q (question_at own q) (closed_at own q)

-- ---- descriptors

abbrev pub not_there : Kept → Kept → Use → Descriptor → Option Breach
not_there own heard u descriptor.None = None
not_there own heard u (descriptor.SenderHosted x) = None
not_there own heard u (descriptor.SenderPromise x) = None
not_there own heard u (descriptor.ReceiverHosted x) = not_held heard u x
not_there own heard u (descriptor.ReceiverAnswer q p) = not_asked own u q

-- as what it is given, and as what it was given first
abbrev pub odd_held : Use → ExportId → Bool → Bool → Export → Option Oddity
odd_held u x false false held = None
odd_held u x true true held = option_map (λ (n : ℕ). odd.ResolvedPromise u x n) held.resolved
odd_held u x false true held = Some (odd.OtherKind u x true held.given.number)
odd_held u x true false held = Some (odd.OtherKind u x false held.given.number)

abbrev pub odd_export_by : Use → ExportId → Bool → Option Export → Option Oddity
odd_export_by u x promise None = None
odd_export_by u x promise (Some held) = odd_held u x promise held.promise held

abbrev pub odd_export : Kept → Use → ExportId → Bool → Option Oddity
odd_export own u x promise = odd_export_by u x promise (export_at own x)

abbrev pub odd_descriptor : Kept → Use → Descriptor → Option Oddity
odd_descriptor own u descriptor.None = None
odd_descriptor own u (descriptor.SenderHosted x) = odd_export own u x false
odd_descriptor own u (descriptor.SenderPromise x) = odd_export own u x true
odd_descriptor own u (descriptor.ReceiverHosted x) = None
odd_descriptor own u (descriptor.ReceiverAnswer q p) = None

-- A capability that is given or named.
abbrev pub named : Kept → Kept → Use → Descriptor → Says
named own heard u d = both (breaks (not_there own heard u d)) (wonders (odd_descriptor own u d))

-- The capabilities of a content, from that index on.
abbrev pub named_from : Kept → Kept → ℕ → List Descriptor → Says
named_from own heard i [] = nothing
named_from own heard i (d ∷ ds) = both (named own heard (usage.Capability i) d) (named_from own heard (i + 1) ds)

-- ---- what is given back

abbrev pub given_by : Descriptor → Option ExportId
given_by descriptor.None = None
given_by (descriptor.SenderHosted x) = Some x
given_by (descriptor.SenderPromise x) = Some x
given_by (descriptor.ReceiverHosted x) = None
given_by (descriptor.ReceiverAnswer q p) = None

-- The exports that descriptors give, once for each time.
abbrev pub all_given : List Descriptor → List ExportId
all_given [] = []
all_given (d ∷ ds) = option_to_list (given_by d) ++ all_given ds

-- More of an export is given back than is there.
abbrev pub too_many : Kept → GivenBack → ExportId → ℕ → Option Breach
too_many heard b x n = if nat_lt (count_at heard x) n then Some (breach.TooMany b n x (count_at heard x)) else None

-- how often an export stands among these
abbrev pub times_in : ℕ → List ExportId → ℕ
times_in k [] = 0
times_in k (x ∷ xs) = cond (nat_eq k x.0) 1 0 + times_in k xs

-- None of an export is left behind so many that are gone.
abbrev pub none_left : Kept → GivenBack → ExportId → ℕ → Option Breach
none_left heard b x gone = if nat_lt gone (count_at heard x) then None else Some (breach.TooMany b 1 x 0)

-- The same of exports one by one, each once: those before it are gone.
abbrev pub too_many_of : Kept → GivenBack → List ExportId → List ExportId → List Breach
too_many_of heard b before [] = []
too_many_of heard b before (x ∷ xs) = option_to_list (none_left heard b x (times_in x.0 before)) ++ too_many_of heard b (before ++ x ∷ []) xs

-- how many are gone, as the program counts them
abbrev pub gone_in : Gone → ℕ → ℕ
gone_in g k = unwrap_or (get nat_cmp g.by_id k) 0

abbrev pub back : List Breach → Says
back bs = record { breaches = bs; oddities = [] }

-- ---- answers

abbrev pub unanswered_at : QuestionId → Question → Option Returned → Result Question Breach
unanswered_at q his None = Ok his
unanswered_at q his (Some r) = Err (breach.AnswersAgain q r.number)

abbrev pub unanswered_by : QuestionId → Option Question → Option Closed → Result Question Breach
unanswered_by q None closed = Err (breach.AnswersNone q (over_by closed))
unanswered_by q (Some his) closed = unanswered_at q his his.returned

-- A question that is not answered so far, or why there is none.
abbrev pub unanswered : Kept → QuestionId → Result Question Breach
unanswered heard q = unanswered_by q (question_at heard q) (closed_at heard q)

abbrev pub is_open_tail : Option Question → Bool
is_open_tail None = false
is_open_tail (Some mine) = mine.tail && not (is_some mine.finished)

-- Results can be taken of a tail call that is not finished.
abbrev pub takes_none : Kept → QuestionId → Option Breach
takes_none own q = if is_open_tail (question_at own q) then None else Some (breach.TakesNone q)

abbrev pub results_of_tail : Question → Option Oddity
results_of_tail his = if his.tail then Some (odd.ResultsOfTailCall his.number) else None

abbrev pub no_tail_call : Question → Option Breach
no_tail_call his = if his.tail then None else Some (breach.NoTailCall his.number)

abbrev pub judged_outcome : Kept → Question → QuestionId → Outcome → Says
judged_outcome own his q outcome.Results = wonders (results_of_tail his)
judged_outcome own his q outcome.Exception = nothing
judged_outcome own his q outcome.Canceled = nothing
judged_outcome own his q outcome.SentElsewhere = breaks (no_tail_call his)
judged_outcome own his q (outcome.TakenFrom mine) = breaks (takes_none own mine)
judged_outcome own his q outcome.Unknown = wonders (Some (odd.UnknownReturn q))

-- what the flag of a Return gives back
abbrev pub flag_back : Kept → Bool → List ExportId → Says
flag_back heard true xs = back (too_many_of heard by.Flag [] xs)
flag_back heard false xs = nothing

abbrev pub judged_answered : Kept → Kept → Answers → Question → Says
judged_answered own heard a his = both (flag_back heard a.flag his.gives) (judged_outcome own his a.question a.outcome)

abbrev pub judged_answer_by : Kept → Kept → Answers → Result Question Breach → Says
judged_answer_by own heard a (Err b) = breaks (Some b)
judged_answer_by own heard a (Ok his) = judged_answered own heard a his

abbrev pub judged_answer : Kept → Kept → Answers → Says
judged_answer own heard a = judged_answer_by own heard a (unanswered heard a.question)

abbrev pub judged_return : Kept → Kept → Answers → Says
judged_return own heard a = both (named_from own heard 0 a.descriptors) (judged_answer own heard a)

-- ---- the others

abbrev pub unknown_kind : Asked → Option Oddity
unknown_kind asked.Bootstrap = None
unknown_kind (asked.Call m) = None
unknown_kind (asked.Unknown n) = Some (odd.UnknownKind (kind_of n))

abbrev pub judged_question : Kept → Kept → Asks → Says
judged_question own heard a =
    both (both (both (breaks (in_use own a.question)) (breaks (no_target_of own heard a.target))) (wonders (unknown_kind a.asked))) (named_from own heard 0 a.descriptors)

abbrev pub gives_at : Option Returned → Option Finished → List ExportId
gives_at None f = []
gives_at (Some r) None = r.gives
gives_at (Some r) (Some f) = []

-- what the Return gave of a question that is not finished
abbrev pub gives_of : Option Question → List ExportId
gives_of None = []
gives_of (Some mine) = gives_at mine.returned mine.finished

abbrev pub judged_finish : Kept → Kept → QuestionId → Bool → Says
judged_finish own heard q flag = both (breaks (not_finishable own q)) (flag_back heard flag (gives_of (question_at own q)))

abbrev pub unresolved_by : Bool → Option ℕ → Unresolved
unresolved_by promise (Some n) = unresolved.Resolved n
unresolved_by true None = unresolved.NoPromise
unresolved_by false None = unresolved.NeverPromised

abbrev pub unresolved_of : Option Export → Unresolved
unresolved_of None = unresolved.NeverPromised
unresolved_of (Some x) = unresolved_by x.promise x.resolved

-- A promise is resolved once for each time that it was given as one.
abbrev pub not_resolvable : Kept → ExportId → Option Breach
not_resolvable own p = if is_owed own p then None else Some (breach.ResolvesNone p (unresolved_of (export_at own p)))

abbrev pub named_resolution : Kept → Kept → Option Descriptor → Says
named_resolution own heard None = nothing
named_resolution own heard (Some d) = named own heard usage.Resolution d

abbrev pub judged_resolve : Kept → Kept → ExportId → Option Descriptor → Says
judged_resolve own heard p d = both (named_resolution own heard d) (breaks (not_resolvable own p))

abbrev pub judged_release : Kept → ExportId → ℕ → Says
judged_release heard x n = if n == 0 then wonders (Some (odd.ReleasesNone x)) else breaks (too_many heard by.Itself x n)

abbrev pub is_named : Option Descriptor → Bool
is_named None = false
is_named (Some descriptor.None) = false
is_named (Some (descriptor.SenderHosted x)) = true
is_named (Some (descriptor.SenderPromise x)) = true
is_named (Some (descriptor.ReceiverHosted x)) = true
is_named (Some (descriptor.ReceiverAnswer q p)) = true

abbrev pub is_capability : CapAt → List Descriptor → Bool
is_capability (cap.Cap i) ds = is_named (slice_get ds i)
is_capability cap.Null ds = false
is_capability cap.NotCap ds = false

abbrev pub results_lead : Results → List Op → Bool
results_lead results.None path = false
results_lead results.Taken path = true
results_lead (results.Own p ds) path = is_capability (capability_at (tree_of p) path) ds

abbrev pub returned_leads : Option Returned → List Op → Bool
returned_leads None path = false
returned_leads (Some r) path = results_lead r.results path

abbrev pub answer_leads : Option Question → List Op → Bool
answer_leads None path = false
answer_leads (Some mine) path = returned_leads mine.returned path

-- Whether something that was said lets an end know that the target leads back to it.
abbrev pub leads_back : Kept → Kept → Target → Bool
leads_back own heard (target.ImportedCap x) = is_led heard x
leads_back own heard (target.PromisedAnswer q path) = answer_leads (question_at own q) path

abbrev pub leads_elsewhere : Bool → Bool → Option Breach
leads_elsewhere is_lost leads = if is_lost || leads then None else Some breach.LeadsElsewhere

-- One embargo of an id is under way at a time, and its target leads back.
abbrev pub embargo_by : Bool → Bool → EmbargoId → Option ℕ → Option Breach
embargo_by is_lost leads i (Some n) = Some (breach.EmbargoInUse i n)
embargo_by is_lost leads i None = leads_elsewhere is_lost leads

abbrev pub judged_embargo : Kept → Kept → Target → EmbargoId → Says
judged_embargo own heard t i = both (breaks (no_target own heard t)) (breaks (embargo_by (is_some (no_target own heard t)) (leads_back own heard t) i (embargo_at own i)))

abbrev pub no_embargo : Kept → EmbargoId → Option Breach
no_embargo heard i = if is_some (embargo_at heard i) then None else Some (breach.NoEmbargo i)

abbrev pub never_sent : Kept → Kind → Option Breach
never_sent heard k = if nat_lt 0 (said_of heard k) then None else Some (breach.NeverSent k)

abbrev pub error_of : Result Question Breach → Option Breach
error_of (Ok his) = None
error_of (Err b) = Some b

-- What comes back: a question that is not answered so far, or a message that was sent.
abbrev pub not_back : Kept → Kind → Option QuestionId → Option Breach
not_back heard k None = never_sent heard k
not_back heard k (Some q) = error_of (unanswered heard q)

abbrev pub judged_back : Kept → Kind → Option QuestionId → List Descriptor → Says
judged_back heard k q ds = both (breaks (not_back heard k q)) (back (too_many_of heard by.Itself [] (all_given ds)))

-- ---- a message

-- What is to be said of what a message does.
abbrev pub judged : Kept → Kept → Does → Says
judged own heard (asks a) = judged_question own heard a
judged own heard (answers a) = judged_return own heard a
judged own heard (finishes q flag) = judged_finish own heard q flag
judged own heard (resolves p d) = judged_resolve own heard p d
judged own heard (releases x n) = judged_release heard x n
judged own heard (disembargoes t i) = judged_embargo own heard t i
judged own heard (loops i) = breaks (no_embargo heard i)
judged own heard aborts = nothing
judged own heard (sends_back k q ds) = judged_back heard k q ds
judged own heard (other k) = wonders (Some (odd.UnknownKind k))

-- Nothing comes behind an Abort.
abbrev pub behind_abort : Option ℕ → Option Breach
behind_abort None = None
behind_abort (Some n) = Some (breach.BehindAbort n)

-- What is to be said of a message.
abbrev pub verdict : Kept → Kept → Does → Says
verdict own heard d = both (breaks (behind_abort own.down)) (judged own heard d)

-- What was found is that, and no more.
pub record IsVerdict (own heard : Kept) (d : Does) (found : Found) : Type 0 where
  pub breaches : found.breaches.items ≡ (verdict own heard d).breaches
  pub oddities : found.oddities.items ≡ (verdict own heard d).oddities
