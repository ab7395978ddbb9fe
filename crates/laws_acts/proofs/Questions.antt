-- What changes of questions and answers let come and go among the places of a vat.
use Rattle.std.proofs.Common.{◌≡◌, ℕ, Bool, true, false, List, [], ◌++◌, Option, None, Some, refl, ap, subst, arith}
use Rattle.std.specs.FinMap as map
use Rattle.rpc_machine.specs.rpc_msg.specs.declared.ids.ExportId.{ExportId}
use Rattle.rpc_machine.specs.declared.entries.Question.{Question}
use Rattle.rpc_machine.specs.declared.entries.AnswerEntry.{AnswerEntry}
use Rattle.rpc_machine.specs.declared.entries.Returned.{Returned}
use Rattle.rpc_machine.specs.declared.entries.Role.{Role}
use Rattle.rpc_machine.specs.declared.entries.Finishing.{Finishing}
use Rattle.rpc_machine.specs.declared.entries.Finishing.TheVariants as finishing
use Rattle.rpc_machine.specs.declared.calls.Caller.TheVariants as caller
use Rattle.rpc_machine.specs.State.{State}
use Rattle.rpc_machine.specs.Lists.{how_many}
use Rattle.rpc_machine.specs.Places.{places, imports_of, named_by_returned, named_by_answer}
use Rattle.rpc_machine.specs.Progress.{Progress, export_ids}
use Rattle.rpc_machine.specs.Commands.{with_outcome}
use Rattle.rpc_machine.specs.Messages.{opened, kept_returned, finished_map}
use Rattle.rpc_machine.specs.Settling.{returned, returned_map}
use Rattle.rpc_machine.specs.Sweeping.{closed, closed_map}
use Rattle.laws_acts.specs.Alike.{Alike}
use Rattle.laws_acts.proofs.Parts.{how_many_append}
use Rattle.laws_acts.proofs.Tables.{tables}
use Rattle.laws_acts.proofs.Likeness.{changes_by, stays}

-- ---- Questions

pub question_asked : (s : State) (q : ℕ) (role : Role) (given : List ExportId) (finish : Finishing) → map.get s.questions q ≡ None
    → Alike (places s) (places (record s { questions = map.insert s.questions q (record { role = role; given = given; returned = None; finish = finish }) }))
question_asked s q role given finish free = tables.questions.comes s q (record { role = role; given = given; returned = None; finish = finish }) free

-- It names the capabilities of its Return.
pub question_returned : (d : Progress) (q : ℕ) (x : Question) (said : Returned) → map.get d.state.questions q ≡ Some x → x.returned ≡ None
    → Alike (named_by_returned (Some said) ++ places d.state) (places (kept_returned d q x said).state)
question_returned d q x said there none =
    subst (λ (r : Option Returned). Alike (named_by_returned (Some said) ++ places d.state) (named_by_returned r ++ places (kept_returned d q x said).state)) none
    (tables.questions.changes d.state q x (record x { returned = Some said }) there)

-- Its Return stays as it is.
pub question_stays : (s : State) (q : ℕ) (x y : Question) → map.get s.questions q ≡ Some x → x.returned ≡ y.returned → Alike (places s) (places (record s { questions = map.insert s.questions q y }))
question_stays s q x y there same = stays tables.questions s q x y there (λ test. ap (λ r. how_many test (named_by_returned r)) same)

pub question_goes : (s : State) (q : ℕ) (x : Question) → map.get s.questions q ≡ Some x → Alike (places s) (named_by_returned x.returned ++ places (record s { questions = map.remove s.questions q }))
question_goes s q x there = tables.questions.goes s q x there

closes : (s : State) (q : ℕ) (x : Question) (o : Option Returned) → map.get s.questions q ≡ Some x → x.returned ≡ o
    → Alike (places s) (named_by_returned o ++ places (record s { questions = closed_map s.questions q x o }))
closes s q x None there is = question_stays s q x (record x { finish = finishing.Sent }) there refl
closes s q x (Some said) there is =
    subst (λ (r : Option Returned). Alike (places s) (named_by_returned r ++ places (record s { questions = map.remove s.questions q }))) is (question_goes s q x there)

-- It is finished, and closes if its Return has come.
pub question_closed : (s : State) (q : ℕ) (x : Question) → map.get s.questions q ≡ Some x → Alike (places s) (named_by_returned x.returned ++ places (closed s q x))
question_closed s q x there = closes s q x x.returned there refl

-- ---- Answers

-- It names the imports that its Call gave.
pub answer_opened : (s : State) (q o : ℕ) (taken : List ℕ) → map.get s.answers q ≡ None → map.get s.outcomes o ≡ None → Alike (imports_of (export_ids taken) ++ places s) (places (opened s q o taken))
answer_opened s q o taken free new = λ test.
    let who = caller.Peer (record { 0 = q }) in
    let t : State = with_outcome s o who in
    let ids = imports_of (export_ids taken) in
    let a = tables.outcomes.comes s o (record { caller = who; value = None; waiting = [] }) new test in
    let b = tables.answers.comes t q (record { outcome = o; taken = export_ids taken; returned = None; finished = false }) free test in
    let c = how_many_append test ids (places s) in
    let d = how_many_append test ids (places t) in
    omega (arith, a, b, c, d)

pub answer_goes : (s : State) (q : ℕ) (a : AnswerEntry) → map.get s.answers q ≡ Some a → Alike (places s) (named_by_answer q a ++ places (record s { answers = map.remove s.answers q }))
answer_goes s q a there = tables.answers.goes s q a there

returns_by : (s : State) (q : ℕ) (a : AnswerEntry) (ids : List ℕ) (b : Bool) → map.get s.answers q ≡ Some a → Alike (places s) (named_by_answer q a ++ places (record s { answers = returned_map s.answers q a b ids }))
returns_by s q a ids true there = answer_goes s q a there
returns_by s q a ids false there =
    changes_by tables.answers s q a (record a { returned = Some (export_ids ids) }) [] (named_by_answer q a) there (λ test.
    let e = how_many_append test (named_by_answer q a) [] in
    omega (arith, e))

-- Its Return was sent: it names none of them any more.
pub answer_returned : (s : State) (q : ℕ) (a : AnswerEntry) (ids : List ℕ) → map.get s.answers q ≡ Some a → Alike (places s) (named_by_answer q a ++ places (returned s q a ids))
answer_returned s q a ids there = returns_by s q a ids a.finished there

finishes : (s : State) (q : ℕ) (a : AnswerEntry) (o : Option (List ExportId)) → map.get s.answers q ≡ Some a → a.returned ≡ o → Alike (places s) (places (record s { answers = finished_map s.answers q a o }))
finishes s q a None there is = stays tables.answers s q a (record a { finished = true }) there (λ test. refl)
finishes s q a (Some ids) there is = λ test.
    let t : State = record s { answers = map.remove s.answers q } in
    let e = answer_goes s q a there test in
    let f = how_many_append test (named_by_answer q a) (places t) in
    let g : how_many test (named_by_answer q a) ≡ 0 = ap (λ r. how_many test (named_by_answer q (record a { returned = r }))) is in
    omega (arith, e, f, g)

-- Its Finish came: it is cleared, if its Return was sent.
pub answer_finished : (s : State) (q : ℕ) (a : AnswerEntry) → map.get s.answers q ≡ Some a → Alike (places s) (places (record s { answers = finished_map s.answers q a a.returned }))
answer_finished s q a there = finishes s q a a.returned there refl
