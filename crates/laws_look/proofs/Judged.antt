-- Of a message that is as the sessions say, the books say nothing.
use Rattle.std.proofs.Common.{◌≡◌, ◌<◌, ◌≤◌, ℕ, suc, ◌+◌, Bool, true, false, cond, nat_eq, nat_lt, if◌then◌else◌, is_some, List, [], ◌∷◌, ◌++◌, Option, None, Some, option_to_list, refl, sym, ap, subst, arith}
use Rattle.rpc_msg.specs.declared.ids.QuestionId.{QuestionId}
use Rattle.rpc_msg.specs.declared.ids.ExportId.{ExportId}
use Rattle.rpc_msg.specs.declared.parts.Descriptor.{Descriptor}
use Rattle.rpc_msg.specs.declared.parts.Descriptor.TheVariants as descriptor
use Rattle.rpc_msg.specs.declared.parts.Target.{Target}
use Rattle.rpc_msg.specs.declared.parts.Target.TheVariants as target
use Rattle.rpc_msg.specs.declared.message.ReturnBody.{ReturnBody}
use Rattle.rpc_msg.specs.declared.message.ReturnBody.TheVariants as body
use Rattle.rpc_msg.specs.declared.message.ResolvedTo.{ResolvedTo}
use Rattle.rpc_msg.specs.declared.message.ResolvedTo.TheVariants as resolved
use Rattle.rpc_msg.specs.declared.message.DisembargoContext.{DisembargoContext}
use Rattle.rpc_msg.specs.declared.message.DisembargoContext.TheVariants as context
use Rattle.rpc_msg.specs.declared.message.PlainMessage.{PlainMessage}
use Rattle.rpc_msg.specs.declared.message.PlainMessage.TheVariants as plain
use Rattle.rpc_msg.specs.Messages.{given, descriptors_of_plain, descriptors_of_body, descriptors_of_resolved}
use Rattle.finite_maps.proofs.Tested.{itself}
use Rattle.rpc_machine.specs.Lists.{how_many}
use Rattle.rpc_machine.specs.Progress.{numbers}
use Rattle.rpc_machine.specs.UnderWay.{if_true}
use Rattle.look_books.specs.declared.breach.Breach.{Breach}
use Rattle.look_books.specs.declared.breach.Breach.TheVariants as breach
use Rattle.look_books.specs.declared.breach.Use.{Use}
use Rattle.look_books.specs.declared.breach.Use.TheVariants as usage
use Rattle.look_books.specs.declared.breach.GivenBack.{GivenBack}
use Rattle.look_books.specs.declared.breach.GivenBack.TheVariants as by
use Rattle.look_books.specs.declared.oddity.Oddity.TheVariants as odd
use Rattle.look_books.specs.declared.question.Question.{Question}
use Rattle.look_books.specs.declared.question.Returned.{Returned}
use Rattle.look_books.specs.declared.question.Finished.{Finished}
use Rattle.look_books.specs.declared.question.Closed.{Closed}
use Rattle.look_books.specs.Acts.{Answers, plain_does, results_of, disembargo_does, outcome_of, resolution, return_answers}
use Rattle.look_books.specs.Ends.{Kept, question_at, closed_at, count_at, gone_at, embargo_at, export_at}
use Rattle.look_books.specs.After.{held_of}
use Rattle.look_books.specs.Checks.{breaks, in_use, in_use_by, not_held, not_asked, not_asked_by, no_target, named_from, named_resolution, wonders, not_finishable, not_finishable_by, gives_of, flag_back, too_many, none_left, too_many_of, times_in, unanswered_by, judged_outcome, judged_answered, judged_answer_by, judged_answer, not_resolvable, unresolved_of, leads_elsewhere, embargo_by, leads_back, behind_abort, judged, verdict}
use Rattle.laws_acts.specs.Sent.{Ids}
use Rattle.laws_nodes.specs.Embargoes.{here, is_out, is_back}
use Rattle.laws_runs.specs.Exports as export
use Rattle.laws_runs.specs.Questions as session
use Rattle.laws_runs.specs.Questions.{IsJust}
use Rattle.laws_runs.specs.Names as mark
use Rattle.laws_runs.specs.Names.{Mark, IsHere, Met}
use Rattle.laws_runs.specs.Views.{only, if_flag}
use Rattle.laws_messages.specs.Views.{named_in, target_in, targets_in}
use Rattle.laws_messages.specs.Named.{target_marks, targets_marks, each_marks}
use Rattle.laws_messages.proofs.Answering.{AreHeld}
use Rattle.laws_look.specs.Accused.{plain_heading}
use Rattle.laws_look.proofs.Looks.{asker, answerer, asks_in, answers_in, unwanted_in, answered_in, early_in, back_in}
use Rattle.laws_look.proofs.Found.{OutFound, RetFound}
use Rattle.laws_look.proofs.Owed.{AllCome}
use Rattle.laws_look.proofs.Turning.{turned_to, turn_in}
use Rattle.laws_look.proofs.Leading.{ToImport, ToAnswer}
use Rattle.laws_look.proofs.Counts.{held}
use Rattle.laws_look.proofs.Passing.{Fine, none_there, none_here, first_out, first_ret, no_flag}

-- What a message names is there: the questions are asked, and the exports are held.
pub record Named (m : PlainMessage) (own heard : Kept) : Type 0 where
  pub target_asked : (q : ℕ) → Met (answerer (own.questions q)) (targets_marks q m)
  pub each_asked : (q : ℕ) → Met (answerer (own.questions q)) (each_marks q (descriptors_of_plain m))
  pub target_held : (e : ℕ) → AreHeld (held e (held_of heard)) (targets_in e m)
  pub each_held : (e : ℕ) → AreHeld (held e (held_of heard)) (named_in e (descriptors_of_plain m))
  pub turns_import : ToImport heard (turn_in m)
  pub turns_answer : (q : ℕ) → ToAnswer q (own.questions q) (turn_in m)

-- ---- Lists of breaches

abbrev IsEmpty : List Breach → Type 0
IsEmpty [] = Unit {0}
IsEmpty (b ∷ bs) = ⊥

nothing : (bs : List Breach) → IsEmpty bs → bs ≡ []
nothing [] h = refl
nothing (b ∷ bs) h = absurd h

append : (xs ys : List Breach) → IsEmpty xs → IsEmpty ys → IsEmpty (xs ++ ys)
append [] ys h g = g
append (x ∷ xs) ys h g = absurd h

none : (o : Option Breach) → o ≡ None → IsEmpty (option_to_list o)
none None e = tt
none (Some b) e = absurd (let bad : Some b ≡ None = e in cc)

-- ---- Tests

lt_true : (a b : ℕ) → a < b → nat_lt a b ≡ true
lt_true a b h = grind arith

lt_false : (a b : ℕ) → b ≤ a → nat_lt a b ≡ false
lt_false a b h = grind arith

-- ---- What is named

-- It is open, and not finished.
open_still : (u : Use) (q : QuestionId) (o : Option Question) (closed : Option Closed) → IsHere (answerer o) → not_asked_by u q o closed ≡ None
open_still u q None closed h = absurd h
open_still u q (Some x) closed h = of x.returned x.finished x.waived h
  where
    unwanted : (g : Ids) (b w : Bool) → IsHere (unwanted_in g b w) → ⊥
    unwanted g false false h = h
    unwanted g false true h = h
    unwanted g true w h = h

    of : (r : Option Returned) (f : Option Finished) (w : Bool) → IsHere (answers_in (numbers x.gives) r f w) → not_asked_by u q (Some (record x { returned = r; finished = f; waived = w })) closed ≡ None
    of None None w h = refl
    of None (Some f) w h = absurd (unwanted (numbers x.gives) f.flag w h)
    of (Some r) None w h = refl
    of (Some r) (Some f) w h = absurd h

first_name : (u : session.Answerer Ids Ids) (k : ℕ) (ms : List (Mark Ids Ids)) → Met u (only (nat_eq k k) mark.Names ++ ms) → IsHere u
first_name u k ms h = let g = subst (λ (b : Bool). Met u (only b mark.Names ++ ms)) (itself k) h in g.0

later_names : (u : session.Answerer Ids Ids) (b : Bool) (ms : List (Mark Ids Ids)) → Met u (only b mark.Names ++ ms) → Met u ms
later_names u true ms h = h.1
later_names u false ms h = h

first_held : (n k : ℕ) (ms : List export.Back) → AreHeld n (only (nat_eq k k) export.Mention ++ ms) → 0 < n
first_held n k ms h = let g = subst (λ (b : Bool). AreHeld n (only b export.Mention ++ ms)) (itself k) h in g.0

later_held : (n : ℕ) (b : Bool) (ms : List export.Back) → AreHeld n (only b export.Mention ++ ms) → AreHeld n ms
later_held n true ms h = h.1
later_held n false ms h = h

module _ (own heard : Kept) where
  is_held : (u : Use) (x : ExportId) → 0 < held x.0 (held_of heard) → not_held heard u x ≡ None
  is_held u x h = ap (λ (b : Bool). if b then None else Some (breach.NotHeld u x (gone_at heard x))) (lt_true 0 (count_at heard x) h)

  target_there : (t : Target) → ((q : ℕ) → Met (answerer (own.questions q)) (target_marks q t)) → ((e : ℕ) → AreHeld (held e (held_of heard)) (target_in e t)) → no_target own heard t ≡ None
  target_there (target.ImportedCap x) n h = is_held usage.Target x (one (nat_eq x.0 x.0) (itself x.0) (h x.0))
    where
      one : (b : Bool) → b ≡ true → AreHeld (held x.0 (held_of heard)) (only b export.Mention) → 0 < held x.0 (held_of heard)
      one true e h = h.0
      one false e h = absurd (let bad : false ≡ true = e in cc)
  target_there (target.PromisedAnswer q path) n h = open_still usage.Target q (question_at own q) (closed_at own q) (one (nat_eq q.0 q.0) (itself q.0) (n q.0))
    where
      one : (b : Bool) → b ≡ true → Met (answerer (own.questions q.0)) (only b mark.Names) → IsHere (answerer (own.questions q.0))
      one true e h = h.0
      one false e h = absurd (let bad : false ≡ true = e in cc)

  each_there : (i : ℕ) (ds : List Descriptor) → ((q : ℕ) → Met (answerer (own.questions q)) (each_marks q ds)) → ((e : ℕ) → AreHeld (held e (held_of heard)) (named_in e ds)) → IsEmpty (named_from own heard i ds).breaches
  each_there i [] n h = tt
  each_there i (descriptor.None ∷ ds) n h = each_there (i + 1) ds n h
  each_there i (descriptor.SenderHosted x ∷ ds) n h = each_there (i + 1) ds n h
  each_there i (descriptor.SenderPromise x ∷ ds) n h = each_there (i + 1) ds n h
  each_there i (descriptor.ReceiverHosted x ∷ ds) n h =
      append (option_to_list (not_held heard (usage.Capability i) x) ++ []) (named_from own heard (i + 1) ds).breaches
      (append (option_to_list (not_held heard (usage.Capability i) x)) [] (none _ (is_held (usage.Capability i) x (first_held _ x.0 _ (h x.0)))) tt)
      (each_there (i + 1) ds n (λ e. later_held _ (nat_eq e x.0) _ (h e)))
  each_there i (descriptor.ReceiverAnswer q path ∷ ds) n h =
      append (option_to_list (not_asked own (usage.Capability i) q) ++ []) (named_from own heard (i + 1) ds).breaches
      (append (option_to_list (not_asked own (usage.Capability i) q)) [] (none _ (open_still (usage.Capability i) q (question_at own q) (closed_at own q) (first_name _ q.0 _ (n q.0)))) tt)
      (each_there (i + 1) ds (λ k. later_names _ (nat_eq k q.0) _ (n k)) h)

-- ---- What is given back

times_more : (k : ℕ) (xs : List ExportId) (x : ExportId) → times_in k (xs ++ x ∷ []) ≡ times_in k xs + cond (nat_eq k x.0) 1 0
times_more k [] x = omega arith
times_more k (y ∷ ys) x = let a = times_more k ys x in omega (arith, a)

none_too_many : (heard : Kept) (b : GivenBack) (before xs : List ExportId) → ((e : ℕ) → times_in e before + how_many (nat_eq e) (numbers xs) ≤ held e (held_of heard)) → IsEmpty (too_many_of heard b before xs)
none_too_many heard b before [] h = tt
none_too_many heard b before (x ∷ xs) h =
    let n = times_in x.0 before in
    let here : n < held x.0 (held_of heard) = first n (how_many (nat_eq x.0) (numbers xs)) (held x.0 (held_of heard)) (subst (λ (c : Bool). n + cond c (suc (how_many (nat_eq x.0) (numbers xs))) (how_many (nat_eq x.0) (numbers xs)) ≤ held x.0 (held_of heard)) (itself x.0) (h x.0)) in
    append (option_to_list (none_left heard b x n)) (too_many_of heard b (before ++ x ∷ []) xs)
    (none _ (ap (λ (c : Bool). if c then None else Some (breach.TooMany b 1 x 0)) (lt_true n (count_at heard x) here)))
    (none_too_many heard b (before ++ x ∷ []) xs (λ e. rest e (nat_eq e x.0) (how_many (nat_eq e) (numbers xs)) (times_in e before) (times_in e (before ++ x ∷ [])) (held e (held_of heard)) (times_more e before x) (h e)))
  where
    first : (n m k : ℕ) → n + suc m ≤ k → n < k
    first n m k h = omega (arith, h)

    rest : (e : ℕ) (c : Bool) (m a b k : ℕ) → b ≡ a + cond c 1 0 → a + cond c (suc m) m ≤ k → b + m ≤ k
    rest e true m a b k f g = omega (arith, f, g)
    rest e false m a b k f g = omega (arith, f, g)

flag_fine : (heard : Kept) (flag : Bool) (lets : Ids) (xs : List ExportId) → IsJust (if_flag flag lets) (numbers xs) → ((e : ℕ) → how_many (nat_eq e) (if_true flag lets) ≤ held e (held_of heard)) → IsEmpty (flag_back heard flag xs).breaches
flag_fine heard true lets xs j enough = none_too_many heard by.Flag [] xs (λ e. let p = subst (λ (l : Ids). how_many (nat_eq e) l ≤ held e (held_of heard)) j (enough e) in omega (arith, p))
flag_fine heard false lets xs j enough = tt

-- ---- A Return

outcome_fine : (own : Kept) (his : Question) (q : QuestionId) (b : ReturnBody) → IsEmpty (judged_outcome own his q (outcome_of b)).breaches
outcome_fine own his q (body.Results p ds) = tt
outcome_fine own his q (body.Exception x) = tt
outcome_fine own his q body.Canceled = tt

module _ (own heard : Kept) (a : Answers) (b : ReturnBody) (is : a.outcome ≡ outcome_of b) (y lets : Ids) (enough : (e : ℕ) → how_many (nat_eq e) (if_true a.flag lets) ≤ held e (held_of heard)) where
  abbrev m : session.Ret Ids Ids
  m = session.Return y (if_flag a.flag lets)

  answered_fine : (his : Question) → IsJust (if_flag a.flag lets) (numbers his.gives) → IsEmpty (judged_answered own heard a his).breaches
  answered_fine his j =
      append (flag_back heard a.flag his.gives).breaches (judged_outcome own his a.question a.outcome).breaches (flag_fine heard a.flag lets his.gives j enough)
      (let o = outcome_fine own his a.question b in subst (λ (z : _). IsEmpty (judged_outcome own his a.question z).breaches) (sym is) o)

  early : (g : Ids) (b w : Bool) → RetFound (early_in g b w) m → IsJust (if_flag a.flag lets) g
  early g false false h = h
  early g false true h = absurd h
  early g true w h = absurd h

  not_back : (g : Ids) (b : Bool) → RetFound (back_in g b) m → ⊥
  not_back g false h = h
  not_back g true h = h

  answer_fine : (o : Option Question) (closed : Option Closed) → RetFound (asker o) m → IsEmpty (judged_answer_by own heard a (unanswered_by a.question o closed)).breaches
  answer_fine None closed h = absurd h
  answer_fine (Some x) closed h = of x.returned x.finished x.waived h
    where
      of : (r : Option Returned) (f : Option Finished) (w : Bool) → RetFound (asks_in (numbers x.gives) r f w) m → IsEmpty (judged_answer_by own heard a (unanswered_by a.question (Some (record x { returned = r; finished = f; waived = w })) closed)).breaches
      of None None false h = answered_fine (record x { returned = None; finished = None; waived = false }) h
      of None None true h = absurd h
      of None (Some f) w h = answered_fine (record x { returned = None; finished = Some f; waived = w }) (early (numbers x.gives) f.flag w h)
      of (Some r) None w h = absurd (not_back (numbers r.gives) r.waived h)
      of (Some r) (Some f) w h = absurd h

-- ---- A Finish

module _ (own heard : Kept) (q : QuestionId) (flag : Bool) (lets : Ids) (enough : (e : ℕ) → how_many (nat_eq e) (if_true flag lets) ≤ held e (held_of heard)) where
  abbrev fin : session.Out Ids Ids
  fin = session.Fin (if_flag flag lets)

  abbrev Both : Option Question → Option Closed → Type 0
  Both o closed = IsEmpty (option_to_list (not_finishable_by q o closed)) × IsEmpty (flag_back heard flag (gives_of o)).breaches

  not_unwanted : (g : Ids) (b w : Bool) → OutFound (unwanted_in g b w) fin → ⊥
  not_unwanted g false false h = h
  not_unwanted g false true h = h
  not_unwanted g true w h = h

  no_back : (flag : Bool) → flag ≡ false → IsEmpty (flag_back heard flag []).breaches
  no_back true e = absurd (let bad : true ≡ false = e in cc)
  no_back false e = tt

  done : (g : Ids) (b : Bool) → OutFound (answered_in g b) fin → IsJust (if_flag flag lets) g
  done g false h = h
  done g true h = absurd h

  finish_fine : (o : Option Question) (closed : Option Closed) → OutFound (answerer o) fin → Both o closed
  finish_fine None closed h = absurd h
  finish_fine (Some x) closed h = of x.returned x.finished x.waived h
    where
      of : (r : Option Returned) (f : Option Finished) (w : Bool) → OutFound (answers_in (numbers x.gives) r f w) fin → Both (Some (record x { returned = r; finished = f; waived = w })) closed
      of None None false h = (tt, no_back flag (no_flag flag lets h))
      of None None true h = absurd h
      of None (Some f) w h = absurd (not_unwanted (numbers x.gives) f.flag w h)
      of (Some r) None w h = (tt, flag_fine heard flag lets r.gives (done (numbers r.gives) r.waived h) enough)
      of (Some r) (Some f) w h = absurd h

-- ---- Each message

module _ (lets : Ids) (own heard : Kept) where
  said_fine : (m : PlainMessage) → Fine m lets own heard → Named m own heard → IsEmpty (judged own heard (plain_does m (plain_heading m))).breaches
  said_fine (plain.Abort x) f n = absurd f.useful
  said_fine (plain.Bootstrap p) f n =
      let key = p.0 in
      let free = none_there (own.questions key) [] (first_out (answerer (own.questions key)) (nat_eq key key) (session.Open []) (itself key) (f.asks key)) in
      append ((option_to_list (in_use own p) ++ []) ++ []) [] (append (option_to_list (in_use own p) ++ []) [] (append (option_to_list (in_use own p)) [] (none _ (ap (in_use_by p) free)) tt) tt) tt
  said_fine (plain.Call c) f n =
      let key = c.question.0 in
      let g = given c.descriptors in
      let free = none_there (own.questions key) g (first_out (answerer (own.questions key)) (nat_eq key key) (session.Open g) (itself key) (f.asks key)) in
      let a = option_to_list (in_use own c.question) in
      let b = option_to_list (no_target own heard c.target) in
      append ((a ++ b) ++ []) (named_from own heard 0 c.descriptors).breaches
      (append (a ++ b) [] (append a b (none _ (ap (in_use_by c.question) free)) (none _ (target_there own heard c.target n.target_asked n.target_held))) tt)
      (each_there own heard 0 c.descriptors n.each_asked n.each_held)
  said_fine (plain.Return r) f n =
      let key = r.answer.0 in
      let y = given (descriptors_of_plain (plain.Return r)) in
      let a = return_answers r (plain_heading (plain.Return r)) in
      let h = first_ret (asker (heard.questions key)) (nat_eq key key) (session.Return y (if_flag r.release_param_caps lets)) (itself key) (f.answers key) in
      append (named_from own heard 0 a.descriptors).breaches (judged_answer own heard a).breaches (named_body r.body n.each_asked n.each_held)
      (answer_fine own heard a r.body refl y lets f.enough (heard.questions key) (closed_at heard r.answer) h)
    where
      named_body : (b : ReturnBody) → ((q : ℕ) → Met (answerer (own.questions q)) (each_marks q (descriptors_of_body b))) → ((e : ℕ) → AreHeld (held e (held_of heard)) (named_in e (descriptors_of_body b))) → IsEmpty (named_from own heard 0 (results_of b)).breaches
      named_body (body.Results p ds) k l = each_there own heard 0 ds k l
      named_body (body.Exception x) k l = tt
      named_body body.Canceled k l = tt
  said_fine (plain.Finish x) f n =
      let key = x.question.0 in
      let h = first_out (answerer (own.questions key)) (nat_eq key key) (session.Fin (if_flag x.release_result_caps lets)) (itself key) (f.asks key) in
      let w = finish_fine own heard x.question x.release_result_caps lets f.enough (own.questions key) (closed_at own x.question) h in
      append (option_to_list (not_finishable own x.question)) (flag_back heard x.release_result_caps (gives_of (question_at own x.question))).breaches w.0 w.1
  said_fine (plain.Resolve r) f n = append (named_resolution own heard (resolution r.to)).breaches (option_to_list (not_resolvable own r.promise)) (named_to r.to n.each_asked n.each_held) (none _ may)
    where
      named_to : (to : ResolvedTo) → ((q : ℕ) → Met (answerer (own.questions q)) (each_marks q (descriptors_of_resolved to))) → ((e : ℕ) → AreHeld (held e (held_of heard)) (named_in e (descriptors_of_resolved to))) → IsEmpty (named_resolution own heard (resolution to)).breaches
      named_to (resolved.Exception x) k l = tt
      named_to (resolved.Cap descriptor.None) k l = tt
      named_to (resolved.Cap (descriptor.SenderHosted x)) k l = tt
      named_to (resolved.Cap (descriptor.SenderPromise x)) k l = tt
      named_to (resolved.Cap (descriptor.ReceiverHosted x)) k l = append (option_to_list (not_held heard usage.Resolution x)) [] (none _ (is_held own heard usage.Resolution x (first_held _ x.0 _ (l x.0)))) tt
      named_to (resolved.Cap (descriptor.ReceiverAnswer q path)) k l = append (option_to_list (not_asked own usage.Resolution q)) [] (none _ (open_still usage.Resolution q (question_at own q) (closed_at own q) (first_name _ q.0 _ (k q.0)))) tt

      may_come : (c : Bool) → c ≡ true → AllCome (own.owed r.promise.0) (only c export.Resolve) → own.owed r.promise.0 ≡ true
      may_come true e h = h.0
      may_come false e h = absurd (let bad : false ≡ true = e in cc)

      may : not_resolvable own r.promise ≡ None
      may = ap (λ (b : Bool). if b then None else Some (breach.ResolvesNone r.promise (unresolved_of (export_at own r.promise)))) (may_come (nat_eq r.promise.0 r.promise.0) (itself r.promise.0) (f.due r.promise.0))
  said_fine (plain.Release r) f n = count (nat_eq r.count 0)
    where
      enough : r.count ≤ held r.export.0 (held_of heard)
      enough = subst (λ (b : Bool). cond b r.count 0 ≤ held r.export.0 (held_of heard)) (itself r.export.0) (f.enough r.export.0)

      fine : too_many heard by.Itself r.export r.count ≡ None
      fine = ap (λ (b : Bool). if b then Some (breach.TooMany by.Itself r.count r.export (count_at heard r.export)) else None) (lt_false (count_at heard r.export) r.count enough)

      count : (b : Bool) → IsEmpty (if b then wonders (Some (odd.ReleasesNone r.export)) else breaks (too_many heard by.Itself r.export r.count)).breaches
      count true = tt
      count false = none _ fine
  said_fine (plain.Disembargo d) f n = turns d.target d.context f.free f.begun n.target_asked n.target_held n.turns_import n.turns_answer
    where
      left : (lost leads : Bool) → leads ≡ true → IsEmpty (option_to_list (leads_elsewhere lost leads))
      left true leads e = tt
      left false true e = tt
      left false false e = absurd (let bad : false ≡ true = e in cc)

      back : (t : Target) → ToImport heard (Some t) → ((q : ℕ) → ToAnswer q (own.questions q) (Some t)) → leads_back own heard t ≡ true
      back (target.ImportedCap x) h g = h
      back (target.PromisedAnswer q path) h g = g q.0 (itself q.0)

      is_there : (o : Option ℕ) → here o ≡ 1 → is_some o ≡ true
      is_there None h = absurd (omega (arith, h))
      is_there (Some x) h = refl

      turns : (t : Target) (c : DisembargoContext) → ((e : ℕ) → is_out e c ≡ true → here (own.embargoes e) ≡ 0) → ((e : ℕ) → is_back e c ≡ true → here (heard.embargoes e) ≡ 1)
          → ((q : ℕ) → Met (answerer (own.questions q)) (target_marks q t)) → ((e : ℕ) → AreHeld (held e (held_of heard)) (target_in e t)) → ToImport heard (turned_to t c) → ((q : ℕ) → ToAnswer q (own.questions q) (turned_to t c)) → IsEmpty (judged own heard (disembargo_does t c)).breaches
      turns t (context.SenderLoopback i) free begun k l u v =
          append (option_to_list (no_target own heard t)) (option_to_list (embargo_by (is_some (no_target own heard t)) (leads_back own heard t) i (embargo_at own i))) (none _ (target_there own heard t k l))
          (subst (λ (o : Option ℕ). IsEmpty (option_to_list (embargo_by (is_some (no_target own heard t)) (leads_back own heard t) i o))) (sym (none_here (own.embargoes i.0) (free i.0 (itself i.0)))) (left (is_some (no_target own heard t)) (leads_back own heard t) (back t u v)))
      turns t (context.ReceiverLoopback i) free begun k l u v = none _ (ap (λ (b : Bool). if b then None else Some (breach.NoEmbargo i)) (is_there (heard.embargoes i.0) (begun i.0 (itself i.0))))
  said_fine (plain.Other k) f n = absurd f.useful

  pub fine : (m : PlainMessage) → own.down ≡ None → Fine m lets own heard → Named m own heard → (verdict own heard (plain_does m (plain_heading m))).breaches ≡ []
  fine m up f n = nothing (verdict own heard (plain_does m (plain_heading m))).breaches (append (option_to_list (behind_abort own.down)) (judged own heard (plain_does m (plain_heading m))).breaches (none _ (ap behind_abort up)) (said_fine m f n))
