-- What a received message does to the questions and answers.
use Rattle.std.proofs.Common.{◌≡◌, ℕ, Bool, true, false, cond, nat_eq, List, [], ◌∷◌, Option, None, Some, refl, sym, ap, subst, ◌∙◌}
use Rattle.std.specs.FinMap as map
use Rattle.rpc_msg.specs.declared.ids.ExportId.{ExportId}
use Rattle.rpc_msg.specs.declared.parts.Descriptor.{Descriptor}
use Rattle.rpc_msg.specs.declared.message.ReturnBody.{ReturnBody}
use Rattle.rpc_msg.specs.declared.message.ReturnBody.TheVariants as body
use Rattle.rpc_msg.specs.declared.message.DisembargoContext.TheVariants.{SenderLoopback, ReceiverLoopback}
use Rattle.rpc_msg.specs.declared.message.PlainMessage.{PlainMessage}
use Rattle.rpc_msg.specs.declared.message.PlainMessage.TheVariants as plain
use Rattle.rpc_msg.specs.Messages.{given, descriptors_of_body}
use Rattle.rpc_msg.specs.declared.message.Call.{Call}
use Rattle.rpc_msg.specs.declared.message.Finish.{Finish}
use Rattle.rpc_msg.specs.declared.message.Return.{Return}
use Rattle.rpc_msg.specs.declared.message.Disembargo.{Disembargo}
use Rattle.rpc_msg.specs.declared.message.DisembargoContext.{DisembargoContext}
use Rattle.finite_maps.specs.Tally.{Map}
use Rattle.finite_maps.proofs.Tested.{equal, get_put, get_cut, at_changed}
use Rattle.finite_maps.proofs.Gets.{get-insert_same}
use Rattle.rpc_machine.specs.declared.calls.Caller.{Caller}
use Rattle.rpc_machine.specs.declared.calls.Caller.TheVariants as caller
use Rattle.rpc_machine.specs.declared.calls.KeptOutcome.{KeptOutcome}
use Rattle.rpc_machine.specs.declared.command.Level.{Level}
use Rattle.rpc_machine.specs.declared.command.Level.TheVariants.{One}
use Rattle.rpc_machine.specs.declared.entries.Finishing.{Finishing}
use Rattle.rpc_machine.specs.declared.entries.Finishing.TheVariants as finishing
use Rattle.rpc_machine.specs.declared.entries.Returned.{Returned}
use Rattle.rpc_machine.specs.declared.entries.Question.{Question}
use Rattle.rpc_machine.specs.declared.entries.AnswerEntry.{AnswerEntry}
use Rattle.rpc_machine.specs.State.{State}
use Rattle.rpc_machine.specs.Progress.{Progress, with_state, export_ids, numbers}
use Rattle.rpc_machine.specs.Sweeping.{got_of, descriptors_said}
use Rattle.rpc_machine.specs.Descriptors.{read_beside, take_all, taken_of, taken_at}
use Rattle.rpc_machine.specs.Flags.{obey}
use Rattle.rpc_machine.specs.Faults.{gave}
use Rattle.rpc_machine.specs.Messages.{opened, results_of, finished_map}
use Rattle.laws_steps.specs.Callers.{IsOpenFor, AnswersWith}
use Rattle.laws_acts.specs.Acts.{came, ComesTo, TurnsBy, Consumes}
use Rattle.laws_acts.proofs.Alone.{all_alone}
use Rattle.laws_acts.specs.Sent.{Ids, bounce_sent, turned_sent, sent_at_once}
use Rattle.laws_runs.specs.Questions as session
use Rattle.laws_runs.specs.Questions.{Asker, Answerer, Out, Ret, IsJust, tell_one, hear_one}
use Rattle.laws_runs.specs.Views.{asked_by, asker_of, answered_by, answerer_of, if_flag, only, out_of, ret_of, IsUseful, IsNotWaived, IsUsual, IsReady, tell, hear, Heard, Did}
use Rattle.laws_runs.proofs.Same.{SameTables, same_tables, then_tables}
use Rattle.laws_runs.proofs.Same as same
use Rattle.laws_runs.proofs.Acted.{quiet, other, same_numbers, ready_still}

tells_none : (s u : State) (m : PlainMessage) → ((q : ℕ) (l : Ids) → ret_of q m l ≡ []) → u.questions ≡ s.questions → (q : ℕ) (l : Ids) → asker_of (map.get u.questions q) ≡ tell (asker_of (map.get s.questions q)) (ret_of q m l)
tells_none s u m a e q l = ap (λ (w : Map Question). asker_of (map.get w q)) e ∙ sym (ap (λ (ms : List (Ret Ids Ids)). tell (asker_of (map.get s.questions q)) ms) (a q l))

hears_none : (s u : State) (m : PlainMessage) → ((q : ℕ) (l : Ids) → out_of q m l ≡ []) → u.answers ≡ s.answers → (q : ℕ) (l : Ids) → answerer_of (map.get u.answers q) ≡ hear (answerer_of (map.get s.answers q)) (out_of q m l)
hears_none s u m a e q l = ap (λ (w : Map AnswerEntry). answerer_of (map.get w q)) e ∙ sym (ap (λ (ms : List (Out Ids Ids)). hear (answerer_of (map.get s.answers q)) ms) (a q l))

-- The tables change, and nothing is sent.
at_once : (d first : Progress) (m : PlainMessage) → IsReady first.state → first.effects.sends ≡ d.effects.sends → ((q : ℕ) (l : Ids) → asker_of (map.get first.state.questions q) ≡ tell (asker_of (map.get d.state.questions q)) (ret_of q m l)) → ((q : ℕ) (l : Ids) → answerer_of (map.get first.state.answers q) ≡ hear (answerer_of (map.get d.state.answers q)) (out_of q m l)) → Heard m d [] first
at_once d first m i e a b = record { mid = first.state; gets = record { tells = a; hears = b }; did = quiet (with_state d first.state) first i (same_tables first.state) e }

-- Of a message that no session speaks of.
no_session : (d first : Progress) (m : PlainMessage) → IsReady d.state → ((q : ℕ) (l : Ids) → ret_of q m l ≡ []) → ((q : ℕ) (l : Ids) → out_of q m l ≡ []) → SameTables d.state first.state → first.effects.sends ≡ d.effects.sends → Heard m d [] first
no_session d first m i a b h e = at_once d first m (ready_still d.state first.state h i) e (tells_none d.state first.state m a h.questions) (hears_none d.state first.state m b h.answers)

-- ---- Opening

open_one : (m : Map AnswerEntry) (k : ℕ) (a : AnswerEntry) (ids : Ids) → map.get m k ≡ None → answerer_of (Some a) ≡ session.Working ids → (q : ℕ) → answerer_of (map.get (map.insert m k a) q) ≡ hear (answerer_of (map.get m q)) (only (nat_eq q k) (session.Open ids))
open_one m k a ids free e q = ap answerer_of (get_put m k a q) ∙ by (nat_eq q k) refl
  where
    by : (b : Bool) → nat_eq q k ≡ b → answerer_of (cond b (Some a) (map.get m q)) ≡ hear (answerer_of (map.get m q)) (only b (session.Open ids))
    by false f = refl
    by true f = e ∙ sym (ap (λ (v : Answerer Ids Ids). hear_one v (session.Open ids)) (ap (λ (j : ℕ). answerer_of (map.get m j)) (equal q k f) ∙ ap answerer_of free))

abbrev entry_of : ℕ → Ids → AnswerEntry
entry_of o ids = record { outcome = o; taken = export_ids ids; returned = None; finished = false }

opens_ready : (s : State) (k o : ℕ) (ids : Ids) → IsReady s → map.get s.answers k ≡ None → map.get s.outcomes o ≡ None → IsReady (opened s k o ids)
opens_ready s k o ids i free new = record {
  level = i.level;
  usual = i.usual;
  opens = λ j q h. by j q (nat_eq j o) refl (subst (λ (y : Option KeptOutcome). IsOpenFor q y) (get_put s.outcomes o kept j) h);
}
  where
    kept : KeptOutcome
    kept = record { caller = caller.Peer (record { 0 = k }); value = None; waiting = [] }

    number : Caller → ℕ
    number (caller.Application c) = 0
    number (caller.Peer q) = q.0

    other_answer : (j q : ℕ) → AnswersWith j (map.get s.answers q) → AnswersWith j (map.get (map.insert s.answers k (entry_of o ids)) q)
    other_answer j q h = subst (λ (y : Option AnswerEntry). AnswersWith j y) (sym (get_put s.answers k (entry_of o ids) q)) (past (nat_eq q k) refl)
      where
        past : (b : Bool) → nat_eq q k ≡ b → AnswersWith j (cond b (Some (entry_of o ids)) (map.get s.answers q))
        past false f = h
        past true f = absurd (subst (λ (y : Option AnswerEntry). AnswersWith j y) (ap (λ (n : ℕ). map.get s.answers n) (equal q k f) ∙ free) h)

    by : (j q : ℕ) (b : Bool) → nat_eq j o ≡ b → IsOpenFor q (cond b (Some (record { caller = caller.Peer (record { 0 = k }); value = None; waiting = [] })) (map.get s.outcomes j)) → AnswersWith j (map.get (map.insert s.answers k (entry_of o ids)) q)
    by j q false f h = other_answer j q (i.opens j q h)
    by j q true f h =
        let same : k ≡ q = ap number h.1 in
        subst (λ (n : ℕ). AnswersWith j (map.get (map.insert s.answers k (entry_of o ids)) n)) same
        (subst (λ (y : Option AnswerEntry). AnswersWith j y) (sym (get-insert_same s.answers k (entry_of o ids))) (sym (equal j o f), refl))

open_any : (d : Progress) (s : State) (m : PlainMessage) (k o : ℕ) (ids : Ids) → IsReady d.state → SameTables d.state s → s.outcomes ≡ d.state.outcomes → map.get d.state.answers k ≡ None → map.get d.state.outcomes o ≡ None → ((q : ℕ) (l : Ids) → out_of q m l ≡ only (nat_eq q k) (session.Open ids)) → ((q : ℕ) (l : Ids) → ret_of q m l ≡ []) → Heard m d [] (with_state d (opened s k o ids))
open_any d s m k o ids i h c free new a b =
    at_once d (with_state d (opened s k o ids)) m
    (opens_ready s k o ids (ready_still d.state s h i) (ap (λ (w : Map AnswerEntry). map.get w k) h.answers ∙ free) (ap (λ (w : Map KeptOutcome). map.get w o) c ∙ new))
    refl
    (tells_none d.state (opened s k o ids) m b h.questions)
    (λ q l. ap (λ (w : Map AnswerEntry). answerer_of (map.get (map.insert w k (entry_of o ids)) q)) h.answers ∙ open_one d.state.answers k (entry_of o ids) ids free (ap session.Working (same_numbers ids)) q ∙ sym (ap (λ (ms : List (Out Ids Ids)). hear (answerer_of (map.get d.state.answers q)) ms) (a q l)))

-- ---- Returning

said_beside : (s : State) (ds : List Descriptor) → descriptors_said (read_beside s ds) ≡ ds
said_beside s [] = refl
said_beside s (d ∷ ds) = ap (λ (xs : List Descriptor). d ∷ xs) (said_beside s ds)

pub got_back : (s : State) (b : ReturnBody) → got_of (Some (results_of s b)) ≡ given (descriptors_of_body b)
got_back s (body.Results payload ds) = ap given (said_beside s ds)
got_back s (body.Exception x) = refl
got_back s body.Canceled = refl

told_one : (m : Map Question) (k : ℕ) (o : Option Question) (r : Ret Ids Ids) (n : Map Question) → ((q : ℕ) → map.get n q ≡ cond (nat_eq q k) o (map.get m q)) → asker_of o ≡ tell_one (asker_of (map.get m k)) r → (q : ℕ) → asker_of (map.get n q) ≡ tell (asker_of (map.get m q)) (only (nat_eq q k) r)
told_one m k o r n g e q = ap asker_of (g q) ∙ by (nat_eq q k) refl
  where
    by : (b : Bool) → nat_eq q k ≡ b → asker_of (cond b o (map.get m q)) ≡ tell (asker_of (map.get m q)) (only b r)
    by false f = refl
    by true f = e ∙ ap (λ (j : ℕ). tell_one (asker_of (map.get m j)) r) (sym (equal q k f))

pub came_same : (s : State) (r : Return) (x : Question) → SameTables s (came s r x)
came_same s r x = let t = take_all s (descriptors_of_body r.body) in then_tables s t (came s r x) (same.takes s (descriptors_of_body r.body)) (same.obeys t r.release_param_caps (numbers x.given)).tables

comes : (d first : Progress) (r : Return) (x : Question) → IsReady d.state → map.get d.state.questions r.answer.0 ≡ Some x → x.returned ≡ None → (f : Finishing) → x.finish ≡ f → ComesTo d r x f first → Heard (plain.Return r) d [] first
comes d first r x i there unsaid finishing.Waived e h = absurd (subst (λ (f : Finishing). IsNotWaived f) e (subst (λ (o : Option Question). IsUsual o) there (i.usual r.answer.0)))
comes d first r x i there unsaid finishing.Sent e h =
    let c = came_same d.state r x in
    let t : State = record (came d.state r x) { questions = map.remove d.state.questions r.answer.0 } in
    let g = ready_still d.state (came d.state r x) c i in
    subst (λ (p : Progress). Heard (plain.Return r) d [] p) (sym h)
    (at_once d (with_state d t) (plain.Return r)
    (record { level = g.level; usual = at_changed (λ o. IsUsual o) d.state.questions r.answer.0 None (map.remove d.state.questions r.answer.0) (get_cut d.state.questions r.answer.0) tt i.usual; opens = g.opens })
    refl
    (λ q l. told_one d.state.questions r.answer.0 None (session.Return (given (descriptors_of_body r.body)) (if_flag r.release_param_caps l)) (map.remove d.state.questions r.answer.0) (get_cut d.state.questions r.answer.0)
    (sym (ap (λ (v : Asker Ids Ids). tell_one v (session.Return (given (descriptors_of_body r.body)) (if_flag r.release_param_caps l))) (ap asker_of there ∙ ap (λ (f : Finishing). asked_by (numbers x.given) f x.returned) e ∙ ap (λ (o : Option Returned). asked_by (numbers x.given) finishing.Sent o) unsaid))) q)
    (hears_none d.state t (plain.Return r) (λ q l. refl) c.answers))
comes d first r x i there unsaid finishing.Owed e h =
    let c = came_same d.state r x in
    let u = came d.state r x in
    let said = results_of d.state r.body in
    let y : Question = record x { returned = Some said } in
    let t : State = record u { questions = map.insert u.questions r.answer.0 y } in
    let g = ready_still d.state u c i in
    let get = λ (q : ℕ). ap (λ (m : Map Question). map.get (map.insert m r.answer.0 y) q) c.questions ∙ get_put d.state.questions r.answer.0 y q in
    subst (λ (p : Progress). Heard (plain.Return r) d [] p) (sym h)
    (at_once d (with_state d t) (plain.Return r)
    (record { level = g.level; usual = at_changed (λ o. IsUsual o) d.state.questions r.answer.0 (Some y) t.questions get (subst (λ (f : Finishing). IsNotWaived f) (sym e) tt) i.usual; opens = g.opens })
    refl
    (λ q l. told_one d.state.questions r.answer.0 (Some y) (session.Return (given (descriptors_of_body r.body)) (if_flag r.release_param_caps l)) t.questions get
    (ap (λ (f : Finishing). asked_by (numbers x.given) f (Some said)) e ∙ ap session.Back (got_back d.state r.body) ∙
    sym (ap (λ (v : Asker Ids Ids). tell_one v (session.Return (given (descriptors_of_body r.body)) (if_flag r.release_param_caps l))) (ap asker_of there ∙ ap (λ (f : Finishing). asked_by (numbers x.given) f x.returned) e ∙ ap (λ (o : Option Returned). asked_by (numbers x.given) finishing.Owed o) unsaid))) q)
    (hears_none d.state t (plain.Return r) (λ q l. refl) c.answers))

-- ---- Finishing

abbrev done_one : AnswerEntry → Option (List ExportId) → Option AnswerEntry
done_one a None = Some (record a { finished = true })
done_one a (Some ids) = None

done_get : (m : Map AnswerEntry) (k : ℕ) (a : AnswerEntry) (o : Option (List ExportId)) (q : ℕ) → map.get (finished_map m k a o) q ≡ cond (nat_eq q k) (done_one a o) (map.get m q)
done_get m k a None q = get_put m k (record a { finished = true }) q
done_get m k a (Some ids) q = get_cut m k q

heard_one : (m : Map AnswerEntry) (k : ℕ) (o : Option AnswerEntry) (r : Out Ids Ids) (n : Map AnswerEntry) → ((q : ℕ) → map.get n q ≡ cond (nat_eq q k) o (map.get m q)) → answerer_of o ≡ hear_one (answerer_of (map.get m k)) r → (q : ℕ) → answerer_of (map.get n q) ≡ hear (answerer_of (map.get m q)) (only (nat_eq q k) r)
heard_one m k o r n g e q = ap answerer_of (g q) ∙ by (nat_eq q k) refl
  where
    by : (b : Bool) → nat_eq q k ≡ b → answerer_of (cond b o (map.get m q)) ≡ hear (answerer_of (map.get m q)) (only b r)
    by false f = refl
    by true f = e ∙ ap (λ (j : ℕ). hear_one (answerer_of (map.get m j)) r) (sym (equal q k f))

done_answerer : (a : AnswerEntry) (o : Option (List ExportId)) (l : Option Ids) → a.returned ≡ o → answerer_of (done_one a o) ≡ hear_one (answered_by (numbers a.taken) o false) (session.Fin l)
done_answerer a None l e = ap (λ (o : Option (List ExportId)). answered_by (numbers a.taken) o true) e
done_answerer a (Some ids) l e = refl

done_opens : (a : AnswerEntry) (o : Option (List ExportId)) (j : ℕ) → a.returned ≡ o → AnswersWith j (Some a) → AnswersWith j (done_one a o)
done_opens a None j e h = h
done_opens a (Some ids) j e h = absurd (let bad : Some ids ≡ None = sym e ∙ h.1 in cc)

is_finished : (d first : Progress) (f : Finish) (a : AnswerEntry) → IsReady d.state → map.get d.state.answers f.question.0 ≡ Some a → a.finished ≡ false → first ≡ with_state d (record (obey d.state f.release_result_caps (gave a.returned)) { answers = finished_map d.state.answers f.question.0 a a.returned }) → Heard (plain.Finish f) d [] first
is_finished d first f a i there not h =
    let k = f.question.0 in
    let u = obey d.state f.release_result_caps (gave a.returned) in
    let t : State = record u { answers = finished_map d.state.answers k a a.returned } in
    let c = (same.obeys d.state f.release_result_caps (gave a.returned)).tables in
    let g = ready_still d.state u c i in
    subst (λ (p : Progress). Heard (plain.Finish f) d [] p) (sym h)
    (at_once d (with_state d t) (plain.Finish f)
    (record { level = g.level; usual = g.usual; opens = λ j q m. subst (λ (o : Option AnswerEntry). AnswersWith j o) (sym (done_get d.state.answers k a a.returned q)) (by j q (nat_eq q k) refl (i.opens j q (c.opens j q m))) })
    refl
    (tells_none d.state t (plain.Finish f) (λ q l. refl) c.questions)
    (λ q l. heard_one d.state.answers k (done_one a a.returned) (session.Fin (if_flag f.release_result_caps l)) t.answers (done_get d.state.answers k a a.returned)
    (done_answerer a a.returned (if_flag f.release_result_caps l) refl ∙ sym (ap (λ (v : Answerer Ids Ids). hear_one v (session.Fin (if_flag f.release_result_caps l))) (ap answerer_of there ∙ ap (λ (b : Bool). answered_by (numbers a.taken) a.returned b) not))) q))
  where
    by : (j q : ℕ) (b : Bool) → nat_eq q f.question.0 ≡ b → AnswersWith j (map.get d.state.answers q) → AnswersWith j (cond b (done_one a a.returned) (map.get d.state.answers q))
    by j q false e m = m
    by j q true e m = done_opens a a.returned j refl (subst (λ (o : Option AnswerEntry). AnswersWith j o) (ap (λ (n : ℕ). map.get d.state.answers n) (equal q f.question.0 e) ∙ there) m)

-- ---- All

turned : (d first : Progress) (x : Disembargo) (c : DisembargoContext) → IsReady d.state → (h : TurnsBy d c first) → Heard (plain.Disembargo x) d (turned_sent d first c h) first
turned d first x (SenderLoopback e) i h = record {
  mid = d.state;
  gets = record { tells = λ q l. refl; hears = λ q l. refl };
  did = subst (λ (p : Progress). Did d (bounce_sent d first e h) p) (sym h.1) (other d _ (plain.Disembargo (record { target = h.0; context = ReceiverLoopback e })) (λ q. refl) (λ q. refl) tt i (same_tables d.state) refl);
}
turned d first x (ReceiverLoopback e) i h = subst (λ (p : Progress). Heard (plain.Disembargo x) d [] p) (sym h.2) (no_session d _ (plain.Disembargo x) i (λ q l. refl) (λ q l. refl) (record { questions = refl; answers = refl; level = refl; opens = λ o q h. h }) refl)

pub taken_is : (s : State) (ds : List Descriptor) → s.level ≡ One → taken_of s ds ≡ given ds
taken_is s ds e = ap (λ (l : Level). taken_at l ds) e

call_heard : (d first : Progress) (c : Call) (o : ℕ) → IsReady d.state → map.get d.state.answers c.question.0 ≡ None → map.get d.state.outcomes o ≡ None → first ≡ with_state d (opened (take_all d.state c.descriptors) c.question.0 o (taken_of d.state c.descriptors)) → Heard (plain.Call c) d [] first
call_heard d first c o i free new h =
    let s = take_all d.state c.descriptors in
    let e = h ∙ ap (λ (ids : Ids). with_state d (opened s c.question.0 o ids)) (taken_is d.state c.descriptors i.level) in
    subst (λ (p : Progress). Heard (plain.Call c) d [] p) (sym e)
    (open_any d s (plain.Call c) c.question.0 o (given c.descriptors) i (same.takes d.state c.descriptors) (ap (λ (u : State). u.outcomes) (all_alone d.state c.descriptors)) free new (λ q l. refl) (λ q l. refl))

pub consumes : (m : PlainMessage) (d first : Progress) → IsReady d.state → IsUseful m → (h : Consumes m d first) → Heard m d (sent_at_once d first m h) first
consumes (plain.Abort x) d first i k h = absurd k
consumes (plain.Bootstrap q) d first i k h = subst (λ (p : Progress). Heard (plain.Bootstrap q) d [] p) (sym h.3) (open_any d d.state (plain.Bootstrap q) q.0 h.0 [] i (same_tables d.state) refl h.1 h.2 (λ q l. refl) (λ q l. refl))
consumes (plain.Call c) d first i k h = call_heard d first c h.0 i h.1 h.2 h.3
consumes (plain.Return r) d first i k h = let x = h.0 in comes d first r x i h.1 h.2 x.finish refl h.3
consumes (plain.Finish f) d first i k h = is_finished d first f h.0 i h.1 h.2 h.3
consumes (plain.Resolve r) d first i k h = no_session d first (plain.Resolve r) i (λ q l. refl) (λ q l. refl) (subst (λ (p : Progress). SameTables d.state p.state) (sym h) (same.takes_resolve d.state r.promise.0 r.to)) (ap (λ (p : Progress). p.effects.sends) h)
consumes (plain.Release r) d first i k h = subst (λ (p : Progress). Heard (plain.Release r) d [] p) (sym h) (no_session d _ (plain.Release r) i (λ q l. refl) (λ q l. refl) (record { questions = refl; answers = refl; level = refl; opens = λ o q h. h }) refl)
consumes (plain.Disembargo x) d first i k h = turned d first x x.context i h
consumes (plain.Other n) d first i k h = absurd k
