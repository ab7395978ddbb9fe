-- The oldest message on its way to a vat finds what it speaks of.
use Rattle.std.specs.List.{list_any}
use Rattle.std.proofs.Common.{nat_lt, cond, ◌||◌, ◌<◌, is_some, Bool, ◌≡◌, ◌≤◌, ℕ, nat_eq, true, false, List, [], ◌∷◌, ◌++◌, Option, None, Some, refl, sym, ap, subst, ◌∙◌, arith}
use Rattle.std.specs.FinMap as map
use Rattle.rpc_msg.specs.declared.ids.Vat.{Vat}
use Rattle.rpc_msg.specs.declared.ids.Vat.TheVariants.{A, B}
use Rattle.rpc_msg.specs.declared.message.PlainMessage.{PlainMessage}
use Rattle.rpc_msg.specs.declared.message.Message.{Message}
use Rattle.rpc_msg.specs.declared.message.Message.TheVariants as message
use Rattle.rpc_msg.specs.Messages.{given, descriptors_of_body}
use Rattle.rpc_msg.specs.declared.message.PlainMessage.TheVariants as plain
use Rattle.rpc_msg.specs.declared.ids.ExportId.{ExportId}
use Rattle.rpc_msg.specs.declared.message.Finish.{Finish}
use Rattle.rpc_msg.specs.declared.message.Return.{Return}
use Rattle.rpc_msg.specs.declared.message.Release.{Release}
use Rattle.finite_maps.proofs.Tested.{itself}
use Rattle.rpc_journal.specs.History.{if_so}
use Rattle.rpc_machine.specs.declared.command.Level.TheVariants.{One}
use Rattle.rpc_machine.specs.declared.entries.Question.{Question}
use Rattle.rpc_machine.specs.declared.entries.AnswerEntry.{AnswerEntry}
use Rattle.rpc_machine.specs.State.{State}
use Rattle.rpc_machine.specs.Lists.{how_many, earliest}
use Rattle.rpc_machine.specs.Numbers.{question_in_use, unknown_answer, over_release}
use Rattle.rpc_machine.specs.Laws.{given_out}
use Rattle.rpc_machine.specs.UnderWay.{plain_takes, if_true, call_gave, return_gave}
use Rattle.rpc_machine.specs.World.{World, core, inbox}
use Rattle.rpc_machine.specs.declared.entries.Export.{Export}
use Rattle.rpc_machine.specs.Limits.{export_count}
use Rattle.rpc_machine.specs.declared.entries.Finishing.{Finishing}
use Rattle.rpc_machine.specs.declared.entries.Finishing.TheVariants as finishing
use Rattle.rpc_machine.specs.declared.entries.Returned.{Returned}
use Rattle.rpc_machine.specs.Progress.{numbers}
use Rattle.rpc_machine.specs.Faults.{gave, is_short, flag_fault, finish_fault, release_fault, is_foreign, plain_fault, unless_foreign}
use Rattle.rpc_machine.specs.declared.command.Level.{Level}
use Rattle.laws_acts.specs.Sent.{Ids, Noted, messages, note}
use Rattle.laws_runs.specs.Worlds.{AreRows}
use Rattle.laws_runs.specs.Between.{HoldsIn}
use Rattle.laws_runs.specs.Questions as session
use Rattle.laws_runs.specs.Questions.{Asker, Answerer, Out, Ret, Row, hear_one, tell_one}
use Rattle.laws_runs.proofs.Rows as rows
use Rattle.laws_runs.specs.Views.{asked_by, asker_of, answered_by, answerer_of, if_flag, only, out_of, outs, rets, IsUseful}
use Rattle.laws_runs.proofs.Flags.{reads, takes_first}
use Rattle.laws_runs.specs.Agreed.{IsMet, Agree}
use Rattle.laws_runs.specs.Entries.{LetsGo}
use Rattle.laws_runs.proofs.Agreeing.{turned}

-- ---- What a row says of the tables

module _ (out : List (Out Ids Ids)) (u : Answerer Ids Ids) (back : List (Ret Ids Ids)) where
  abbrev Unanswered : Option Question → Type 0
  Unanswered o = (x : Question) × (o ≡ Some x) × (x.returned ≡ None)

  told_one : (o : Option Question) (y : Ids) (l : Option Ids) → Row (tell_one (asker_of o) (session.Return y l)) out u back → Unanswered o
  told_one None y l r = absurd (rows.not_odd out u back r)
  told_one (Some x) y l r = (x, refl, by x.finish x.returned r)
    where
      by : (f : Finishing) (said : Option Returned) → Row (tell_one (asked_by (numbers x.given) f said) (session.Return y l)) out u back → said ≡ None
      by finishing.Owed None r = refl
      by finishing.Owed (Some s) r = absurd (rows.not_odd out u back r)
      by finishing.Sent None r = refl
      by finishing.Sent (Some s) r = absurd (rows.not_odd out u back r)
      by finishing.Waived said r = absurd (rows.not_odd out u back r)

module _ (v : Asker Ids Ids) (out : List (Out Ids Ids)) (back : List (Ret Ids Ids)) where
  opened_one : (o : Option AnswerEntry) (x : Ids) → Row v out (hear_one (answerer_of o) (session.Open x)) back → o ≡ None
  opened_one None x r = refl
  opened_one (Some a) x r = absurd (by a.returned a.finished r)
    where
      by : (said : Option (List ExportId)) (b : Bool) → Row v out (hear_one (answered_by (numbers a.taken) said b) (session.Open x)) back → ⊥
      by None false r = rows.not_strange v out back r
      by None true r = rows.not_strange v out back r
      by (Some ids) false r = rows.not_strange v out back r
      by (Some ids) true r = rows.not_strange v out back r

  abbrev Unfinished : Option AnswerEntry → Type 0
  Unfinished o = (a : AnswerEntry) × (o ≡ Some a) × (a.finished ≡ false)

  finished_one : (o : Option AnswerEntry) (l : Option Ids) → Row v out (hear_one (answerer_of o) (session.Fin l)) back → Unfinished o
  finished_one None l r = absurd (rows.not_strange v out back r)
  finished_one (Some a) l r = (a, refl, by a.returned a.finished r)
    where
      by : (said : Option (List ExportId)) (b : Bool) → Row v out (hear_one (answered_by (numbers a.taken) said b) (session.Fin l)) back → b ≡ false
      by None false r = refl
      by None true r = absurd (rows.not_strange v out back r)
      by (Some ids) false r = refl
      by (Some ids) true r = absurd (rows.not_strange v out back r)

first_told : (v : Asker Ids Ids) (out : List (Out Ids Ids)) (u : Answerer Ids Ids) (b : Bool) (m : Ret Ids Ids) (back : List (Ret Ids Ids)) → b ≡ true → Row v out u (only b m ++ back) → Row (tell_one v m) out u back
first_told v out u true m back e r = rows.told v out u m back r
first_told v out u false m back e r = absurd (let bad : false ≡ true = e in cc)

first_heard : (v : Asker Ids Ids) (b : Bool) (m : Out Ids Ids) (out : List (Out Ids Ids)) (u : Answerer Ids Ids) (back : List (Ret Ids Ids)) → b ≡ true → Row v (only b m ++ out) u back → Row v out (hear_one u m) back
first_heard v true m out u back e r = rows.heard v m out u back r
first_heard v false m out u back e r = absurd (let bad : false ≡ true = e in cc)

-- ---- Flags

none_any : (f : ℕ → Bool) (xs : List ℕ) → ((x : ℕ) → f x ≡ false) → list_any f xs ≡ false
none_any f [] h = refl
none_any f (x ∷ xs) h = rw (h x) (none_any f xs h)

not_short : (s : State) (ids : List ℕ) (e : ℕ) → how_many (nat_eq e) ids ≤ given_out e s → is_short s ids e ≡ false
not_short s ids e h = by (given_out e s) (how_many (nat_eq e) ids) h
  where
    by : (m n : ℕ) → n ≤ m → nat_lt m n ≡ false
    by m n h = grind (arith, h)

no_flag_fault : (s : State) (b : Bool) (ids : List ℕ) → ((e : ℕ) → how_many (nat_eq e) (if_true b ids) ≤ given_out e s) → flag_fault s b ids ≡ None
no_flag_fault s false ids h = refl
no_flag_fault s true ids h = ap (λ b. if_so b over_release) (none_any (is_short s ids) ids (λ e. not_short s ids e (h e)))

no_release_fault : (o : Option Export) (n : ℕ) → 0 < n → n ≤ export_count o → release_fault n o ≡ None
no_release_fault None n some few = absurd (omega (arith, some, few))
no_release_fault (Some x) n some few = ap (λ b. if_so b over_release) (by x.count n some few)
  where
    by : (m n : ℕ) → 0 < n → n ≤ m → (nat_eq n 0 || nat_lt m n) ≡ false
    by m n some few = grind (arith, some, few)

-- ---- The oldest message on its way to s

module _ (s t : State) (to_t ns : List Noted) (one : s.level ≡ One) where
  abbrev Few : PlainMessage → Type 0
  Few m = (e : ℕ) → plain_takes s e m ≤ given_out e s

  return_met : (r : Return) (l : Ids) → AreRows s (note (plain.Return r) l ∷ ns) t to_t → Few (plain.Return r) → IsMet s (plain.Return r)
  return_met r l of_s few =
      let q = r.answer.0 in
      let k = first_told (asker_of (map.get s.questions q)) (outs q to_t) (answerer_of (map.get t.answers q)) (nat_eq q q) (session.Return (given (descriptors_of_body r.body)) (if_flag r.release_param_caps l)) (rets q ns) (itself q) (of_s q) in
      let x = told_one (outs q to_t) (answerer_of (map.get t.answers q)) (rets q ns) (map.get s.questions q) (given (descriptors_of_body r.body)) (if_flag r.release_param_caps l) k in
      (x.0, x.1, x.2, no_flag_fault s r.release_param_caps _ (λ e. subst (λ (o : Option Question). how_many (nat_eq e) (if_true r.release_param_caps (call_gave o)) ≤ given_out e s) x.1 (few e)))

  finish_met : (f : Finish) (l : Ids) → AreRows t to_t s (note (plain.Finish f) l ∷ ns) → Few (plain.Finish f) → IsMet s (plain.Finish f)
  finish_met f l of_t few =
      let q = f.question.0 in
      let k = first_heard (asker_of (map.get t.questions q)) (nat_eq q q) (session.Fin (if_flag f.release_result_caps l)) (outs q ns) (answerer_of (map.get s.answers q)) (rets q to_t) (itself q) (of_t q) in
      let a = finished_one (asker_of (map.get t.questions q)) (outs q ns) (rets q to_t) (map.get s.answers q) (if_flag f.release_result_caps l) k in
      let m = plain.Finish f in
      let none : flag_fault s f.release_result_caps (gave (let y = a.0 in y.returned)) ≡ None = no_flag_fault s f.release_result_caps _ (λ e. subst (λ (o : Option AnswerEntry). how_many (nat_eq e) (if_true f.release_result_caps (return_gave o)) ≤ given_out e s) a.1 (few e)) in
      ap (λ b. unless_foreign b (plain_fault s m)) (ap (λ (l : Level). is_foreign l m) one)
      ∙ ap (finish_fault s f.release_result_caps) a.1
      ∙ ap (λ b. earliest (if_so b unknown_answer ∷ flag_fault s f.release_result_caps (gave (let y = a.0 in y.returned)) ∷ [])) a.2
      ∙ ap (λ o. earliest (None ∷ o ∷ [])) none

  opened_met : (q : ℕ) (m : PlainMessage) (x l : Ids) → out_of q m l ≡ only (nat_eq q q) (session.Open x) → AreRows t to_t s (note m l ∷ ns) → map.get s.answers q ≡ None
  opened_met q m x l e of_t =
      opened_one (asker_of (map.get t.questions q)) (outs q ns) (rets q to_t) (map.get s.answers q) x
      (first_heard (asker_of (map.get t.questions q)) (nat_eq q q) (session.Open x) (outs q ns) (answerer_of (map.get s.answers q)) (rets q to_t) (itself q)
      (subst (λ (ms : List (Out Ids Ids)). Row (asker_of (map.get t.questions q)) (ms ++ outs q ns) (answerer_of (map.get s.answers q)) (rets q to_t)) e (of_t q)))

  release_met : (r : Release) → 0 < r.count → Few (plain.Release r) → IsMet s (plain.Release r)
  release_met r some few =
      let m = plain.Release r in
      let all : cond (nat_eq r.export.0 r.export.0) r.count 0 ≡ r.count = ap (λ b. cond b r.count 0) (itself r.export.0) in
      let enough : r.count ≤ given_out r.export.0 s = subst (λ n. n ≤ given_out r.export.0 s) all (few r.export.0) in
      ap (λ b. unless_foreign b (plain_fault s m)) (ap (λ (l : Level). is_foreign l m) one)
      ∙ no_release_fault (map.get s.exports r.export.0) r.count some enough

  head_met : (m : PlainMessage) (l : Ids) → IsUseful m → LetsGo m → AreRows s (note m l ∷ ns) t to_t → AreRows t to_t s (note m l ∷ ns) → Few m → IsMet s m
  head_met (plain.Abort x) l k g a b few = absurd k
  head_met (plain.Bootstrap p) l k g a b few =
      ap (λ c. unless_foreign c (plain_fault s (plain.Bootstrap p))) (ap (λ (l : Level). is_foreign l (plain.Bootstrap p)) one)
      ∙ ap (λ (o : Option AnswerEntry). if_so (is_some o) question_in_use) (opened_met p.0 (plain.Bootstrap p) [] l refl b)
  head_met (plain.Call c) l k g a b few = opened_met c.question.0 (plain.Call c) (given c.descriptors) l refl b
  head_met (plain.Return r) l k g a b few = return_met r l a few
  head_met (plain.Finish f) l k g a b few = finish_met f l b few
  head_met (plain.Resolve r) l k g a b few = tt
  head_met (plain.Release r) l k g a b few = release_met r g few
  head_met (plain.Disembargo x) l k g a b few = tt
  head_met (plain.Other n) l k g a b few = absurd k

-- ---- Worlds

abbrev Met : State → Message → Type 0
Met s m = (p : PlainMessage) × (m ≡ message.Plain p) × IsMet s p

met_by : (s t : State) (to_s to_t : List Noted) (m : Message) (ms : List Message) → Agree s to_s t to_t → m ∷ ms ≡ messages to_s → Met s m
met_by s t [] to_t m ms k e = absurd (let bad : m ∷ ms ≡ [] = e in cc)
met_by s t (n ∷ ns) to_t m ms k e =
    let first : m ≡ message.Plain n.message = cc in
    (n.message, first, head_met s t to_t ns k.stand.ready_s.level n.message n.lets k.stand.useful_s.0 k.lets_s.0 k.stand.of_s k.stand.of_t taken)
  where
    taken : (e : ℕ) → plain_takes s e n.message ≤ given_out e s
    taken e = let a = k.of_s e in let b = takes_first s e n.message n.lets ns (reads s t (n ∷ ns) to_t k.stand.of_s k.stand.of_t) in omega (arith, a, b)

pub in_world : (w : World) (v : Vat) (m : Message) (ms : List Message) → HoldsIn Agree w → inbox w v ≡ m ∷ ms → Met (core w v) m
in_world w A m ms k e = met_by w.a.core w.b.core k.to_a k.to_b m ms k.holds (sym e ∙ k.is_a)
in_world w B m ms k e = met_by w.b.core w.a.core k.to_b k.to_a m ms (turned w.a.core w.b.core k.to_a k.to_b k.holds) (sym e ∙ k.is_b)
