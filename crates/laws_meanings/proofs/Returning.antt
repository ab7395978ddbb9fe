-- A question whose Return is on its way waits for it; that Return is the only one; and a question whose Finish has come
-- where it is worked on is not wanted.
use Rattle.std.proofs.Common.{◌≡◌, ◌⊎◌, inl, inr, ℕ, Bool, true, false, nat_eq, Option, None, Some, List, [], ◌∷◌, ◌++◌, refl, sym, ap, subst, ◌∙◌}
use Rattle.std.specs.FinMap as map
use Rattle.finite_maps.specs.Tally.{Map}
use Rattle.finite_maps.proofs.Tested.{itself}
use Rattle.rpc_msg.specs.declared.ids.Vat.{Vat}
use Rattle.rpc_msg.specs.declared.ids.Vat.TheVariants.{A, B}
use Rattle.rpc_msg.specs.declared.ids.ExportId.{ExportId}
use Rattle.rpc_msg.specs.declared.message.Message.{Message}
use Rattle.rpc_msg.specs.declared.message.Message.TheVariants as message
use Rattle.rpc_msg.specs.declared.message.PlainMessage.{PlainMessage}
use Rattle.rpc_msg.specs.declared.message.PlainMessage.TheVariants as plain
use Rattle.rpc_msg.specs.declared.message.Finish.{Finish}
use Rattle.rpc_msg.specs.Messages.{given, descriptors_of_body}
use Rattle.rpc_msg.specs.Vats.{other_vat}
use Rattle.rpc_machine.specs.declared.entries.AnswerEntry.{AnswerEntry}
use Rattle.rpc_machine.specs.declared.entries.Question.{Question}
use Rattle.rpc_machine.specs.declared.entries.Returned.{Returned}
use Rattle.rpc_machine.specs.declared.entries.Finishing.{Finishing}
use Rattle.rpc_machine.specs.declared.entries.Finishing.TheVariants as finishing
use Rattle.rpc_machine.specs.State.{State}
use Rattle.rpc_machine.specs.Progress.{numbers}
use Rattle.rpc_machine.specs.Sweeping.{IsNotSent}
use Rattle.rpc_machine.specs.World.{World, core, inbox}
use Rattle.laws_acts.specs.Sent.{Ids, Noted, messages}
use Rattle.laws_runs.specs.Questions as session
use Rattle.laws_runs.specs.Questions.{Asker, Answerer, Out, Ret, Row}
use Rattle.laws_runs.specs.Views.{asked_by, asker_of, answered_by, answerer_of, if_flag, only, out_of, ret_of, outs, rets}
use Rattle.laws_runs.specs.Worlds.{AreRows, Stand}
use Rattle.laws_runs.specs.Between.{HoldsIn}
use Rattle.laws_meanings.specs.Identities.{asked_last}
use Rattle.laws_meanings.proofs.LastAsked.{while_returning}
use Rattle.laws_meanings.proofs.Awaited.{IsWanted, Waits}

-- A Return to that question is on its way.
abbrev pub PlainReturns : ℕ → PlainMessage → Type 0
PlainReturns q (plain.Return r) = r.answer.0 ≡ q
PlainReturns q m = ⊥

abbrev pub IsReturn : ℕ → Message → Type 0
IsReturn q (message.Plain m) = PlainReturns q m
IsReturn q (message.Unimplemented m) = ⊥

abbrev pub HasReturn : ℕ → List Message → Type 0
HasReturn q [] = ⊥
HasReturn q (m ∷ ms) = IsReturn q m ⊎ HasReturn q ms

abbrev pub Unwanted : Map Question → ℕ → Type 0
Unwanted m q = ¬ (IsWanted (map.get m q))

abbrev Some_ret : List (Ret Ids Ids) → Type 0
Some_ret [] = ⊥
Some_ret (r ∷ rs) = Unit {0}

abbrev Awaiting : Asker Ids Ids → Type 0
Awaiting session.NotAsked = ⊥
Awaiting (session.Asked x) = Unit {0}
Awaiting (session.Back y) = ⊥
Awaiting (session.Early x) = Unit {0}
Awaiting session.Odd = ⊥

abbrev IsEarly : Asker Ids Ids → Type 0
IsEarly session.NotAsked = ⊥
IsEarly (session.Asked x) = ⊥
IsEarly (session.Back y) = ⊥
IsEarly (session.Early x) = Unit {0}
IsEarly session.Odd = ⊥

abbrev InWork : Answerer Ids Ids → Type 0
InWork session.NotOpen = ⊥
InWork (session.Working x) = Unit {0}
InWork (session.Unwanted x) = Unit {0}
InWork (session.Answered y) = ⊥
InWork session.Strange = ⊥

abbrev IsDone : Answerer Ids Ids → Type 0
IsDone session.NotOpen = ⊥
IsDone (session.Working x) = ⊥
IsDone (session.Unwanted x) = Unit {0}
IsDone (session.Answered y) = ⊥
IsDone session.Strange = Unit {0}

abbrev FinFirst : List (Out Ids Ids) → Type 0
FinFirst [] = ⊥
FinFirst (session.Open x ∷ ms) = ⊥
FinFirst (session.Fin l ∷ ms) = Unit {0}

abbrev Single : List (Ret Ids Ids) → Type 0
Single [] = Unit {0}
Single (r ∷ rs) = rs ≡ []

abbrev Facts : Asker Ids Ids → List (Out Ids Ids) → Answerer Ids Ids → List (Ret Ids Ids) → Type 0
Facts v out u back = Single back × (Some_ret back → Awaiting v) × (FinFirst out → InWork u → IsEarly v) × (IsDone u → IsEarly v)

facts : (v : Asker Ids Ids) (out : List (Out Ids Ids)) (u : Answerer Ids Ids) (back : List (Ret Ids Ids)) → Row v out u back → Facts v out u back
facts v out u back session.Idle = (tt, λ i. absurd i, λ i j. absurd j, λ i. absurd i)
facts v out u back (session.Closing y l j) = (tt, λ i. absurd i, λ i k. absurd k, λ i. absurd i)
facts v out u back (session.Sent x) = (tt, λ i. absurd i, λ i k. absurd k, λ i. absurd i)
facts v out u back (session.SentBehind y l x j) = (tt, λ i. absurd i, λ i k. absurd k, λ i. absurd i)
facts v out u back (session.Held x) = (tt, λ i. absurd i, λ i k. absurd i, λ i. absurd i)
facts v out u back (session.Returning x y l j) = (refl, λ i. tt, λ i k. absurd k, λ i. absurd i)
facts v out u back (session.Returned y) = (tt, λ i. absurd i, λ i k. absurd k, λ i. absurd i)
facts v out u back (session.EarlySent x) = (tt, λ i. absurd i, λ i k. tt, λ i. tt)
facts v out u back (session.EarlyBehind y l x j) = (tt, λ i. absurd i, λ i k. tt, λ i. tt)
facts v out u back (session.EarlyHeld x) = (tt, λ i. absurd i, λ i k. tt, λ i. tt)
facts v out u back (session.EarlyCrossed x y l j) = (refl, λ i. tt, λ i k. tt, λ i. tt)
facts v out u back (session.EarlyWaits x) = (tt, λ i. absurd i, λ i k. tt, λ i. tt)
facts v out u back (session.EarlyReturning x y l j) = (refl, λ i. tt, λ i k. tt, λ i. tt)

awaits : (o : Option Question) → Awaiting (asker_of o) → Waits (IsWanted o) o
awaits None i = absurd i
awaits (Some x) i = let e = by x.finish x.returned i in (e, λ w. (e, w))
  where
    by : (f : Finishing) (r : Option Returned) → Awaiting (asked_by (numbers x.given) f r) → r ≡ None
    by finishing.Owed None j = refl
    by finishing.Owed (Some said) j = absurd j
    by finishing.Sent None j = refl
    by finishing.Sent (Some said) j = absurd j
    by finishing.Waived r j = absurd j

early : (o : Option Question) → IsEarly (asker_of o) → ¬ (IsWanted o)
early None i w = absurd i
early (Some x) i w = by x.finish x.returned i w.1
  where
    by : (f : Finishing) (r : Option Returned) → IsEarly (asked_by (numbers x.given) f r) → IsNotSent f → ⊥
    by finishing.Owed None j k = j
    by finishing.Owed (Some said) j k = j
    by finishing.Sent None j k = k
    by finishing.Sent (Some said) j k = j
    by finishing.Waived r j k = j

module _ (q : ℕ) where
  some_one : (m : PlainMessage) (l : Ids) (back : List (Ret Ids Ids)) → PlainReturns q m → Some_ret (ret_of q m l ++ back)
  some_one (plain.Return r) l back e = by (nat_eq q r.answer.0) (subst (λ (k : ℕ). nat_eq q k ≡ true) (sym e) (itself q))
    where
      by : (b : Bool) → b ≡ true → Some_ret (only b (session.Return (given (descriptors_of_body r.body)) (if_flag r.release_param_caps l)) ++ back)
      by b f = rw f tt
  some_one (plain.Abort x) l back e = absurd e
  some_one (plain.Bootstrap p) l back e = absurd e
  some_one (plain.Call c) l back e = absurd e
  some_one (plain.Finish f) l back e = absurd e
  some_one (plain.Resolve r) l back e = absurd e
  some_one (plain.Release r) l back e = absurd e
  some_one (plain.Disembargo d) l back e = absurd e
  some_one (plain.Other n) l back e = absurd e

  in_front : (xs ys : List (Ret Ids Ids)) → Some_ret ys → Some_ret (xs ++ ys)
  in_front [] ys i = i
  in_front (x ∷ xs) ys i = tt

  some_ret : (ns : List Noted) → HasReturn q (messages ns) → Some_ret (rets q ns)
  some_ret [] i = absurd i
  some_ret (n ∷ ns) (inl i) = some_one n.message n.lets (rets q ns) i
  some_ret (n ∷ ns) (inr i) = in_front (ret_of q n.message n.lets) (rets q ns) (some_ret ns i)

  -- Two of them are no row.
  two : (xs ys : List (Ret Ids Ids)) → Some_ret xs → Some_ret ys → ¬ (Single (xs ++ ys))
  two [] ys i j k = absurd i
  two (x ∷ []) [] i j k = absurd j
  two (x ∷ []) (y ∷ ys) i j k = absurd (let bad : y ∷ ys ≡ [] = k in cc)
  two (x ∷ z ∷ zs) ys i j k = absurd (let bad : z ∷ (zs ++ ys) ≡ [] = k in cc)

  no_nil : (xs : List (Ret Ids Ids)) → Some_ret (xs ++ []) → Some_ret xs
  no_nil [] i = i
  no_nil (x ∷ xs) i = tt

-- s asks, t answers.
module _ (s t : State) (to_s to_t : List Noted) (rows : AreRows s to_s t to_t) where
  fact : (q : ℕ) → Facts (asker_of (map.get s.questions q)) (outs q to_t) (answerer_of (map.get t.answers q)) (rets q to_s)
  fact q = facts (asker_of (map.get s.questions q)) (outs q to_t) (answerer_of (map.get t.answers q)) (rets q to_s) (rows q)

  none_asks : (q : ℕ) → HasReturn q (messages to_s) → asked_last q (messages to_t) ≡ None
  none_asks q i = by (rets q to_s) (some_ret q to_s i) (rows q)
    where
      by : (back : List (Ret Ids Ids)) → Some_ret back → Row (asker_of (map.get s.questions q)) (outs q to_t) (answerer_of (map.get t.answers q)) back → asked_last q (messages to_t) ≡ None
      by [] j r = absurd j
      by (x ∷ xs) j r = while_returning q to_t (asker_of (map.get s.questions q)) (answerer_of (map.get t.answers q)) x xs r

  waits : (q : ℕ) → HasReturn q (messages to_s) → Waits (IsWanted (map.get s.questions q)) (map.get s.questions q)
  waits q i = awaits (map.get s.questions q) ((fact q).1 (some_ret q to_s i))

  finished : (q : ℕ) (a : AnswerEntry) → map.get t.answers q ≡ Some a → a.finished ≡ true → Unwanted s.questions q
  finished q a e f = early (map.get s.questions q) ((fact q).3 (subst (λ (o : Option AnswerEntry). IsDone (answerer_of o)) (sym e) (by a.returned a.finished f)))
    where
      by : (r : Option (List ExportId)) (b : Bool) → b ≡ true → IsDone (answered_by (numbers a.taken) r b)
      by None true g = tt
      by (Some ids) true g = tt
      by r false g = absurd (let bad : false ≡ true = g in cc)

one_only : (s t : State) (to_s to_t : List Noted) → AreRows s to_s t to_t → (m : Message) (ms : List Message) → m ∷ ms ≡ messages to_s → (q : ℕ) → IsReturn q m → ¬ (HasReturn q ms)
one_only s t [] to_t rows m ms e q i j = absurd (let bad : m ∷ ms ≡ [] = e in cc)
one_only s t (n ∷ ns) to_t rows m ms e q i j =
    let same : m ≡ message.Plain n.message = cc in
    let rest : ms ≡ messages ns = cc in
    let first : PlainReturns q n.message = subst (IsReturn q) same i in
    let later : HasReturn q (messages ns) = subst (HasReturn q) rest j in
    two q (ret_of q n.message n.lets) (rets q ns) (no_nil q (ret_of q n.message n.lets) (some_one q n.message n.lets [] first)) (some_ret q ns later) (fact s t (n ∷ ns) to_t rows q).0

first_fin : (s t : State) (to_s to_t : List Noted) → AreRows s to_s t to_t → (f : Finish) (ms : List Message) → message.Plain (plain.Finish f) ∷ ms ≡ messages to_t → (a : AnswerEntry) → map.get t.answers f.question.0 ≡ Some a → a.returned ≡ None
    → Unwanted s.questions f.question.0
first_fin s t to_s [] rows f ms e a g r = absurd (let bad : message.Plain (plain.Finish f) ∷ ms ≡ [] = e in cc)
first_fin s t to_s (n ∷ ns) rows f ms e a g r =
    let q = f.question.0 in
    let both : message.Plain (plain.Finish f) ≡ message.Plain n.message = cc in
    let same : plain.Finish f ≡ n.message = let z = both in cc in
    let fin : FinFirst (outs q (n ∷ ns)) = subst (λ (m : PlainMessage). FinFirst (out_of q m n.lets ++ outs q ns)) same (by (nat_eq q q) (itself q) n.lets (outs q ns)) in
    let work : InWork (answerer_of (map.get t.answers q)) = subst (λ (o : Option AnswerEntry). InWork (answerer_of o)) (sym g) (in_work a.returned a.finished r) in
    early (map.get s.questions q) ((fact s t to_s (n ∷ ns) rows q).2 fin work)
  where
    by : (b : Bool) → b ≡ true → (l : Ids) (back : List (Out Ids Ids)) → FinFirst (only b (session.Fin (if_flag f.release_result_caps l)) ++ back)
    by b h l back = rw h tt

    in_work : (x : Option (List ExportId)) (b : Bool) → x ≡ None → InWork (answered_by (numbers a.taken) x b)
    in_work None false h = tt
    in_work None true h = tt
    in_work (Some ids) b h = absurd (let bad : Some ids ≡ None = h in cc)

-- ---- Worlds

pub none_asked : (v : Vat) (w : World) → HoldsIn Stand w → (q : ℕ) → HasReturn q (inbox w v) → asked_last q (inbox w (other_vat v)) ≡ None
none_asked A w k q i = ap (asked_last q) k.is_b ∙ none_asks w.a.core w.b.core k.to_a k.to_b k.holds.of_s q (subst (HasReturn q) k.is_a i)
none_asked B w k q i = ap (asked_last q) k.is_a ∙ none_asks w.b.core w.a.core k.to_b k.to_a k.holds.of_t q (subst (HasReturn q) k.is_b i)

pub it_waits : (v : Vat) (w : World) → HoldsIn Stand w → (q : ℕ) → HasReturn q (inbox w v) → Waits (IsWanted (map.get (core w v).questions q)) (map.get (core w v).questions q)
it_waits A w k q i = waits w.a.core w.b.core k.to_a k.to_b k.holds.of_s q (subst (HasReturn q) k.is_a i)
it_waits B w k q i = waits w.b.core w.a.core k.to_b k.to_a k.holds.of_t q (subst (HasReturn q) k.is_b i)

pub only_return : (v : Vat) (w : World) (m : Message) (ms : List Message) → HoldsIn Stand w → inbox w v ≡ m ∷ ms → (q : ℕ) → IsReturn q m → ¬ (HasReturn q ms)
only_return A w m ms k e q i = one_only w.a.core w.b.core k.to_a k.to_b k.holds.of_s m ms (sym e ∙ k.is_a) q i
only_return B w m ms k e q i = one_only w.b.core w.a.core k.to_b k.to_a k.holds.of_t m ms (sym e ∙ k.is_b) q i

pub is_unwanted : (v : Vat) (w : World) → HoldsIn Stand w → (q : ℕ) (a : AnswerEntry) → map.get (core w v).answers q ≡ Some a → a.finished ≡ true → Unwanted (core w (other_vat v)).questions q
is_unwanted A w k q a e f = finished w.b.core w.a.core k.to_b k.to_a k.holds.of_t q a e f
is_unwanted B w k q a e f = finished w.a.core w.b.core k.to_a k.to_b k.holds.of_s q a e f

pub fin_unwanted : (v : Vat) (w : World) (f : Finish) (ms : List Message) → HoldsIn Stand w → inbox w v ≡ message.Plain (plain.Finish f) ∷ ms → (a : AnswerEntry) → map.get (core w v).answers f.question.0 ≡ Some a → a.returned ≡ None → Unwanted (core w (other_vat v)).questions f.question.0
fin_unwanted A w f ms k e a g r = first_fin w.b.core w.a.core k.to_b k.to_a k.holds.of_t f ms (sym e ∙ k.is_a) a g r
fin_unwanted B w f ms k e a g r = first_fin w.a.core w.b.core k.to_a k.to_b k.holds.of_s f ms (sym e ∙ k.is_b) a g r
