-- How a question that the books keep looks to its session. The point asks it of the one vat, and answers it to the other.
use Rattle.std.proofs.Common.{◌≡◌, ℕ, Bool, true, false, cond, nat_eq, Option, None, Some, refl, sym, ap, subst, arith}
use Rattle.std.specs.BTreeMap.{is_at}
use Rattle.std.specs.Ordering.{nat_cmp}
use Rattle.finite_maps.proofs.Tested.{equal}
use Rattle.rpc_machine.specs.Progress.{numbers}
use Rattle.look_books.specs.declared.question.Question.{Question}
use Rattle.look_books.specs.declared.question.Returned.{Returned}
use Rattle.look_books.specs.declared.question.Finished.{Finished}
use Rattle.look_books.specs.After.{put}
use Rattle.laws_acts.specs.Sent.{Ids}
use Rattle.laws_runs.specs.Questions as session
use Rattle.laws_runs.specs.Questions.{Asker, Answerer, Out, Ret, Sends, Returns, hear_one, tell_one}
use Rattle.laws_runs.specs.Views.{only, SendsAll, ReturnsAll, tell, hear}

-- ---- A question

abbrev pub early_in : Ids → Bool → Bool → Asker Ids Ids
early_in gave false false = session.Early gave
early_in gave false true = session.Odd
early_in gave true w = session.Odd

abbrev pub back_in : Ids → Bool → Asker Ids Ids
back_in y false = session.Back y
back_in y true = session.Odd

abbrev pub asks_in : Ids → Option Returned → Option Finished → Bool → Asker Ids Ids
asks_in gave None None false = session.Asked gave
asks_in gave None None true = session.Odd
asks_in gave None (Some f) w = early_in gave f.flag w
asks_in gave (Some r) None w = back_in (numbers r.gives) r.waived
asks_in gave (Some r) (Some f) w = session.Odd

-- The point asks it.
abbrev pub asker : Option Question → Asker Ids Ids
asker None = session.NotAsked
asker (Some x) = asks_in (numbers x.gives) x.returned x.finished x.waived

abbrev pub unwanted_in : Ids → Bool → Bool → Answerer Ids Ids
unwanted_in gave false false = session.Unwanted gave
unwanted_in gave false true = session.Strange
unwanted_in gave true w = session.Strange

abbrev pub answered_in : Ids → Bool → Answerer Ids Ids
answered_in y false = session.Answered y
answered_in y true = session.Strange

abbrev pub answers_in : Ids → Option Returned → Option Finished → Bool → Answerer Ids Ids
answers_in gave None None false = session.Working gave
answers_in gave None None true = session.Strange
answers_in gave None (Some f) w = unwanted_in gave f.flag w
answers_in gave (Some r) None w = answered_in (numbers r.gives) r.waived
answers_in gave (Some r) (Some f) w = session.Strange

-- The point answers it.
abbrev pub answerer : Option Question → Answerer Ids Ids
answerer None = session.NotOpen
answerer (Some x) = answers_in (numbers x.gives) x.returned x.finished x.waived

-- ---- A table, once the entry of k is o

pub at_is : (k q : ℕ) → is_at (nat_cmp k) q ≡ nat_eq q k
at_is k q = grind (arith)

pub put_at : {X : Type 0} (k : ℕ) (v : X) (f : ℕ → X) (q : ℕ) → put k v f q ≡ cond (nat_eq q k) v (f q)
put_at k v f q = ap (λ b. cond b v (f q)) (at_is k q)

module _ (f : ℕ → Option Question) (k : ℕ) (o : Option Question) (q : ℕ) where
  by_key : (P : Option Question → Bool → Option Question → Type 0) → P (f k) true o → P (f q) false (f q) → P (f q) (nat_eq q k) (put k o f q)
  by_key P h g = subst (P (f q) (nat_eq q k)) (sym (put_at k o f q)) (by (nat_eq q k) refl)
    where
      by : (b : Bool) → nat_eq q k ≡ b → P (f q) b (cond b o (f q))
      by true e = subst (λ (j : ℕ). P (f j) true o) (sym (equal q k e)) h
      by false e = g

  pub put_hears : (m : Out Ids Ids) → answerer o ≡ hear_one (answerer (f k)) m → answerer (put k o f q) ≡ hear (answerer (f q)) (only (nat_eq q k) m)
  put_hears m h = by_key (λ old b new. answerer new ≡ hear (answerer old) (only b m)) h refl

  pub put_sends : (m : Out Ids Ids) → Sends (asker (f k)) m (asker o) → SendsAll (asker (f q)) (only (nat_eq q k) m) (asker (put k o f q))
  put_sends m h = by_key (λ old b new. SendsAll (asker old) (only b m) (asker new)) (asker o, h, refl) refl

  pub put_tells : (m : Ret Ids Ids) → asker o ≡ tell_one (asker (f k)) m → asker (put k o f q) ≡ tell (asker (f q)) (only (nat_eq q k) m)
  put_tells m h = by_key (λ old b new. asker new ≡ tell (asker old) (only b m)) h refl

  pub put_returns : (m : Ret Ids Ids) → Returns (answerer (f k)) m (answerer o) → ReturnsAll (answerer (f q)) (only (nat_eq q k) m) (answerer (put k o f q))
  put_returns m h = by_key (λ old b new. ReturnsAll (answerer old) (only b m) (answerer new)) (answerer o, h, refl) refl
