-- What is on the way is of questions and answers as they are, as their sessions stand.
use Rattle.std.specs.FinMap as map
use Rattle.std.proofs.Common.{◌≡◌, ◌⊎◌, inl, inr, ℕ, Bool, nat_eq, true, false, List, [], Option, None, Some, IsSome, refl, sym, subst, ◌∙◌}
use Rattle.rpc_msg.specs.declared.ids.ExportId.{ExportId}
use Rattle.rpc_machine.specs.declared.entries.AnswerEntry.{AnswerEntry}
use Rattle.rpc_machine.specs.declared.entries.Finishing.{Finishing}
use Rattle.rpc_machine.specs.declared.entries.Finishing.TheVariants as finishing
use Rattle.rpc_machine.specs.declared.entries.Question.{Question}
use Rattle.rpc_machine.specs.declared.entries.Returned.{Returned}
use Rattle.rpc_machine.specs.State.{State}
use Rattle.rpc_machine.specs.World.{World}
use Rattle.rpc_machine.specs.Progress.{numbers}
use Rattle.rpc_machine.specs.Sweeping.{IsNotSent}
use Rattle.laws_acts.specs.Sent.{Ids, Noted, messages}
use Rattle.laws_runs.specs.Between.{HoldsIn}
use Rattle.laws_runs.specs.Questions as session
use Rattle.laws_runs.specs.Questions.{Answerer, Asker, Closing, EarlyBehind, EarlyCrossed, EarlyHeld, EarlyReturning, EarlySent, EarlyWaits, Held, Idle, Out, Ret, Returned as IsReturned, Returning, Row, Sent, SentBehind}
use Rattle.laws_runs.specs.Views.{answered_by, answerer_of, asked_by, asker_of, outs, rets}
use Rattle.laws_runs.specs.Names.{Met}
use Rattle.laws_messages.specs.Named.{marks}
use Rattle.laws_messages.proofs.FindingNamed.{Found, are_kept}
use Rattle.laws_routes.specs.Midway.{IsAwaited}
use Rattle.laws_routes.specs.Named.{EachReturn}
use Rattle.laws_routes.specs.Premises.{EachOpen}
use Rattle.laws_routes.specs.QuietLaws.{IsFinished, MayClose}
use Rattle.laws_routes.proofs.LinkShapes.{all_opens}
use Rattle.laws_routes.proofs.MidwaySwept.{opens_left, returns_left}
use Rattle.laws_scenes.specs.Meeting.{OfBoth, QuestionsMeet}
use Rattle.laws_scenes.proofs.Both.{of_both}
use Rattle.laws_scenes.proofs.Links.{IsShut, NoneOpens, all_returns, no_open, no_return, shut}

-- ---- What the rows say

abbrev Quiet : List (Out Ids Ids) → List (Ret Ids Ids) → Type 0
Quiet os bs = NoneOpens os × (bs ≡ [])

abbrev IsIdle : Asker Ids Ids → Type 0
IsIdle session.NotAsked = Unit {0}
IsIdle (session.Asked x) = ⊥
IsIdle (session.Back y) = Unit {0}
IsIdle (session.Early x) = ⊥
IsIdle session.Odd = Unit {0}

quiet : (v : Asker Ids Ids) (os : List (Out Ids Ids)) (u : Answerer Ids Ids) (bs : List (Ret Ids Ids)) → Row v os u bs → IsIdle v → Quiet os bs
quiet v os u bs Idle i = (tt, refl)
quiet v os u bs (Closing y l j) i = (tt, refl)
quiet v os u bs (Sent x) i = absurd i
quiet v os u bs (SentBehind y l x j) i = absurd i
quiet v os u bs (Held x) i = absurd i
quiet v os u bs (Returning x y l j) i = absurd i
quiet v os u bs (IsReturned y) i = (tt, refl)
quiet v os u bs (EarlySent x) i = absurd i
quiet v os u bs (EarlyBehind y l x j) i = absurd i
quiet v os u bs (EarlyHeld x) i = absurd i
quiet v os u bs (EarlyCrossed x y l j) i = absurd i
quiet v os u bs (EarlyWaits x) i = absurd i
quiet v os u bs (EarlyReturning x y l j) i = absurd i

-- Of an answer whose Return was not sent.
abbrev IsAtWork : Bool → Answerer Ids Ids → Type 0
IsAtWork finished session.NotOpen = ⊥
IsAtWork finished (session.Working x) = finished ≡ false
IsAtWork finished (session.Unwanted x) = finished ≡ true
IsAtWork finished (session.Answered y) = ⊥
IsAtWork finished session.Strange = ⊥

abbrev IsGivenUp : Asker Ids Ids → Type 0
IsGivenUp session.NotAsked = ⊥
IsGivenUp (session.Asked x) = ⊥
IsGivenUp (session.Back y) = ⊥
IsGivenUp (session.Early x) = Unit {0}
IsGivenUp session.Odd = ⊥

at_work : (b : Bool) (v : Asker Ids Ids) (os : List (Out Ids Ids)) (u : Answerer Ids Ids) (bs : List (Ret Ids Ids)) → Row v os u bs → IsAtWork b u → NoneOpens os × (b ≡ true → IsGivenUp v)
at_work b v os u bs Idle i = absurd i
at_work b v os u bs (Closing y l j) i = absurd i
at_work b v os u bs (Sent x) i = absurd i
at_work b v os u bs (SentBehind y l x j) i = absurd i
at_work b v os u bs (Held x) i = (tt, λ e. absurd (let bad : true ≡ false = sym e ∙ i in cc))
at_work b v os u bs (Returning x y l j) i = absurd i
at_work b v os u bs (IsReturned y) i = absurd i
at_work b v os u bs (EarlySent x) i = absurd i
at_work b v os u bs (EarlyBehind y l x j) i = absurd i
at_work b v os u bs (EarlyHeld x) i = (tt, λ e. absurd (let bad : true ≡ false = sym e ∙ i in cc))
at_work b v os u bs (EarlyCrossed x y l j) i = absurd i
at_work b v os u bs (EarlyWaits x) i = (tt, λ e. tt)
at_work b v os u bs (EarlyReturning x y l j) i = absurd i

-- ---- Entries

was_finished : (o : Option Question) → IsGivenUp (asker_of o) → IsFinished o
was_finished None i = absurd i
was_finished (Some x) i = by x.finish x.returned i
  where
    by : (f : Finishing) (r : Option Returned) → IsGivenUp (asked_by (numbers x.given) f r) → (IsNotSent f → ⊥)
    by finishing.Owed None i = λ n. i
    by finishing.Owed (Some said) i = λ n. i
    by finishing.Sent None i = λ n. n
    by finishing.Sent (Some said) i = λ n. n
    by finishing.Waived None i = λ n. i
    by finishing.Waived (Some said) i = λ n. i

came_back : (o : Option Question) (x : Question) → o ≡ Some x → IsSome x.returned → IsIdle (asker_of o)
came_back o x e i = subst (λ (o : Option Question). IsIdle (asker_of o)) (sym e) (by x.finish x.returned i)
  where
    by : (f : Finishing) (r : Option Returned) → IsSome r → IsIdle (asked_by (numbers x.given) f r)
    by finishing.Owed None i = cc
    by finishing.Owed (Some said) i = tt
    by finishing.Sent None i = cc
    by finishing.Sent (Some said) i = tt
    by finishing.Waived r i = tt

works : (got : Ids) (r : Option (List ExportId)) (b : Bool) → r ≡ None → IsAtWork b (answered_by got r b)
works got None true e = refl
works got None false e = refl
works got (Some gave) b e = cc

shut_by : (got : Ids) (r : Option (List ExportId)) (b : Bool) → r ≡ None → b ≡ true → IsShut (answered_by got r b)
shut_by got None true e f = tt
shut_by got None false e f = cc
shut_by got (Some gave) b e f = cc

-- ---- Two vats

module _ (s t : State) (to_s to_t : List Noted) (k : Found s to_s t to_t) where
  asks : (q : ℕ) → Row (asker_of (map.get s.questions q)) (outs q to_t) (answerer_of (map.get t.answers q)) (rets q to_s)
  asks q = let a = k.stand in a.of_s q

  answers : (q : ℕ) → Row (asker_of (map.get t.questions q)) (outs q to_s) (answerer_of (map.get s.answers q)) (rets q to_t)
  answers q = let a = k.stand in a.of_t q

  quiet_at : (q : ℕ) → IsIdle (asker_of (map.get s.questions q)) → EachOpen (λ k. nat_eq k q ≡ false) (messages to_t) × EachReturn (λ k. nat_eq k q ≡ false) (messages to_s)
  quiet_at q i = let a = quiet _ _ _ _ (asks q) i in (no_open q to_t a.0, no_return q to_s a.1)

  there_or_quiet : (q : ℕ) → IsSome (map.get s.questions q) ⊎ (EachOpen (λ k. nat_eq k q ≡ false) (messages to_t) × EachReturn (λ k. nat_eq k q ≡ false) (messages to_s))
  there_or_quiet q = by (map.get s.questions q) refl
    where
      by : (o : Option Question) → map.get s.questions q ≡ o → IsSome o ⊎ (EachOpen (λ k. nat_eq k q ≡ false) (messages to_t) × EachReturn (λ k. nat_eq k q ≡ false) (messages to_s))
      by None e = inr (quiet_at q (subst (λ (o : Option Question). IsIdle (asker_of o)) (sym e) tt))
      by (Some x) e = inl refl

  awaited : (q : ℕ) (a : AnswerEntry) → map.get s.answers q ≡ Some a → a.returned ≡ None → IsAwaited t (messages to_s) q a.finished
  awaited q a e waits =
      let u : Answerer Ids Ids = answered_by (numbers a.taken) a.returned a.finished in
      let row : Row (asker_of (map.get t.questions q)) (outs q to_s) u (rets q to_t) = subst (λ (o : Option AnswerEntry). Row (asker_of (map.get t.questions q)) (outs q to_s) (answerer_of o) (rets q to_t)) e (answers q) in
      let work = at_work a.finished _ _ u _ row (works (numbers a.taken) a.returned a.finished waits) in
      let met : Met u (marks q to_s) = subst (λ (o : Option AnswerEntry). Met (answerer_of o) (marks q to_s)) e (k.met_s q) in
      (no_open q to_s work.0, λ f. closes u met (shut_by (numbers a.taken) a.returned a.finished waits f) (was_finished (map.get t.questions q) (work.1 f)))
    where
      closes : (u : Answerer Ids Ids) → Met u (marks q to_s) → IsShut u → IsFinished (map.get t.questions q) → MayClose t (messages to_s) q
      closes u met i over = let a = shut q u to_s i met in record { aims = a.0; names = a.1; over = inr over }

  pub meet : QuestionsMeet s t (messages to_t) (messages to_s)
  meet = record {
    awaited = awaited;
    opens = opens_left (λ q. Unit {0}) (λ q. IsSome (map.get s.questions q)) (messages to_t) (all_opens (λ q. Unit {0}) (messages to_t) (λ q. tt)) (λ q i. opened q (there_or_quiet q));
    returns = returns_left (λ q. Unit {0}) (λ q. IsSome (map.get s.questions q)) (messages to_s) (all_returns (messages to_s)) (λ q i. returned q (there_or_quiet q));
    answered = λ q x e i. quiet_at q (came_back (map.get s.questions q) x e i);
  }
    where
      opened : (q : ℕ) → IsSome (map.get s.questions q) ⊎ (EachOpen (λ k. nat_eq k q ≡ false) (messages to_t) × EachReturn (λ k. nat_eq k q ≡ false) (messages to_s)) → IsSome (map.get s.questions q) ⊎ EachOpen (λ k. nat_eq k q ≡ false) (messages to_t)
      opened q (inl i) = inl i
      opened q (inr a) = inr a.0

      returned : (q : ℕ) → IsSome (map.get s.questions q) ⊎ (EachOpen (λ k. nat_eq k q ≡ false) (messages to_t) × EachReturn (λ k. nat_eq k q ≡ false) (messages to_s)) → IsSome (map.get s.questions q) ⊎ EachReturn (λ k. nat_eq k q ≡ false) (messages to_s)
      returned q (inl i) = inl i
      returned q (inr a) = inr a.1

pub in_world : (w : World) → HoldsIn Found w → OfBoth QuestionsMeet w
in_world w h = of_both QuestionsMeet Found (λ s t to_s to_t k. meet s t to_s to_t k) are_kept.turned w h
