-- Each Finish goes once, is held back, or is of a question that came back.
use Rattle.std.proofs.Common.{◌≡◌, ◌≢◌, ℕ, ◌+◌, List, [], ◌∷◌, ◌++◌, Some, None, refl, sym, ap, ◌∙◌, eq-eqb, arith}
use Rattle.std.specs.Prelude.{Option, ◌==◌, if◌then◌else◌, option_to_list}
use Rattle.std.specs.FinMap as finite
use Rattle.std.proofs.lemmas.Bool.{ne_eqb}
use Rattle.finite_maps.proofs.Gets.{at_each, get-insert_other, get-insert_same, get-remove_other, get-remove_same}
use Rattle.rpc_msg.specs.declared.ids.QuestionId.{QuestionId}
use Rattle.rpc_msg.specs.declared.message.Finish.{Finish}
use Rattle.rpc_msg.specs.declared.message.PlainMessage.{PlainMessage}
use Rattle.rpc_msg.specs.declared.message.PlainMessage.TheVariants as plain
use Rattle.rpc_msg.specs.declared.message.Message.{Message}
use Rattle.rpc_msg.specs.declared.message.Message.TheVariants as message
use Rattle.rpc_codec.specs.Envelopes.{What, profile, tail_call, sent_elsewhere, taken_from_other, strange}
use Rattle.peer_finishes.specs.declared.held.Finishes.{Finishes}
use Rattle.peer_finishes.specs.declared.held.Finishes.TheVariants.{AtOnce, AfterReturn}
use Rattle.peer_finishes.specs.declared.questions.Awaited.{Awaited}
use Rattle.peer_finishes.specs.declared.questions.Awaited.TheVariants.{Asked, Finished}
use Rattle.peer_finishes.specs.Finishing.{Finishing, asked_by, comes, finish_of, finishes, goes_plain, with_open, without_open}
use Rattle.peer_finishes.specs.Laws.{Event, Says, Hears, after, all_gone, all_said, back_in, finishes_of, held, holds, is_finish, is_that, spared, told}

abbrev of : ℕ → QuestionId
of n = record { 0 = n }

-- how many Finishes of a question these are
abbrev one : QuestionId → Message → ℕ
one q m = if is_finish q m then 1 else 0

abbrev said_one : QuestionId → Option Message → ℕ
said_one q None = 0
said_one q (Some m) = one q m

said_more : (q : QuestionId) (o : Option Message) (ms : List Message) → finishes_of q (option_to_list o ++ ms) ≡ said_one q o + finishes_of q ms
said_more q None ms = omega arith
said_more q (Some m) ms = refl

told_more : (q : QuestionId) (o : Option Finish) (ms : List Message) → finishes_of q (told o ++ ms) ≡ finishes_of q (told o) + finishes_of q ms
told_more q None ms = omega arith
told_more q (Some f) ms = omega arith

module _ (s : Finishing) where
  -- A question that is asked holds nothing.
  asked_holds : (p : QuestionId) (mode : Finishes) (was : Option Awaited) → finite.get s.awaited p.0 ≡ was → (n : ℕ) → held (of n) (asked_by mode was s p) ≡ held (of n) s
  asked_holds p AtOnce was is n = refl
  asked_holds p AfterReturn (Some a) is n = refl
  asked_holds p AfterReturn None is n =
      at_each (λ n. held (of n) (with_open s p Asked) ≡ held (of n) s) p.0
      (ap holds (get-insert_same s.awaited p.0 Asked) ∙ sym (ap holds is))
      (λ n apart. ap holds (get-insert_other s.awaited p.0 Asked n apart)) n

  abbrev Went : PlainMessage → QuestionId → Type 0
  Went m q = one q (message.Plain m) + held q s ≡ said_one q (goes_plain s m).said + held q (goes_plain s m).state

  went_finish : (f : Finish) (o : Option Awaited) → finite.get s.awaited f.question.0 ≡ o → (n : ℕ)
      → one (of n) (message.Plain (plain.Finish f)) + held (of n) s ≡ said_one (of n) (finishes s f o).said + held (of n) (finishes s f o).state
  went_finish f None is n = refl
  went_finish f (Some (Finished flag)) is n = refl
  went_finish f (Some Asked) is n =
      at_each (λ n. (if f.question.0 == n then 1 else 0) + held (of n) s ≡ 0 + held (of n) (with_open s f.question (Finished f.release_result_caps))) f.question.0
      (let yes = ap {B = ℕ} (λ b. if b then 1 else 0) (eq-eqb f.question.0 f.question.0 refl) in
      let was = ap holds is in
      let new = ap holds (get-insert_same s.awaited f.question.0 (Finished f.release_result_caps)) in
      omega (arith, yes, was, new))
      (λ n apart.
      let no = ap {B = ℕ} (λ b. if b then 1 else 0) (ne_eqb f.question.0 n (λ same. apart (sym same))) in
      let new = ap holds (get-insert_other s.awaited f.question.0 (Finished f.release_result_caps) n apart) in
      omega (arith, no, new)) n

  went : (m : PlainMessage) (q : QuestionId) → Went m q
  went (plain.Bootstrap p) q = let same = asked_holds p s.finishes (finite.get s.awaited p.0) refl q.0 in omega (arith, same)
  went (plain.Call c) q = let same = asked_holds c.question s.finishes (finite.get s.awaited c.question.0) refl q.0 in omega (arith, same)
  went (plain.Finish f) q = went_finish f (finite.get s.awaited f.question.0) refl q.0
  went (plain.Abort x) q = refl
  went (plain.Return r) q = refl
  went (plain.Resolve r) q = refl
  went (plain.Release r) q = refl
  went (plain.Disembargo d) q = refl
  went (plain.Other k) q = refl

  abbrev spares : QuestionId → What → ℕ
  spares q w = if is_that q (back_in w) then held q s else 0

  abbrev Came : What → QuestionId → Type 0
  Came w q = held q s ≡ finishes_of q (told (comes s w).told) + (held q (comes s w).state + spares q w)

  its_own : (p : QuestionId) (o : Option Awaited) → finishes_of p (told (finish_of p o)) ≡ holds o
  its_own p None = refl
  its_own p (Some Asked) = refl
  its_own p (Some (Finished flag)) = let yes = ap {B = ℕ} (λ b. if b then 1 else 0) (eq-eqb p.0 p.0 refl) in omega (arith, yes)

  of_other : (p : QuestionId) (n : ℕ) (o : Option Awaited) → n ≢ p.0 → finishes_of (of n) (told (finish_of p o)) ≡ 0
  of_other p n None apart = refl
  of_other p n (Some Asked) apart = refl
  of_other p n (Some (Finished flag)) apart = let no = ap {B = ℕ} (λ b. if b then 1 else 0) (ne_eqb p.0 n (λ same. apart (sym same))) in omega (arith, no)

  returned : (p : QuestionId) (n : ℕ) → held (of n) s ≡ finishes_of (of n) (told (finish_of p (finite.get s.awaited p.0))) + (held (of n) (without_open s p) + 0)
  returned p n =
      at_each (λ n. held (of n) s ≡ finishes_of (of n) (told (finish_of p (finite.get s.awaited p.0))) + (held (of n) (without_open s p) + 0)) p.0
      (let told = its_own p (finite.get s.awaited p.0) in
      let gone = ap holds (get-remove_same s.awaited p.0) in
      omega (arith, told, gone))
      (λ n apart.
      let told = of_other p n (finite.get s.awaited p.0) apart in
      let left = ap holds (get-remove_other s.awaited p.0 n apart) in
      omega (arith, told, left)) n

  came_back : (p : QuestionId) (n : ℕ) → held (of n) s ≡ 0 + (held (of n) (without_open s p) + (if p.0 == n then held (of n) s else 0))
  came_back p n =
      at_each (λ n. held (of n) s ≡ 0 + (held (of n) (without_open s p) + (if p.0 == n then held (of n) s else 0))) p.0
      (let yes = ap (λ b. if b then held p s else 0) (eq-eqb p.0 p.0 refl) in
      let gone = ap holds (get-remove_same s.awaited p.0) in
      omega (arith, yes, gone))
      (λ n apart.
      let no = ap (λ b. if b then held (of n) s else 0) (ne_eqb p.0 n (λ same. apart (sym same))) in
      let left = ap holds (get-remove_other s.awaited p.0 n apart) in
      omega (arith, no, left)) n

  stayed : (h : ℕ) → h ≡ 0 + (h + 0)
  stayed h = omega arith

  came_plain : (m : PlainMessage) (q : QuestionId) → Came (profile (message.Plain m)) q
  came_plain (plain.Return r) q = returned r.answer q.0
  came_plain (plain.Bootstrap p) q = stayed (held q s)
  came_plain (plain.Call c) q = stayed (held q s)
  came_plain (plain.Finish f) q = stayed (held q s)
  came_plain (plain.Abort x) q = stayed (held q s)
  came_plain (plain.Resolve r) q = stayed (held q s)
  came_plain (plain.Release r) q = stayed (held q s)
  came_plain (plain.Disembargo d) q = stayed (held q s)
  came_plain (plain.Other k) q = stayed (held q s)

  came_again : (m : PlainMessage) (q : QuestionId) → Came (profile (message.Unimplemented m)) q
  came_again (plain.Bootstrap p) q = came_back p q.0
  came_again (plain.Call c) q = came_back c.question q.0
  came_again (plain.Return r) q = stayed (held q s)
  came_again (plain.Finish f) q = stayed (held q s)
  came_again (plain.Abort x) q = stayed (held q s)
  came_again (plain.Resolve r) q = stayed (held q s)
  came_again (plain.Release r) q = stayed (held q s)
  came_again (plain.Disembargo d) q = stayed (held q s)
  came_again (plain.Other k) q = stayed (held q s)

  came : (w : What) (q : QuestionId) → Came w q
  came (profile (message.Plain m)) q = came_plain m q
  came (profile (message.Unimplemented m)) q = came_again m q
  came (tail_call c) q = stayed (held q s)
  came (sent_elsewhere r) q = returned r.answer q.0
  came (taken_from_other r) q = returned r.answer q.0
  came (strange k original) q = stayed (held q s)

pub each_once : (s : Finishing) (es : List Event) (q : QuestionId)
    → finishes_of q (all_said es) + held q s ≡ finishes_of q (all_gone s es) + (held q (after s es) + spared q s es)
each_once s [] q = omega arith
each_once s (Says (message.Plain m) ∷ es) q =
    let rest = each_once (goes_plain s m).state es q in
    let this = went s m q in
    let more = said_more q (goes_plain s m).said (all_gone (goes_plain s m).state es) in
    omega (arith, rest, this, more)
each_once s (Says (message.Unimplemented m) ∷ es) q = let rest = each_once s es q in omega (arith, rest)
each_once s (Hears w ∷ es) q =
    let rest = each_once (comes s w).state es q in
    let this = came s w q in
    let more = told_more q (comes s w).told (all_gone (comes s w).state es) in
    omega (arith, rest, this, more)
