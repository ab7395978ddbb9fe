-- Where Finishes wait, a question is open from its asking to its end, and its first Finish does not go.
use Rattle.std.proofs.Common.{◌≡◌, ℕ, true, false, List, [], ◌∷◌, ◌++◌, Some, None, refl, sym, subst, ◌∙◌, arith}
use Rattle.std.specs.Prelude.{Option, Bool, ◌==◌, ◌||◌}
use Rattle.std.specs.FinMap as finite
use Rattle.std.proofs.lemmas.Bool.{eqb-false}
use Rattle.finite_maps.proofs.Gets.{at_each, get-insert_other, get-insert_same, get-remove_other}
use Rattle.rpc_msg.specs.declared.ids.QuestionId.{QuestionId}
use Rattle.rpc_msg.specs.declared.message.Finish.{Finish}
use Rattle.rpc_msg.specs.declared.message.PlainMessage.{PlainMessage}
use Rattle.rpc_msg.specs.declared.message.PlainMessage.TheVariants as plain
use Rattle.rpc_msg.specs.declared.message.Message.{Message}
use Rattle.rpc_msg.specs.declared.message.Message.TheVariants as message
use Rattle.rpc_codec.specs.Envelopes.{What, profile, tail_call, sent_elsewhere, taken_from_other, strange}
use Rattle.peer_finishes.specs.declared.held.Finishes.{Finishes}
use Rattle.peer_finishes.specs.declared.held.Finishes.TheVariants.{AtOnce, AfterReturn}
use Rattle.peer_finishes.specs.declared.questions.Awaited.{Awaited}
use Rattle.peer_finishes.specs.declared.questions.Awaited.TheVariants.{Asked, Finished}
use Rattle.peer_finishes.specs.Finishing.{Finishing, asked, asked_by as open_by, comes, comes_back, finishes, goes, goes_plain, with_open, without_open}
use Rattle.peer_finishes.specs.Laws.{Event, Says, Hears, StaysOpen, after, asked_by, ends, held, holds, waiting}

abbrev IsOpen : Option Awaited → Type 0
IsOpen None = ⊥
IsOpen (Some a) = Unit {0}

abbrev Opens : ℕ → Finishing → Type 0
Opens n s = IsOpen (finite.get s.awaited n)

joined : (s : Finishing) (xs ys : List Event) → after s (xs ++ ys) ≡ after (after s xs) ys
joined s [] ys = refl
joined s (Says m ∷ xs) ys = joined (goes s m).state xs ys
joined s (Hears w ∷ xs) ys = joined (comes s w).state xs ys

module _ (s : Finishing) where
  -- ---- Finishes wait still

  mode_asked : (mode : Finishes) (was : Option Awaited) (p : QuestionId) → (open_by mode was s p).finishes ≡ s.finishes
  mode_asked AtOnce was p = refl
  mode_asked AfterReturn (Some a) p = refl
  mode_asked AfterReturn None p = refl

  mode_finish : (f : Finish) (o : Option Awaited) → (finishes s f o).state.finishes ≡ s.finishes
  mode_finish f None = refl
  mode_finish f (Some Asked) = refl
  mode_finish f (Some (Finished flag)) = refl

  mode_plain : (m : PlainMessage) → (goes_plain s m).state.finishes ≡ s.finishes
  mode_plain (plain.Bootstrap p) = mode_asked s.finishes (finite.get s.awaited p.0) p
  mode_plain (plain.Call c) = mode_asked s.finishes (finite.get s.awaited c.question.0) c.question
  mode_plain (plain.Finish f) = mode_finish f (finite.get s.awaited f.question.0)
  mode_plain (plain.Abort x) = refl
  mode_plain (plain.Return r) = refl
  mode_plain (plain.Resolve r) = refl
  mode_plain (plain.Release r) = refl
  mode_plain (plain.Disembargo d) = refl
  mode_plain (plain.Other k) = refl

  mode_goes : (m : Message) → (goes s m).state.finishes ≡ s.finishes
  mode_goes (message.Plain m) = mode_plain m
  mode_goes (message.Unimplemented m) = refl

  mode_plain_came : (m : PlainMessage) → (comes s (profile (message.Plain m))).state.finishes ≡ s.finishes
  mode_plain_came (plain.Return r) = refl
  mode_plain_came (plain.Bootstrap p) = refl
  mode_plain_came (plain.Call c) = refl
  mode_plain_came (plain.Finish f) = refl
  mode_plain_came (plain.Abort x) = refl
  mode_plain_came (plain.Resolve r) = refl
  mode_plain_came (plain.Release r) = refl
  mode_plain_came (plain.Disembargo d) = refl
  mode_plain_came (plain.Other k) = refl

  mode_came_back : (m : PlainMessage) → (comes_back s m).state.finishes ≡ s.finishes
  mode_came_back (plain.Return r) = refl
  mode_came_back (plain.Bootstrap p) = refl
  mode_came_back (plain.Call c) = refl
  mode_came_back (plain.Finish f) = refl
  mode_came_back (plain.Abort x) = refl
  mode_came_back (plain.Resolve r) = refl
  mode_came_back (plain.Release r) = refl
  mode_came_back (plain.Disembargo d) = refl
  mode_came_back (plain.Other k) = refl

  mode_comes : (w : What) → (comes s w).state.finishes ≡ s.finishes
  mode_comes (profile (message.Plain m)) = mode_plain_came m
  mode_comes (profile (message.Unimplemented m)) = mode_came_back m
  mode_comes (tail_call c) = refl
  mode_comes (sent_elsewhere r) = refl
  mode_comes (taken_from_other r) = refl
  mode_comes (strange k original) = refl

  -- ---- a question that is open stays so

  put_opens : (p : QuestionId) (a : Awaited) (n : ℕ) → Opens n s → Opens n (with_open s p a)
  put_opens p a n is =
      at_each (λ n. Opens n s → Opens n (with_open s p a)) p.0
      (λ is. subst (λ o. IsOpen o) (sym (get-insert_same s.awaited p.0 a)) tt)
      (λ n apart is. subst (λ o. IsOpen o) (sym (get-insert_other s.awaited p.0 a n apart)) is) n is

  asked_opens : (mode : Finishes) (was : Option Awaited) (p : QuestionId) (n : ℕ) → Opens n s → Opens n (open_by mode was s p)
  asked_opens AtOnce was p n is = is
  asked_opens AfterReturn (Some a) p n is = is
  asked_opens AfterReturn None p n is = put_opens p Asked n is

  finish_opens : (f : Finish) (o : Option Awaited) (n : ℕ) → Opens n s → Opens n (finishes s f o).state
  finish_opens f None n is = is
  finish_opens f (Some Asked) n is = put_opens f.question (Finished f.release_result_caps) n is
  finish_opens f (Some (Finished flag)) n is = is

  goes_opens : (m : PlainMessage) (n : ℕ) → Opens n s → Opens n (goes_plain s m).state
  goes_opens (plain.Bootstrap p) n is = asked_opens s.finishes (finite.get s.awaited p.0) p n is
  goes_opens (plain.Call c) n is = asked_opens s.finishes (finite.get s.awaited c.question.0) c.question n is
  goes_opens (plain.Finish f) n is = finish_opens f (finite.get s.awaited f.question.0) n is
  goes_opens (plain.Abort x) n is = is
  goes_opens (plain.Return r) n is = is
  goes_opens (plain.Resolve r) n is = is
  goes_opens (plain.Release r) n is = is
  goes_opens (plain.Disembargo d) n is = is
  goes_opens (plain.Other k) n is = is

  both_false : (a b : Bool) → (a || b) ≡ false → (a ≡ false) × (b ≡ false)
  both_false true b is = absurd (let e : true ≡ false = is in cc)
  both_false false b is = (refl, is)

  left_opens : (p : QuestionId) (n : ℕ) → (p.0 == n) ≡ false → Opens n s → Opens n (without_open s p)
  left_opens p n other is = subst (λ o. IsOpen o) (sym (get-remove_other s.awaited p.0 n (λ same. eqb-false p.0 n other (sym same)))) is

  plain_opens : (m : PlainMessage) (q : QuestionId) → ends q (profile (message.Plain m)) ≡ false → Opens q.0 s → Opens q.0 (comes s (profile (message.Plain m))).state
  plain_opens (plain.Return r) q stays is = left_opens r.answer q.0 (both_false (r.answer.0 == q.0) false stays).0 is
  plain_opens (plain.Bootstrap p) q stays is = is
  plain_opens (plain.Call c) q stays is = is
  plain_opens (plain.Finish f) q stays is = is
  plain_opens (plain.Abort x) q stays is = is
  plain_opens (plain.Resolve r) q stays is = is
  plain_opens (plain.Release r) q stays is = is
  plain_opens (plain.Disembargo d) q stays is = is
  plain_opens (plain.Other k) q stays is = is

  back_opens : (m : PlainMessage) (q : QuestionId) → ends q (profile (message.Unimplemented m)) ≡ false → Opens q.0 s → Opens q.0 (comes_back s m).state
  back_opens (plain.Bootstrap p) q stays is = left_opens p q.0 stays is
  back_opens (plain.Call c) q stays is = left_opens c.question q.0 stays is
  back_opens (plain.Return r) q stays is = is
  back_opens (plain.Finish f) q stays is = is
  back_opens (plain.Abort x) q stays is = is
  back_opens (plain.Resolve r) q stays is = is
  back_opens (plain.Release r) q stays is = is
  back_opens (plain.Disembargo d) q stays is = is
  back_opens (plain.Other k) q stays is = is

  comes_opens : (w : What) (q : QuestionId) → ends q w ≡ false → Opens q.0 s → Opens q.0 (comes s w).state
  comes_opens (profile (message.Plain m)) q stays is = plain_opens m q stays is
  comes_opens (profile (message.Unimplemented m)) q stays is = back_opens m q stays is
  comes_opens (tail_call c) q stays is = is
  comes_opens (sent_elsewhere r) q stays is = left_opens r.answer q.0 (both_false (r.answer.0 == q.0) false stays).0 is
  comes_opens (taken_from_other r) q stays is = left_opens r.answer q.0 (both_false (r.answer.0 == q.0) false stays).0 is
  comes_opens (strange k original) q stays is = is

  -- ---- a question that is asked is open

  is_asked : (mode : Finishes) (was : Option Awaited) (p : QuestionId) → mode ≡ AfterReturn → finite.get s.awaited p.0 ≡ was → Opens p.0 (open_by mode was s p)
  is_asked AtOnce was p waits is = absurd cc
  is_asked AfterReturn (Some a) p waits is = subst (λ o. IsOpen o) (sym is) tt
  is_asked AfterReturn None p waits is = subst (λ o. IsOpen o) (sym (get-insert_same s.awaited p.0 Asked)) tt

  same_asked : (p q : QuestionId) → Some p ≡ Some q → Opens p.0 (asked s p) → Opens q.0 (asked s p)
  same_asked p q same is = let e : p ≡ q = cc in subst (λ (r : QuestionId). Opens r.0 (asked s p)) e is

  plain_asks : (m : PlainMessage) (q : QuestionId) → s.finishes ≡ AfterReturn → asked_by (message.Plain m) ≡ Some q → Opens q.0 (goes_plain s m).state
  plain_asks (plain.Bootstrap p) q waits asks = same_asked p q asks (is_asked s.finishes (finite.get s.awaited p.0) p waits refl)
  plain_asks (plain.Call c) q waits asks = same_asked c.question q asks (is_asked s.finishes (finite.get s.awaited c.question.0) c.question waits refl)
  plain_asks (plain.Finish f) q waits asks = absurd cc
  plain_asks (plain.Abort x) q waits asks = absurd cc
  plain_asks (plain.Return r) q waits asks = absurd cc
  plain_asks (plain.Resolve r) q waits asks = absurd cc
  plain_asks (plain.Release r) q waits asks = absurd cc
  plain_asks (plain.Disembargo d) q waits asks = absurd cc
  plain_asks (plain.Other k) q waits asks = absurd cc

  asks_opens : (m : Message) (q : QuestionId) → s.finishes ≡ AfterReturn → asked_by m ≡ Some q → Opens q.0 (goes s m).state
  asks_opens (message.Plain m) q waits asks = plain_asks m q waits asks
  asks_opens (message.Unimplemented m) q waits asks = absurd cc

  is_held_back : (f : Finish) (o : Option Awaited) → IsOpen o → holds o ≡ 0 → (finishes s f o).said ≡ None
  is_held_back f None is none = absurd is
  is_held_back f (Some Asked) is none = refl
  is_held_back f (Some (Finished flag)) is none = absurd (omega (arith, none))

still_waits : (s : Finishing) (es : List Event) → (after s es).finishes ≡ s.finishes
still_waits s [] = refl
still_waits s (Says m ∷ es) = still_waits (goes s m).state es ∙ mode_goes s m
still_waits s (Hears w ∷ es) = still_waits (comes s w).state es ∙ mode_comes s w

still_opens : (s : Finishing) (es : List Event) (q : QuestionId) → StaysOpen q es → Opens q.0 s → Opens q.0 (after s es)
still_opens s [] q stays is = is
still_opens s (Says (message.Plain m) ∷ es) q stays is = still_opens (goes_plain s m).state es q stays (goes_opens s m q.0 is)
still_opens s (Says (message.Unimplemented m) ∷ es) q stays is = still_opens s es q stays is
still_opens s (Hears w ∷ es) q stays is = still_opens (comes s w).state es q stays.1 (comes_opens s w q stays.0 is)

pub first_waits : (before es : List Event) (m : Message) (f : Finish) → asked_by m ≡ Some f.question → StaysOpen f.question es
    → held f.question (after waiting (before ++ Says m ∷ es)) ≡ 0
    → (goes (after waiting (before ++ Says m ∷ es)) (message.Plain (plain.Finish f))).said ≡ None
first_waits before es m f asks stays none =
    let then : Finishing = after waiting before in
    let opens = still_opens (goes then m).state es f.question stays (asks_opens then m f.question (still_waits waiting before) asks) in
    is_held_back (after waiting (before ++ Says m ∷ es)) f (finite.get (after waiting (before ++ Says m ∷ es)).awaited f.question.0)
    (subst (λ (t : Finishing). Opens f.question.0 t) (sym (joined waiting before (Says m ∷ es))) opens) none
