-- What the oldest message on its way says of its session.
use Rattle.std.specs.FinMap as map
use Rattle.std.proofs.Common.{◌≡◌, ◌⊎◌, inl, inr, ℕ, Bool, nat_eq, List, [], ◌∷◌, ◌++◌, Option, None, Some, sym, ap, subst, ◌∙◌}
use Rattle.finite_maps.proofs.Tested.{itself}
use Rattle.rpc_msg.specs.declared.ids.Vat.TheVariants.{A, B}
use Rattle.rpc_msg.specs.declared.message.Message.{Message}
use Rattle.rpc_msg.specs.declared.message.Message.TheVariants as message
use Rattle.rpc_msg.specs.declared.message.PlainMessage.{PlainMessage}
use Rattle.rpc_msg.specs.declared.message.PlainMessage.TheVariants as plain
use Rattle.rpc_msg.specs.Messages.{descriptors_of_body, descriptors_of_plain, given}
use Rattle.rpc_machine.specs.declared.entries.Finishing.{Finishing}
use Rattle.rpc_machine.specs.declared.entries.Finishing.TheVariants as finishing
use Rattle.rpc_machine.specs.declared.entries.Question.{Question}
use Rattle.rpc_machine.specs.declared.entries.Returned.{Returned}
use Rattle.rpc_machine.specs.State.{State}
use Rattle.rpc_machine.specs.World.{World}
use Rattle.rpc_machine.specs.Progress.{numbers}
use Rattle.rpc_machine.specs.Sweeping.{IsNotSent}
use Rattle.laws_acts.specs.Sent.{Ids, Noted, messages}
use Rattle.laws_runs.specs.Between.{HoldsIn}
use Rattle.laws_runs.specs.Names.{Met}
use Rattle.laws_runs.specs.Questions as session
use Rattle.laws_runs.specs.Questions.{Answerer, Asker, Closing, EarlyBehind, EarlyCrossed, EarlyHeld, EarlyReturning, EarlySent, EarlyWaits, Fin, Held, Idle, Open, Out, Ret, Return, Returned as IsReturned, Returning, Row, Sent, SentBehind, hear_one}
use Rattle.laws_runs.specs.Views.{answerer_of, asked_by, asker_of, if_flag, only, out_of, outs, ret_of, rets}
use Rattle.laws_messages.specs.Named.{each_marks, marks, says, targets_marks}
use Rattle.laws_messages.proofs.FindingNamed.{Found, are_kept}
use Rattle.laws_routes.specs.QuietLaws.{IsAsked, IsFinished}
use Rattle.laws_scenes.specs.Meeting.{IsLastOfIts, OfOldest}
use Rattle.laws_scenes.proofs.Links.{HasOpen, NoneOpens, is_asked, left_alone, no_open, no_return, out_behind}

abbrev Outs : Type 0
Outs = List (Out Ids Ids)

abbrev Rets : Type 0
Rets = List (Ret Ids Ids)

same_rest : (P : Outs → Type 0) (m n : Out Ids Ids) (xs ys : Outs) → m ∷ xs ≡ n ∷ ys → P xs → P ys
same_rest P m n xs ys e h = let a : xs ≡ ys = cc in subst P a h

-- ---- What the rows say

-- The question is over, or was given up.
abbrev IsPast : Asker Ids Ids → Type 0
IsPast session.NotAsked = Unit {0}
IsPast (session.Asked x) = ⊥
IsPast (session.Back y) = ⊥
IsPast (session.Early x) = Unit {0}
IsPast session.Odd = ⊥

open_once : (v : Asker Ids Ids) (os : List (Out Ids Ids)) (u : Answerer Ids Ids) (bs : List (Ret Ids Ids)) (z : Ids) (rest : Outs) → Row v os u bs → os ≡ Open z ∷ rest → NoneOpens rest
open_once v os u bs z rest Idle e = cc
open_once v os u bs z rest (Closing y l j) e = cc
open_once v os u bs z rest (Sent x) e = same_rest NoneOpens (Open x) (Open z) [] rest e tt
open_once v os u bs z rest (SentBehind y l x j) e = cc
open_once v os u bs z rest (Held x) e = cc
open_once v os u bs z rest (Returning x y l j) e = cc
open_once v os u bs z rest (IsReturned y) e = cc
open_once v os u bs z rest (EarlySent x) e = same_rest NoneOpens (Open x) (Open z) (Fin None ∷ []) rest e tt
open_once v os u bs z rest (EarlyBehind y l x j) e = cc
open_once v os u bs z rest (EarlyHeld x) e = cc
open_once v os u bs z rest (EarlyCrossed x y l j) e = cc
open_once v os u bs z rest (EarlyWaits x) e = cc
open_once v os u bs z rest (EarlyReturning x y l j) e = cc

finish_last : (v : Asker Ids Ids) (os : List (Out Ids Ids)) (u : Answerer Ids Ids) (bs : List (Ret Ids Ids)) (k : _) (rest : Outs) → Row v os u bs → os ≡ Fin k ∷ rest → HasOpen rest ⊎ IsPast v
finish_last v os u bs k rest Idle e = cc
finish_last v os u bs k rest (Closing y l j) e = inr tt
finish_last v os u bs k rest (Sent x) e = cc
finish_last v os u bs k rest (SentBehind y l x j) e = inl (same_rest HasOpen (Fin l) (Fin k) (Open x ∷ []) rest e tt)
finish_last v os u bs k rest (Held x) e = cc
finish_last v os u bs k rest (Returning x y l j) e = cc
finish_last v os u bs k rest (IsReturned y) e = cc
finish_last v os u bs k rest (EarlySent x) e = cc
finish_last v os u bs k rest (EarlyBehind y l x j) e = inl (same_rest HasOpen (Fin l) (Fin k) (Open x ∷ Fin None ∷ []) rest e tt)
finish_last v os u bs k rest (EarlyHeld x) e = inr tt
finish_last v os u bs k rest (EarlyCrossed x y l j) e = inr tt
finish_last v os u bs k rest (EarlyWaits x) e = cc
finish_last v os u bs k rest (EarlyReturning x y l j) e = cc

return_once : (v : Asker Ids Ids) (os : List (Out Ids Ids)) (u : Answerer Ids Ids) (bs : List (Ret Ids Ids)) (m : Ret Ids Ids) (rest : Rets) → Row v os u bs → bs ≡ m ∷ rest → NoneOpens os × (rest ≡ [])
return_once v os u bs m rest Idle e = cc
return_once v os u bs m rest (Closing y l j) e = cc
return_once v os u bs m rest (Sent x) e = cc
return_once v os u bs m rest (SentBehind y l x j) e = cc
return_once v os u bs m rest (Held x) e = cc
return_once v os u bs m rest (Returning x y l j) e = (tt, cc)
return_once v os u bs m rest (IsReturned y) e = cc
return_once v os u bs m rest (EarlySent x) e = cc
return_once v os u bs m rest (EarlyBehind y l x j) e = cc
return_once v os u bs m rest (EarlyHeld x) e = cc
return_once v os u bs m rest (EarlyCrossed x y l j) e = (tt, cc)
return_once v os u bs m rest (EarlyWaits x) e = cc
return_once v os u bs m rest (EarlyReturning x y l j) e = (tt, cc)

past : (o : Option Question) → IsPast (asker_of o) → IsFinished o
past None i = tt
past (Some x) i = by x.finish x.returned i
  where
    by : (f : Finishing) (r : Option Returned) → IsPast (asked_by (numbers x.given) f r) → (IsNotSent f → ⊥)
    by finishing.Owed None i = λ n. i
    by finishing.Owed (Some said) i = λ n. i
    by finishing.Sent None i = λ n. n
    by finishing.Sent (Some said) i = λ n. n
    by finishing.Waived None i = λ n. i
    by finishing.Waived (Some said) i = λ n. i

-- ---- Two vats

module _ (s t : State) (n : Noted) (to_s to_t : List Noted) (k : Found s (n ∷ to_s) t to_t) where
  asks : (q : ℕ) → Row (asker_of (map.get s.questions q)) (outs q to_t) (answerer_of (map.get t.answers q)) (rets q (n ∷ to_s))
  asks q = let a = k.stand in a.of_s q

  answers : (q : ℕ) → Row (asker_of (map.get t.questions q)) (outs q (n ∷ to_s)) (answerer_of (map.get s.answers q)) (rets q to_t)
  answers q = let a = k.stand in a.of_t q

  own_out : (q : ℕ) (m : Out Ids Ids) (rest : Outs) → only (nat_eq q q) m ++ rest ≡ m ∷ rest
  own_out q m rest = ap (λ b. only b m ++ rest) (itself q)

  own_ret : (q : ℕ) (m : Ret Ids Ids) (rest : Rets) → only (nat_eq q q) m ++ rest ≡ m ∷ rest
  own_ret q m rest = ap (λ b. only b m ++ rest) (itself q)

  last : (x : PlainMessage) → n.message ≡ x → IsLastOfIts t (messages to_t) (messages to_s) x
  last (plain.Abort exception) e = tt
  last (plain.Bootstrap q) e = no_open q.0 to_s (open_once _ _ _ _ [] (outs q.0 to_s) (answers q.0) (ap (λ (m : PlainMessage). out_of q.0 m n.lets ++ outs q.0 to_s) e ∙ own_out q.0 (Open []) (outs q.0 to_s)))
  last (plain.Call c) e =
      let q = c.question.0 in
      no_open q to_s (open_once _ _ _ _ _ (outs q to_s) (answers q) (ap (λ (m : PlainMessage). out_of q m n.lets ++ outs q to_s) e ∙ own_out q (Open (given c.descriptors)) (outs q to_s)))
  last (plain.Return r) e =
      let q = r.answer.0 in
      let m : Ret Ids Ids = Return (given (descriptors_of_body r.body)) (if_flag r.release_param_caps n.lets) in
      let a = return_once _ _ _ _ m (rets q to_s) (asks q) (ap (λ (x : PlainMessage). ret_of q x n.lets ++ rets q to_s) e ∙ own_ret q m (rets q to_s)) in
      (no_open q to_t a.0, no_return q to_s a.1)
  last (plain.Finish f) e =
      let q = f.question.0 in
      let l = if_flag f.release_result_caps n.lets in
      let a = finish_last _ _ _ _ l (outs q to_s) (answers q) (ap (λ (x : PlainMessage). out_of q x n.lets ++ outs q to_s) e ∙ own_out q (Fin l) (outs q to_s)) in
      let u = answerer_of (map.get s.answers q) in
      let met : Met u (says (only (nat_eq q q) (Fin l)) ++ marks q to_s) = subst (λ (x : PlainMessage). Met u (targets_marks q x ++ (each_marks q (descriptors_of_plain x) ++ (says (out_of q x n.lets) ++ marks q to_s)))) e (k.met_s q) in
      let behind : Met (hear_one u (Fin l)) (marks q to_s) = subst (λ (b : Bool). Met u (says (only b (Fin l)) ++ marks q to_s)) (itself q) met in
      let alone = left_alone q (hear_one u (Fin l)) to_s (out_behind u l) behind in
      record { aims = alone.0; names = alone.1; over = over q a }
    where
      over : (q : ℕ) → HasOpen (outs q to_s) ⊎ IsPast (asker_of (map.get t.questions q)) → IsAsked q (messages to_s) ⊎ IsFinished (map.get t.questions q)
      over q (inl h) = inl (is_asked q to_s h)
      over q (inr h) = inr (past (map.get t.questions q) h)
  last (plain.Resolve r) e = tt
  last (plain.Release r) e = tt
  last (plain.Disembargo d) e = tt
  last (plain.Other k) e = tt

oldest : (s t : State) (to_s to_t : List Noted) (x : PlainMessage) (rest out : List Message) → Found s to_s t to_t → message.Plain x ∷ rest ≡ messages to_s → out ≡ messages to_t → IsLastOfIts t out rest x
oldest s t [] to_t x rest out k e f = absurd (let bad : message.Plain x ∷ rest ≡ [] = e in cc)
oldest s t (n ∷ ns) to_t x rest out k e f =
    let first : message.Plain x ≡ message.Plain n.message = cc in
    let same : n.message ≡ x = cc in
    let others : rest ≡ messages ns = cc in
    subst (λ (ms : List Message). IsLastOfIts t ms rest x) (sym f) (subst (λ (ms : List Message). IsLastOfIts t (messages to_t) ms x) (sym others) (last s t n ns to_t k x same))

pub in_world : (w : World) → HoldsIn Found w → OfOldest (λ s other out rest x. IsLastOfIts other out rest x) w
in_world w h A x rest e = oldest w.a.core w.b.core h.to_a h.to_b x rest w.b.inbox h.holds (sym e ∙ h.is_a) h.is_b
in_world w h B x rest e = oldest w.b.core w.a.core h.to_b h.to_a x rest w.a.inbox (are_kept.turned w.a.core w.b.core h.to_a h.to_b h.holds) (sym e ∙ h.is_b) h.is_a
