-- What a true flag lets go is what its receiver reads in its own tables.
use Rattle.std.proofs.Common.{◌≡◌, ℕ, Bool, true, false, nat_eq, List, [], ◌∷◌, ◌++◌, Option, None, Some, refl, sym, ap, arith}
use Rattle.std.specs.FinMap as map
use Rattle.rpc_msg.specs.declared.ids.ExportId.{ExportId}
use Rattle.rpc_msg.specs.declared.message.PlainMessage.{PlainMessage}
use Rattle.rpc_msg.specs.declared.message.PlainMessage.TheVariants as plain
use Rattle.rpc_msg.specs.Messages.{given, descriptors_of_body}
use Rattle.finite_maps.proofs.Tested.{itself}
use Rattle.rpc_machine.specs.declared.entries.Finishing.{Finishing}
use Rattle.rpc_machine.specs.declared.entries.Finishing.TheVariants as finishing
use Rattle.rpc_machine.specs.declared.entries.Returned.{Returned}
use Rattle.rpc_machine.specs.declared.entries.Question.{Question}
use Rattle.rpc_machine.specs.declared.entries.AnswerEntry.{AnswerEntry}
use Rattle.rpc_machine.specs.State.{State}
use Rattle.rpc_machine.specs.Lists.{how_many}
use Rattle.rpc_machine.specs.Progress.{numbers}
use Rattle.rpc_machine.specs.Faults.{gave}
use Rattle.rpc_machine.specs.UnderWay.{call_gave, return_gave, if_true, plain_takes, taking_off}
use Rattle.laws_acts.specs.Sent.{Ids, Noted, messages}
use Rattle.laws_runs.specs.Questions as session
use Rattle.laws_runs.specs.Questions.{Asker, Answerer, Out, Ret, IsJust, Row, Idle, Closing, Sent, SentBehind, Held, Returning, EarlySent, EarlyBehind, EarlyHeld, EarlyCrossed, EarlyWaits, EarlyReturning}
use Rattle.laws_runs.specs.Views.{asked_by, asker_of, answered_by, answerer_of, if_flag, only, out_of, ret_of, outs, rets}
use Rattle.laws_runs.specs.Worlds.{AreRows}
use Rattle.laws_runs.specs.Imports.{lets_of, letting}

-- ---- In a row

abbrev HasAsked : Asker Ids Ids → Ids → Type 0
HasAsked session.NotAsked l = ⊥
HasAsked (session.Asked x) l = l ≡ x
HasAsked (session.Back y) l = ⊥
HasAsked (session.Early x) l = l ≡ x
HasAsked session.Odd l = ⊥

abbrev HasGiven : Answerer Ids Ids → Ids → Type 0
HasGiven session.NotOpen l = ⊥
HasGiven (session.Working x) l = ⊥
HasGiven (session.Unwanted x) l = ⊥
HasGiven (session.Answered y) l = l ≡ y
HasGiven session.Strange l = ⊥

abbrev RetIs : Asker Ids Ids → Ret Ids Ids → Type 0
RetIs v (session.Return y None) = Unit {0}
RetIs v (session.Return y (Some l)) = HasAsked v l

abbrev OutIs : Answerer Ids Ids → Out Ids Ids → Type 0
OutIs u (session.Open x) = Unit {0}
OutIs u (session.Fin None) = Unit {0}
OutIs u (session.Fin (Some l)) = HasGiven u l

abbrev RetsAre : Asker Ids Ids → List (Ret Ids Ids) → Type 0
RetsAre v [] = Unit {0}
RetsAre v (m ∷ ms) = RetIs v m × RetsAre v ms

abbrev OutsAre : Answerer Ids Ids → List (Out Ids Ids) → Type 0
OutsAre u [] = Unit {0}
OutsAre u (m ∷ ms) = OutIs u m × OutsAre u ms

asked_ret : (x y : Ids) (l : Option Ids) → IsJust l x → RetIs (session.Asked x) (session.Return y l)
asked_ret x y None j = tt
asked_ret x y (Some l) j = j

early_ret : (x y : Ids) (l : Option Ids) → IsJust l x → RetIs (session.Early x) (session.Return y l)
early_ret x y None j = tt
early_ret x y (Some l) j = j

fin_is : (y : Ids) (l : Option Ids) → IsJust l y → OutIs (session.Answered y) (session.Fin l)
fin_is y None j = tt
fin_is y (Some l) j = j

row_rets : (v : Asker Ids Ids) (out : List (Out Ids Ids)) (u : Answerer Ids Ids) (back : List (Ret Ids Ids)) → Row v out u back → RetsAre v back
row_rets v out u back Idle = tt
row_rets v out u back (Closing y l j) = tt
row_rets v out u back (Sent x) = tt
row_rets v out u back (SentBehind y l x j) = tt
row_rets v out u back (Held x) = tt
row_rets v out u back (Returning x y l j) = (asked_ret x y l j, tt)
row_rets v out u back (session.Returned y) = tt
row_rets v out u back (EarlySent x) = tt
row_rets v out u back (EarlyBehind y l x j) = tt
row_rets v out u back (EarlyHeld x) = tt
row_rets v out u back (EarlyCrossed x y l j) = (early_ret x y l j, tt)
row_rets v out u back (EarlyWaits x) = tt
row_rets v out u back (EarlyReturning x y l j) = (early_ret x y l j, tt)

row_outs : (v : Asker Ids Ids) (out : List (Out Ids Ids)) (u : Answerer Ids Ids) (back : List (Ret Ids Ids)) → Row v out u back → OutsAre u out
row_outs v out u back Idle = tt
row_outs v out u back (Closing y l j) = (fin_is y l j, tt)
row_outs v out u back (Sent x) = (tt, tt)
row_outs v out u back (SentBehind y l x j) = (fin_is y l j, (tt, tt))
row_outs v out u back (Held x) = tt
row_outs v out u back (Returning x y l j) = tt
row_outs v out u back (session.Returned y) = tt
row_outs v out u back (EarlySent x) = (tt, (tt, tt))
row_outs v out u back (EarlyBehind y l x j) = (fin_is y l j, (tt, (tt, tt)))
row_outs v out u back (EarlyHeld x) = (tt, tt)
row_outs v out u back (EarlyCrossed x y l j) = (tt, tt)
row_outs v out u back (EarlyWaits x) = tt
row_outs v out u back (EarlyReturning x y l j) = tt

-- ---- In the tables

call_gave_is : (o : Option Question) (l : Ids) → HasAsked (asker_of o) l → l ≡ call_gave o
call_gave_is None l h = absurd h
call_gave_is (Some x) l h = by x.finish x.returned h
  where
    by : (f : Finishing) (r : Option Returned) → HasAsked (asked_by (numbers x.given) f r) l → l ≡ numbers x.given
    by finishing.Owed None h = h
    by finishing.Owed (Some s) h = absurd h
    by finishing.Sent None h = h
    by finishing.Sent (Some s) h = absurd h
    by finishing.Waived r h = absurd h

return_gave_is : (o : Option AnswerEntry) (l : Ids) → HasGiven (answerer_of o) l → l ≡ return_gave o
return_gave_is None l h = absurd h
return_gave_is (Some a) l h = by a.returned a.finished h
  where
    by : (r : Option (List ExportId)) (b : Bool) → HasGiven (answered_by (numbers a.taken) r b) l → l ≡ gave r
    by None false h = absurd h
    by None true h = absurd h
    by (Some ids) false h = h
    by (Some ids) true h = absurd h

-- ---- On a link

-- What is on its way to the vat s, as its own questions and answers know it.
pub record Reads (s : State) (to : List Noted) : Type 0 where
  pub rets : (q : ℕ) → RetsAre (asker_of (map.get s.questions q)) (rets q to)
  pub outs : (q : ℕ) → OutsAre (answerer_of (map.get s.answers q)) (outs q to)

pub reads : (s t : State) (to_s to_t : List Noted) → AreRows s to_s t to_t → AreRows t to_t s to_s → Reads s to_s
reads s t to_s to_t a b = record { rets = λ q. row_rets _ _ _ _ (a q); outs = λ q. row_outs _ _ _ _ (b q) }

rets_behind : (v : Asker Ids Ids) (xs ys : List (Ret Ids Ids)) → RetsAre v (xs ++ ys) → RetsAre v ys
rets_behind v [] ys h = h
rets_behind v (x ∷ xs) ys h = rets_behind v xs ys h.1

outs_behind : (v : Answerer Ids Ids) (xs ys : List (Out Ids Ids)) → OutsAre v (xs ++ ys) → OutsAre v ys
outs_behind v [] ys h = h
outs_behind v (x ∷ xs) ys h = outs_behind v xs ys h.1

behind : (s : State) (n : Noted) (ns : List Noted) → Reads s (n ∷ ns) → Reads s ns
behind s n ns r = record { rets = λ q. rets_behind _ (ret_of q n.message n.lets) (rets q ns) (r.rets q); outs = λ q. outs_behind _ (out_of q n.message n.lets) (outs q ns) (r.outs q) }

first_ret : (v : Asker Ids Ids) (b : Bool) (m : Ret Ids Ids) (ms : List (Ret Ids Ids)) → b ≡ true → RetsAre v (only b m ++ ms) → RetIs v m
first_ret v true m ms e h = h.0
first_ret v false m ms e h = absurd (let bad : false ≡ true = e in cc)

first_out : (v : Answerer Ids Ids) (b : Bool) (m : Out Ids Ids) (ms : List (Out Ids Ids)) → b ≡ true → OutsAre v (only b m ++ ms) → OutIs v m
first_out v true m ms e h = h.0
first_out v false m ms e h = absurd (let bad : false ≡ true = e in cc)

flagged_ret : (o : Option Question) (b : Bool) (y l : Ids) → RetIs (asker_of o) (session.Return y (if_flag b l)) → if_true b (call_gave o) ≡ if_true b l
flagged_ret o true y l h = sym (call_gave_is o l h)
flagged_ret o false y l h = refl

flagged_out : (o : Option AnswerEntry) (b : Bool) (l : Ids) → OutIs (answerer_of o) (session.Fin (if_flag b l)) → if_true b (return_gave o) ≡ if_true b l
flagged_out o true l h = sym (return_gave_is o l h)
flagged_out o false l h = refl

pub takes_first : (s : State) (e : ℕ) (m : PlainMessage) (l : Ids) (ns : List Noted) → Reads s (record { message = m; lets = l } ∷ ns) → plain_takes s e m ≡ lets_of e m l
takes_first s e (plain.Abort x) l ns r = refl
takes_first s e (plain.Bootstrap q) l ns r = refl
takes_first s e (plain.Call c) l ns r = refl
takes_first s e (plain.Return x) l ns r = let q = x.answer.0 in ap (how_many (nat_eq e)) (flagged_ret (map.get s.questions q) x.release_param_caps (given (descriptors_of_body x.body)) l (first_ret _ (nat_eq q q) (session.Return (given (descriptors_of_body x.body)) (if_flag x.release_param_caps l)) (rets q ns) (itself q) (r.rets q)))
takes_first s e (plain.Finish f) l ns r = let q = f.question.0 in ap (how_many (nat_eq e)) (flagged_out (map.get s.answers q) f.release_result_caps l (first_out _ (nat_eq q q) (session.Fin (if_flag f.release_result_caps l)) (outs q ns) (itself q) (r.outs q)))
takes_first s e (plain.Resolve x) l ns r = refl
takes_first s e (plain.Release x) l ns r = refl
takes_first s e (plain.Disembargo x) l ns r = refl
takes_first s e (plain.Other n) l ns r = refl

pub takes_all : (s : State) (e : ℕ) (ns : List Noted) → Reads s ns → taking_off s e (messages ns) ≡ letting e ns
takes_all s e [] r = refl
takes_all s e (n ∷ ns) r = let a = takes_first s e n.message n.lets ns r in let b = takes_all s e ns (behind s n ns r) in omega (arith, a, b)
