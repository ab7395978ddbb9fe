-- What the last question and the last answer of each id handed on is what the vat's tables say, as long as it is asked or answered.
use Rattle.std.proofs.Common.{◌≡◌, ℕ, suc, ◌+◌, Bool, true, false, cond, nat_eq, List, [], ◌∷◌, ◌++◌, append-nil, append_assoc, Option, Some, refl, sym, ap, subst, ◌∙◌, arith}
use Rattle.std.specs.FinMap as map
use Rattle.finite_maps.proofs.Tested.{itself}
use Rattle.rpc_msg.specs.declared.message.PlainMessage.{PlainMessage}
use Rattle.rpc_msg.specs.declared.message.PlainMessage.TheVariants as plain
use Rattle.rpc_msg.specs.declared.message.Message.{Message}
use Rattle.rpc_msg.specs.declared.message.Message.TheVariants as message
use Rattle.rpc_msg.specs.declared.message.Return.{Return}
use Rattle.rpc_msg.specs.declared.message.Finish.{Finish}
use Rattle.rpc_msg.specs.Messages.{given, descriptors_of_body}
use Rattle.rpc_machine.specs.State.{State}
use Rattle.rpc_machine.specs.Lists.{how_many}
use Rattle.rpc_machine.specs.UnderWay.{if_true}
use Rattle.laws_acts.specs.Sent.{Ids, Noted, messages}
use Rattle.laws_runs.specs.Questions as session
use Rattle.laws_runs.specs.Questions.{Asker, Answerer, Out, Ret, IsJust, Sends, Asks, GivesUp, IsDone, Returns, Answers, Cancels, Row, Idle, Closing, Sent, SentBehind, Held, Returning, Returned, EarlySent, EarlyBehind, EarlyHeld, EarlyCrossed, EarlyWaits, EarlyReturning, hear_one, tell_one}
use Rattle.laws_runs.specs.Views.{asker_of, answerer_of, if_flag, only, out_of, ret_of, outs, rets, SendsAll, ReturnsAll, tell, hear, Moves, Gets}
use Rattle.laws_runs.specs.Imports.{lets_of}
use Rattle.rpc_check.proofs.Saying.{handed_more}
use Rattle.rpc_check.specs.Counts.{CountsById, count_of, one_each, handed_on, is_question, is_answer, last_that, handed_on_by, released_after}

-- ---- The last of each id

-- What the last question with that id handed on, and the last answer.
abbrev pub last_question : List Message → ℕ → CountsById
last_question ms q = handed_on_by (last_that (is_question q) ms)

abbrev pub last_answer : List Message → ℕ → CountsById
last_answer ms q = handed_on_by (last_that (is_answer q) ms)

-- ---- One session

abbrev pub AskedBy : Asker Ids Ids → CountsById → Type 0
AskedBy session.NotAsked c = Unit {0}
AskedBy (session.Asked x) c = c ≡ one_each x
AskedBy (session.Back y) c = Unit {0}
AskedBy (session.Early x) c = c ≡ one_each x
AskedBy session.Odd c = Unit {0}

abbrev pub AnsweredBy : Answerer Ids Ids → CountsById → Type 0
AnsweredBy session.NotOpen c = Unit {0}
AnsweredBy (session.Working x) c = Unit {0}
AnsweredBy (session.Unwanted x) c = Unit {0}
AnsweredBy (session.Answered y) c = c ≡ one_each y
AnsweredBy session.Strange c = Unit {0}

-- What the other handed on in what is answered, or was answered.
abbrev pub WorksOn : Answerer Ids Ids → CountsById → Type 0
WorksOn session.NotOpen c = Unit {0}
WorksOn (session.Working x) c = c ≡ one_each x
WorksOn (session.Unwanted x) c = c ≡ one_each x
WorksOn (session.Answered y) c = Unit {0}
WorksOn session.Strange c = Unit {0}

abbrev pub HasBack : Asker Ids Ids → CountsById → Type 0
HasBack session.NotAsked c = Unit {0}
HasBack (session.Asked x) c = Unit {0}
HasBack (session.Back y) c = c ≡ one_each y
HasBack (session.Early x) c = Unit {0}
HasBack session.Odd c = Unit {0}

pub works_by : (v : Asker Ids Ids) (out : List (Out Ids Ids)) (u : Answerer Ids Ids) (ret : List (Ret Ids Ids)) (c : CountsById) → Row v out u ret → AskedBy v c → WorksOn u c
works_by v out u ret c Idle a = tt
works_by v out u ret c (Closing y l j) a = tt
works_by v out u ret c (Sent x) a = tt
works_by v out u ret c (SentBehind y l x j) a = tt
works_by v out u ret c (Held x) a = a
works_by v out u ret c (Returning x y l j) a = tt
works_by v out u ret c (Returned y) a = tt
works_by v out u ret c (EarlySent x) a = tt
works_by v out u ret c (EarlyBehind y l x j) a = tt
works_by v out u ret c (EarlyHeld x) a = a
works_by v out u ret c (EarlyCrossed x y l j) a = tt
works_by v out u ret c (EarlyWaits x) a = a
works_by v out u ret c (EarlyReturning x y l j) a = tt

pub back_by : (v : Asker Ids Ids) (out : List (Out Ids Ids)) (u : Answerer Ids Ids) (ret : List (Ret Ids Ids)) (c : CountsById) → Row v out u ret → AnsweredBy u c → HasBack v c
back_by v out u ret c Idle a = tt
back_by v out u ret c (Closing y l j) a = tt
back_by v out u ret c (Sent x) a = tt
back_by v out u ret c (SentBehind y l x j) a = tt
back_by v out u ret c (Held x) a = tt
back_by v out u ret c (Returning x y l j) a = tt
back_by v out u ret c (Returned y) a = a
back_by v out u ret c (EarlySent x) a = tt
back_by v out u ret c (EarlyBehind y l x j) a = tt
back_by v out u ret c (EarlyHeld x) a = tt
back_by v out u ret c (EarlyCrossed x y l j) a = tt
back_by v out u ret c (EarlyWaits x) a = tt
back_by v out u ret c (EarlyReturning x y l j) a = tt

-- ---- What is received changes nothing of what was said

told_one : (v : Asker Ids Ids) (m : Ret Ids Ids) (c : CountsById) → AskedBy (tell_one v m) c
told_one session.NotAsked (session.Return y l) c = tt
told_one (session.Asked x) (session.Return y l) c = tt
told_one (session.Back z) (session.Return y l) c = tt
told_one (session.Early x) (session.Return y l) c = tt
told_one session.Odd (session.Return y l) c = tt

told_all : (v : Asker Ids Ids) (ms : List (Ret Ids Ids)) (c : CountsById) → AskedBy v c → AskedBy (tell v ms) c
told_all v [] c a = a
told_all v (m ∷ ms) c a = told_all (tell_one v m) ms c (told_one v m c)

heard_one : (u : Answerer Ids Ids) (m : Out Ids Ids) (c : CountsById) → AnsweredBy (hear_one u m) c
heard_one session.NotOpen (session.Open x) c = tt
heard_one session.NotOpen (session.Fin l) c = tt
heard_one (session.Working x) (session.Open z) c = tt
heard_one (session.Working x) (session.Fin l) c = tt
heard_one (session.Unwanted x) m c = tt
heard_one (session.Answered y) (session.Open x) c = tt
heard_one (session.Answered y) (session.Fin l) c = tt
heard_one session.Strange m c = tt

heard_all : (u : Answerer Ids Ids) (ms : List (Out Ids Ids)) (c : CountsById) → AnsweredBy u c → AnsweredBy (hear u ms) c
heard_all u [] c a = a
heard_all u (m ∷ ms) c a = heard_all (hear_one u m) ms c (heard_one u m c)

-- ---- What is sent

asks_one : (v w : Asker Ids Ids) (x : Ids) → Sends v (session.Open x) w → w ≡ session.Asked x
asks_one v w x (Asks y) = refl

fin_one : (v w : Asker Ids Ids) (l : Option Ids) (c : CountsById) → AskedBy v c → Sends v (session.Fin l) w → AskedBy w c
fin_one v w l c a (GivesUp x) = a
fin_one v w l c a (IsDone y k j) = tt

answers_one : (u w : Answerer Ids Ids) (y : Ids) (l : Option Ids) → Returns u (session.Return y l) w → AnsweredBy w (one_each y)
answers_one u w y l (Answers x z k j) = refl
answers_one u w y l (Cancels x z k j) = tt

-- One message more: what the asker's state is then, and what was said by it.
abbrev AskedAfter : ℕ → Asker Ids Ids → List Message → PlainMessage → Ids → List (Out Ids Ids) → Asker Ids Ids → Type 0
AskedAfter q v ms m l rest w = (u : Asker Ids Ids) × AskedBy u (last_question (ms ++ message.Plain m ∷ []) q) × SendsAll u rest w

module _ (q : ℕ) (w : Asker Ids Ids) (rest : List (Out Ids Ids)) (v : Asker Ids Ids) (ms : List Message) (a : AskedBy v (last_question ms q)) where
  -- It is no question of that id.
  no_question : (m : PlainMessage) → is_question q (message.Plain m) ≡ false → AskedBy v (last_question (ms ++ message.Plain m ∷ []) q)
  no_question m e = subst (λ (c : CountsById). AskedBy v c) (sym (handed_more (is_question q) false ms (message.Plain m) e)) a

  opens : (m : PlainMessage) (x : Ids) (b : Bool) → is_question q (message.Plain m) ≡ b → handed_on (message.Plain m) ≡ one_each x → SendsAll v (only b (session.Open x) ++ rest) w → AskedAfter q v ms m [] rest w
  opens m x false e g h = (v, no_question m e, h)
  opens m x true e g h = (h.0, subst (λ (u : Asker Ids Ids). AskedBy u (last_question (ms ++ message.Plain m ∷ []) q)) (sym (asks_one v h.0 x h.1)) (handed_more (is_question q) true ms (message.Plain m) e ∙ g), h.2)

  closes : (m : PlainMessage) (l : Option Ids) (b : Bool) → is_question q (message.Plain m) ≡ false → SendsAll v (only b (session.Fin l) ++ rest) w → AskedAfter q v ms m [] rest w
  closes m l false e h = (v, no_question m e, h)
  closes m l true e h = (h.0, fin_one v h.0 l (last_question (ms ++ message.Plain m ∷ []) q) (no_question m e) h.1, h.2)

  asks_more : (m : PlainMessage) (l : Ids) → SendsAll v (out_of q m l ++ rest) w → AskedAfter q v ms m [] rest w
  asks_more (plain.Abort x) l h = (v, no_question (plain.Abort x) refl, h)
  asks_more (plain.Bootstrap p) l h = opens (plain.Bootstrap p) [] (nat_eq q p.0) refl refl h
  asks_more (plain.Call c) l h = opens (plain.Call c) (given c.descriptors) (nat_eq q c.question.0) refl refl h
  asks_more (plain.Return r) l h = (v, no_question (plain.Return r) refl, h)
  asks_more (plain.Finish f) l h = closes (plain.Finish f) (if_flag f.release_result_caps l) (nat_eq q f.question.0) refl h
  asks_more (plain.Resolve r) l h = (v, no_question (plain.Resolve r) refl, h)
  asks_more (plain.Release r) l h = (v, no_question (plain.Release r) refl, h)
  asks_more (plain.Disembargo d) l h = (v, no_question (plain.Disembargo d) refl, h)
  asks_more (plain.Other n) l h = (v, no_question (plain.Other n) refl, h)

pub asked_on : (q : ℕ) (w v : Asker Ids Ids) (ns : List Noted) (ms : List Message) → AskedBy v (last_question ms q) → SendsAll v (outs q ns) w → AskedBy w (last_question (ms ++ messages ns) q)
asked_on q w v [] ms a h = subst (λ (l : List Message). AskedBy w (last_question l q)) (sym (append-nil ms)) (subst (λ (y : Asker Ids Ids). AskedBy y (last_question ms q)) h a)
asked_on q w v (n ∷ ns) ms a h =
    let k = asks_more q w (outs q ns) v ms a n.message n.lets h in
    subst (λ (l : List Message). AskedBy w (last_question l q)) (append_assoc ms (message.Plain n.message ∷ []) (messages ns))
    (asked_on q w k.0 ns (ms ++ message.Plain n.message ∷ []) k.1 k.2)

abbrev AnsweredAfter : ℕ → List Message → PlainMessage → List (Ret Ids Ids) → Answerer Ids Ids → Type 0
AnsweredAfter q ms m rest w = (u : Answerer Ids Ids) × AnsweredBy u (last_answer (ms ++ message.Plain m ∷ []) q) × ReturnsAll u rest w

module _ (q : ℕ) (w : Answerer Ids Ids) (rest : List (Ret Ids Ids)) (v : Answerer Ids Ids) (ms : List Message) (a : AnsweredBy v (last_answer ms q)) where
  no_answer : (m : PlainMessage) → is_answer q (message.Plain m) ≡ false → AnsweredBy v (last_answer (ms ++ message.Plain m ∷ []) q)
  no_answer m e = subst (λ (c : CountsById). AnsweredBy v c) (sym (handed_more (is_answer q) false ms (message.Plain m) e)) a

  returns_one : (r : Return) (l : Option Ids) (b : Bool) → nat_eq q r.answer.0 ≡ b → ReturnsAll v (only b (session.Return (given (descriptors_of_body r.body)) l) ++ rest) w → AnsweredAfter q ms (plain.Return r) rest w
  returns_one r l false e h = (v, no_answer (plain.Return r) e, h)
  returns_one r l true e h = (
    h.0,
    subst (λ (c : CountsById). AnsweredBy h.0 c) (sym (handed_more (is_answer q) true ms (message.Plain (plain.Return r)) e)) (answers_one v h.0 (given (descriptors_of_body r.body)) l h.1),
    h.2,
  )

  answers_more : (m : PlainMessage) (l : Ids) → ReturnsAll v (ret_of q m l ++ rest) w → AnsweredAfter q ms m rest w
  answers_more (plain.Abort x) l h = (v, no_answer (plain.Abort x) refl, h)
  answers_more (plain.Bootstrap p) l h = (v, no_answer (plain.Bootstrap p) refl, h)
  answers_more (plain.Call c) l h = (v, no_answer (plain.Call c) refl, h)
  answers_more (plain.Return r) l h = returns_one r (if_flag r.release_param_caps l) (nat_eq q r.answer.0) refl h
  answers_more (plain.Finish f) l h = (v, no_answer (plain.Finish f) refl, h)
  answers_more (plain.Resolve r) l h = (v, no_answer (plain.Resolve r) refl, h)
  answers_more (plain.Release r) l h = (v, no_answer (plain.Release r) refl, h)
  answers_more (plain.Disembargo d) l h = (v, no_answer (plain.Disembargo d) refl, h)
  answers_more (plain.Other n) l h = (v, no_answer (plain.Other n) refl, h)

pub answered_on : (q : ℕ) (w v : Answerer Ids Ids) (ns : List Noted) (ms : List Message) → AnsweredBy v (last_answer ms q) → ReturnsAll v (rets q ns) w → AnsweredBy w (last_answer (ms ++ messages ns) q)
answered_on q w v [] ms a h = subst (λ (l : List Message). AnsweredBy w (last_answer l q)) (sym (append-nil ms)) (subst (λ (y : Answerer Ids Ids). AnsweredBy y (last_answer ms q)) h a)
answered_on q w v (n ∷ ns) ms a h =
    let k = answers_more q w (rets q ns) v ms a n.message n.lets h in
    subst (λ (l : List Message). AnsweredBy w (last_answer l q)) (append_assoc ms (message.Plain n.message ∷ []) (messages ns))
    (answered_on q w k.0 ns (ms ++ message.Plain n.message ∷ []) k.1 k.2)

-- ---- What a true flag releases, by what the other had said

pub count_each : (e : ℕ) (ids : Ids) → count_of e (one_each ids) ≡ how_many (nat_eq e) ids
count_each e [] = refl
count_each e (k ∷ ids) = by (nat_eq e k) (count_each e ids)
  where
    by : (b : Bool) → count_of e (one_each ids) ≡ how_many (nat_eq e) ids → cond b 1 0 + count_of e (one_each ids) ≡ cond b (suc (how_many (nat_eq e) ids)) (how_many (nat_eq e) ids)
    by true k = omega (arith, k)
    by false k = omega (arith, k)

-- The message is as its receiver's tables say, whose messages these were.
abbrev pub LetsSo : List Message → PlainMessage → Ids → Type 0
LetsSo ms m l = (e : ℕ) → count_of e (released_after ms (message.Plain m)) ≡ lets_of e m l

returns_let : (u w : Answerer Ids Ids) (y l : Ids) (c : CountsById) → WorksOn u c → Returns u (session.Return y (Some l)) w → c ≡ one_each l
returns_let u w y l c h (Answers x z k j) = h ∙ ap one_each (sym j)
returns_let u w y l c h (Cancels x z k j) = h ∙ ap one_each (sym j)

fins_let : (v w : Asker Ids Ids) (l : Ids) (c : CountsById) → HasBack v c → Sends v (session.Fin (Some l)) w → c ≡ one_each l
fins_let v w l c h (IsDone y k j) = h ∙ ap one_each (sym j)

works_one : (u w : Answerer Ids Ids) (m : Ret Ids Ids) (c : CountsById) → Returns u m w → WorksOn w c
works_one u w m c (Answers x y l j) = tt
works_one u w m c (Cancels x y l j) = tt

back_one : (v w : Asker Ids Ids) (m : Out Ids Ids) (c : CountsById) → Sends v m w → HasBack w c
back_one v w m c (Asks x) = tt
back_one v w m c (GivesUp x) = tt
back_one v w m c (IsDone y l j) = tt

-- What is still to be returned, and to be sent.
abbrev ToReturn : List Message → List Noted → Type 0
ToReturn ms ns = (q : ℕ) → (u : Answerer Ids Ids) × (w : Answerer Ids Ids) × WorksOn u (last_question ms q) × ReturnsAll u (rets q ns) w

abbrev ToSend : List Message → List Noted → Type 0
ToSend ms ns = (q : ℕ) → (v : Asker Ids Ids) × (w : Asker Ids Ids) × HasBack v (last_answer ms q) × SendsAll v (outs q ns) w

returns_rest : (u w : Answerer Ids Ids) (c : CountsById) (xs ys : List (Ret Ids Ids)) → WorksOn u c → ReturnsAll u (xs ++ ys) w → (t : Answerer Ids Ids) × WorksOn t c × ReturnsAll t ys w
returns_rest u w c [] ys h k = (u, h, k)
returns_rest u w c (x ∷ xs) ys h k = returns_rest k.0 w c xs ys (works_one u k.0 x c k.1) k.2

sends_rest : (v w : Asker Ids Ids) (c : CountsById) (xs ys : List (Out Ids Ids)) → HasBack v c → SendsAll v (xs ++ ys) w → (t : Asker Ids Ids) × HasBack t c × SendsAll t ys w
sends_rest v w c [] ys h k = (v, h, k)
sends_rest v w c (x ∷ xs) ys h k = sends_rest k.0 w c xs ys (back_one v k.0 x c k.1) k.2

return_flag : (e : ℕ) (u w : Answerer Ids Ids) (y l : Ids) (rest : List (Ret Ids Ids)) (c : CountsById) → WorksOn u c → (b : Bool) → ReturnsAll u (session.Return y (if_flag b l) ∷ rest) w → count_of e (cond b c []) ≡ how_many (nat_eq e) (if_true b l)
return_flag e u w y l rest c k false h = refl
return_flag e u w y l rest c k true h = ap (count_of e) (returns_let u h.0 y l c k h.1) ∙ count_each e l

fin_flag : (e : ℕ) (v w : Asker Ids Ids) (l : Ids) (rest : List (Out Ids Ids)) (c : CountsById) → HasBack v c → (b : Bool) → SendsAll v (session.Fin (if_flag b l) ∷ rest) w → count_of e (cond b c []) ≡ how_many (nat_eq e) (if_true b l)
fin_flag e v w l rest c k false h = refl
fin_flag e v w l rest c k true h = ap (count_of e) (fins_let v h.0 l c k h.1) ∙ count_each e l

return_lets : (ms : List Message) (r : Return) (l : Ids) (ns : List Noted) → ToReturn ms (record { message = plain.Return r; lets = l } ∷ ns) → LetsSo ms (plain.Return r) l
return_lets ms r l ns t e =
    let q = r.answer.0 in
    let k = t q in
    return_flag e k.0 k.1 (given (descriptors_of_body r.body)) l (rets q ns) (last_question ms q) k.2 r.release_param_caps
    (subst (λ (b : Bool). ReturnsAll k.0 (only b (session.Return (given (descriptors_of_body r.body)) (if_flag r.release_param_caps l)) ++ rets q ns) k.1) (itself q) k.3)

finish_lets : (ms : List Message) (f : Finish) (l : Ids) (ns : List Noted) → ToSend ms (record { message = plain.Finish f; lets = l } ∷ ns) → LetsSo ms (plain.Finish f) l
finish_lets ms f l ns t e =
    let q = f.question.0 in
    let k = t q in
    fin_flag e k.0 k.1 l (outs q ns) (last_answer ms q) k.2 f.release_result_caps
    (subst (λ (b : Bool). SendsAll k.0 (only b (session.Fin (if_flag f.release_result_caps l)) ++ outs q ns) k.1) (itself q) k.3)

one_lets : (ms : List Message) (m : PlainMessage) (l : Ids) (ns : List Noted) → ToReturn ms (record { message = m; lets = l } ∷ ns) → ToSend ms (record { message = m; lets = l } ∷ ns) → LetsSo ms m l
one_lets ms (plain.Return r) l ns t s = return_lets ms r l ns t
one_lets ms (plain.Finish f) l ns t s = finish_lets ms f l ns s
one_lets ms (plain.Release r) l ns t s = λ e. omega arith
one_lets ms (plain.Abort x) l ns t s = λ e. refl
one_lets ms (plain.Bootstrap p) l ns t s = λ e. refl
one_lets ms (plain.Call c) l ns t s = λ e. refl
one_lets ms (plain.Resolve r) l ns t s = λ e. refl
one_lets ms (plain.Disembargo d) l ns t s = λ e. refl
one_lets ms (plain.Other n) l ns t s = λ e. refl

abbrev pub AllLetSo : List Message → List Noted → Type 0
AllLetSo ms [] = Unit {0}
AllLetSo ms (n ∷ ns) = LetsSo ms n.message n.lets × AllLetSo ms ns

pub all_let : (ms : List Message) (ns : List Noted) → ToReturn ms ns → ToSend ms ns → AllLetSo ms ns
all_let ms [] t s = tt
all_let ms (n ∷ ns) t s = (
  one_lets ms n.message n.lets ns t s,
  all_let ms ns
      (λ q. let k = t q in let r = returns_rest k.0 k.1 (last_question ms q) (ret_of q n.message n.lets) (rets q ns) k.2 k.3 in (r.0, k.1, r.1, r.2))
      (λ q. let k = s q in let r = sends_rest k.0 k.1 (last_answer ms q) (out_of q n.message n.lets) (outs q ns) k.2 k.3 in (r.0, k.1, r.1, r.2)),
)

-- ---- A vat's tables, and what it said

abbrev pub AskedSaid : State → List Message → Type 0
AskedSaid s ms = (q : ℕ) → AskedBy (asker_of (map.get s.questions q)) (last_question ms q)

abbrev pub AnsweredSaid : State → List Message → Type 0
AnsweredSaid s ms = (q : ℕ) → AnsweredBy (answerer_of (map.get s.answers q)) (last_answer ms q)

pub asked_moved : (s t : State) (sent : List Noted) (ms : List Message) → AskedSaid s ms → Moves s sent t → AskedSaid t (ms ++ messages sent)
asked_moved s t sent ms a m q = asked_on q (asker_of (map.get t.questions q)) (asker_of (map.get s.questions q)) sent ms (a q) (m.asks q)

pub answered_moved : (s t : State) (sent : List Noted) (ms : List Message) → AnsweredSaid s ms → Moves s sent t → AnsweredSaid t (ms ++ messages sent)
answered_moved s t sent ms a m q = answered_on q (answerer_of (map.get t.answers q)) (answerer_of (map.get s.answers q)) sent ms (a q) (m.returns q)

pub asked_got : (s t : State) (m : PlainMessage) (ms : List Message) → AskedSaid s ms → Gets s m t → AskedSaid t ms
asked_got s t m ms a g q = subst (λ (v : Asker Ids Ids). AskedBy v (last_question ms q)) (sym (g.tells q [])) (told_all (asker_of (map.get s.questions q)) (ret_of q m []) (last_question ms q) (a q))

pub answered_got : (s t : State) (m : PlainMessage) (ms : List Message) → AnsweredSaid s ms → Gets s m t → AnsweredSaid t ms
answered_got s t m ms a g q = subst (λ (v : Answerer Ids Ids). AnsweredBy v (last_answer ms q)) (sym (g.hears q [])) (heard_all (answerer_of (map.get s.answers q)) (out_of q m []) (last_answer ms q) (a q))

-- What the step from mid sends is as the other's tables say, where the other's last words are as mid works on them.
pub moves_let : (mid new : State) (sent : List Noted) (ms : List Message) → ((q : ℕ) → WorksOn (answerer_of (map.get mid.answers q)) (last_question ms q)) → ((q : ℕ) → HasBack (asker_of (map.get mid.questions q)) (last_answer ms q)) → Moves mid sent new → AllLetSo ms sent
moves_let mid new sent ms works back m =
    all_let ms sent
    (λ q. (answerer_of (map.get mid.answers q), answerer_of (map.get new.answers q), works q, m.returns q))
    (λ q. (asker_of (map.get mid.questions q), asker_of (map.get new.questions q), back q, m.asks q))
