-- Where the target of a Disembargo leads: what a vat knew of it passed the point before.
use Rattle.std.proofs.Common.{◌≡◌, ◌⊎◌, inl, inr, ℕ, zero, suc, nat_eq, Bool, true, false, slice_get, List, [], ◌∷◌, ◌++◌, Option, None, Some, refl, sym, ap, subst, ◌∙◌}
use Rattle.std.specs.FinMap as map
use Rattle.rpc_msg.specs.Op.{Op}
use Rattle.rpc_msg.specs.CapAt.{CapAt}
use Rattle.rpc_msg.specs.CapAt.TheVariants as cap
use Rattle.rpc_msg.specs.Payloads.{tree_of}
use Rattle.rpc_msg.specs.Walking.{capability_at}
use Rattle.rpc_msg.specs.declared.ids.QuestionId.{QuestionId}
use Rattle.rpc_msg.specs.declared.parts.Descriptor.{Descriptor}
use Rattle.rpc_msg.specs.declared.parts.Descriptor.TheVariants as descriptor
use Rattle.rpc_msg.specs.declared.parts.Target.{Target}
use Rattle.rpc_msg.specs.declared.parts.Target.TheVariants.{ImportedCap, PromisedAnswer}
use Rattle.rpc_msg.specs.declared.message.PlainMessage.{PlainMessage}
use Rattle.rpc_msg.specs.declared.message.PlainMessage.TheVariants as plain
use Rattle.rpc_msg.specs.Messages.{given, descriptors_of_body}
use Rattle.finite_maps.proofs.Tested.{equal}
use Rattle.rpc_machine.specs.declared.node.Node.{Node}
use Rattle.rpc_machine.specs.declared.entries.Finishing.{Finishing}
use Rattle.rpc_machine.specs.declared.entries.Finishing.TheVariants as finishing
use Rattle.rpc_machine.specs.declared.entries.Resolution.{Resolution}
use Rattle.rpc_machine.specs.declared.entries.Resolution.TheVariants as resolution
use Rattle.rpc_machine.specs.declared.entries.Returned.{Returned}
use Rattle.rpc_machine.specs.declared.entries.Returned.TheVariants as back
use Rattle.rpc_machine.specs.declared.entries.Import.{Import}
use Rattle.rpc_machine.specs.declared.entries.Question.{Question}
use Rattle.rpc_machine.specs.State.{State}
use Rattle.rpc_machine.specs.Progress.{numbers}
use Rattle.rpc_machine.specs.Sweeping.{descriptors_said}
use Rattle.rpc_machine.specs.Advancing.{Leads, known_by, known_by_resolve, resolution_of, known_at, known_cap, known_by_return, returned_of}
use Rattle.look_books.specs.declared.question.Question.{Question as Entry}
use Rattle.look_books.specs.declared.question.Returned.{Returned as Reply}
use Rattle.look_books.specs.declared.question.Finished.{Finished}
use Rattle.look_books.specs.declared.question.Results.{Results}
use Rattle.look_books.specs.declared.question.Results.TheVariants as results
use Rattle.look_books.specs.Ends.{Kept}
use Rattle.look_books.specs.Checks.{is_named, is_capability, results_lead, answer_leads}
use Rattle.look_books.specs.After.{leads}
use Rattle.laws_acts.specs.Sent.{Ids, Noted, messages}
use Rattle.laws_runs.specs.Questions as session
use Rattle.laws_runs.specs.Questions.{Asker, Answerer, Out, Ret, Row, Returns, Sent, SentBehind, Held, Returning, tell_one}
use Rattle.laws_runs.specs.Views.{only, if_flag, asked_by, asker_of, out_of, ret_of, outs, rets, tell}
use Rattle.laws_look.proofs.Looks.{asker, answerer, asks_in, answers_in, early_in, back_in, unwanted_in, answered_in}
use Rattle.laws_look.proofs.Found.{RetFound}
use Rattle.laws_look.proofs.Passing.{results_said, said_by, said_of}
use Rattle.laws_look.proofs.Turning.{turn_in, IfTurn, NoTurns, OneTurn, IsKnown}
use Rattle.laws_look.proofs.Told.{Told, told_by, told_of, IsTold, resolved_by, resolved_of, Says}

-- ---- What is known leads

leads_by : (d : Descriptor) (m : Node) (by : Descriptor) (n : Node) → known_by d m ≡ Leads by n → leads d ≡ true
leads_by descriptor.None m by n e = cc
leads_by (descriptor.SenderHosted x) m by n e = refl
leads_by (descriptor.SenderPromise x) m by n e = refl
leads_by (descriptor.ReceiverHosted x) m by n e = refl
leads_by (descriptor.ReceiverAnswer q path) m by n e = refl

-- of an import, by its Resolve
pub import_known : (o : Option Import) (by : Descriptor) (n : Node) → known_by_resolve (resolution_of o) ≡ Leads by n → (d : Descriptor) × (resolved_of o ≡ Some d) × (leads d ≡ true)
import_known None by n e = cc
import_known (Some x) by n e = of x.resolution e
  where
    of : (r : Option Resolution) → known_by_resolve r ≡ Leads by n → (d : Descriptor) × (resolved_by r ≡ Some d) × (leads d ≡ true)
    of None e = cc
    of (Some (resolution.To d m)) e = (d, refl, leads_by d m by n e)
    of (Some (resolution.Exception x)) e = cc

named_by : (d : Descriptor) (m : Node) (by : Descriptor) (n : Node) → known_by d m ≡ Leads by n → is_named (Some d) ≡ true
named_by descriptor.None m by n e = cc
named_by (descriptor.SenderHosted x) m by n e = refl
named_by (descriptor.SenderPromise x) m by n e = refl
named_by (descriptor.ReceiverHosted x) m by n e = refl
named_by (descriptor.ReceiverAnswer q path) m by n e = refl

cap_known : (caps : List (Descriptor × Node)) (i : ℕ) (by : Descriptor) (n : Node) → known_at caps i ≡ Leads by n → is_named (slice_get (descriptors_said caps) i) ≡ true
cap_known [] i by n e = cc
cap_known (c ∷ cs) zero by n e = named_by c.0 c.1 by n e
cap_known (c ∷ cs) (suc i) by n e = cap_known cs i by n e

capability_known : (caps : List (Descriptor × Node)) (c : CapAt) (by : Descriptor) (n : Node) → known_cap caps c ≡ Leads by n → is_capability c (descriptors_said caps) ≡ true
capability_known caps (cap.Cap i) by n e = cap_known caps i by n e
capability_known caps cap.Null by n e = cc
capability_known caps cap.NotCap by n e = cc

-- of an answer, by its Return
pub answer_known : (o : Option Question) (path : List Op) (by : Descriptor) (n : Node) → known_by_return path (returned_of o) ≡ Leads by n → (z : Told) × (told_of o ≡ Some z) × (is_capability (capability_at (tree_of z.0) path) z.1 ≡ true)
answer_known None path by n e = cc
answer_known (Some x) path by n e = of x.returned e
  where
    of : (r : Option Returned) → known_by_return path r ≡ Leads by n → (z : Told) × (told_by r ≡ Some z) × (is_capability (capability_at (tree_of z.0) path) z.1 ≡ true)
    of None e = cc
    of (Some (back.Results p caps)) e = ((p, descriptors_said caps), refl, capability_known caps (capability_at (tree_of p) path) by n e)
    of (Some (back.Exception x)) e = cc

-- ---- What the books keep leads

pub said_leads : (o : Option Entry) (path : List Op) (z : Told) → said_of o ≡ Some z → is_capability (capability_at (tree_of z.0) path) z.1 ≡ true → answer_leads o path ≡ true
said_leads None path z e h = cc
said_leads (Some x) path z e h = of x.returned e
  where
    results_so : (r : Results) → results_said r ≡ Some z → results_lead r path ≡ true
    results_so results.None e = cc
    results_so results.Taken e = refl
    results_so (results.Own p ds) e =
        let is : (p, ds) ≡ z = cc in
        ap (λ (y : Told). is_capability (capability_at (tree_of y.0) path) y.1) is ∙ h

    of : (r : Option Reply) → said_by r ≡ Some z → answer_leads (Some (record x { returned = r })) path ≡ true
    of None e = cc
    of (Some r) e = results_so r.results e

-- A question that waits leads nowhere.
pub waiting_leads : (o : Option Entry) (m : Ret Ids Ids) (path : List Op) → RetFound (asker o) m → answer_leads o path ≡ false
waiting_leads None m path h = absurd h
waiting_leads (Some x) m path h = of x.returned x.finished x.waived h
  where
    not_back : (g : Ids) (b : Bool) → RetFound (back_in g b) m → ⊥
    not_back g false h = h
    not_back g true h = h

    of : (r : Option Reply) (f : Option Finished) (w : Bool) → RetFound (asks_in (numbers x.gives) r f w) m → answer_leads (Some (record x { returned = r; finished = f; waived = w })) path ≡ false
    of None f w h = refl
    of (Some r) None w h = absurd (not_back (numbers r.gives) r.waived h)
    of (Some r) (Some f) w h = absurd h

-- One that is at work was asked, and is not finished.
pub working_asked : (o : Option Entry) (ids : Ids) → answerer o ≡ session.Working ids → asker o ≡ session.Asked ids
working_asked None ids e = cc
working_asked (Some x) ids e = of x.returned x.finished x.waived e
  where
    unwanted : (g : Ids) (b w : Bool) → unwanted_in g b w ≡ session.Working ids → early_in g b w ≡ session.Asked ids
    unwanted g false false e = cc
    unwanted g false true e = cc
    unwanted g true w e = cc

    answered : (g : Ids) (b : Bool) → answered_in g b ≡ session.Working ids → back_in g b ≡ session.Asked ids
    answered g false e = cc
    answered g true e = cc

    of : (r : Option Reply) (f : Option Finished) (w : Bool) → answers_in (numbers x.gives) r f w ≡ session.Working ids → asks_in (numbers x.gives) r f w ≡ session.Asked ids
    of None None false e = let is : numbers x.gives ≡ ids = cc in ap session.Asked is
    of None None true e = cc
    of None (Some f) w e = unwanted (numbers x.gives) f.flag w e
    of (Some r) None w e = answered (numbers r.gives) r.waived e
    of (Some r) (Some f) w e = cc

-- ---- Lists of messages

-- What Returns tell of a question, the books keep.
abbrev pub AllTold : ℕ → Option Entry → List Noted → Type 0
AllTold q o [] = Unit {0}
AllTold q o (n ∷ ns) = ((z : Told) → IsTold n.message q z → said_of o ≡ Some z) × AllTold q o ns

-- What Resolves lead to a capability, the books have led.
abbrev pub AllLed : Kept → List Noted → Type 0
AllLed k [] = Unit {0}
AllLed k (n ∷ ns) = ((e : ℕ) (z : Descriptor) → Says n.message e z → leads z ≡ true → k.led e ≡ true) × AllLed k ns

abbrev pub ToImport : Kept → Option Target → Type 0
ToImport k None = Unit {0}
ToImport k (Some (ImportedCap x)) = k.led x.0 ≡ true
ToImport k (Some (PromisedAnswer q path)) = Unit {0}

-- Each import that a Disembargo turns was led.
abbrev pub AllTurn : Kept → List Noted → Type 0
AllTurn k [] = Unit {0}
AllTurn k (n ∷ ns) = ToImport k (turn_in n.message) × AllTurn k ns

abbrev pub ToAnswer : ℕ → Option Entry → Option Target → Type 0
ToAnswer q o None = Unit {0}
ToAnswer q o (Some (ImportedCap x)) = Unit {0}
ToAnswer q o (Some (PromisedAnswer k path)) = nat_eq q k.0 ≡ true → answer_leads o path ≡ true

abbrev pub NotTo : ℕ → Option Target → Type 0
NotTo q None = Unit {0}
NotTo q (Some (ImportedCap x)) = Unit {0}
NotTo q (Some (PromisedAnswer k path)) = nat_eq q k.0 ≡ false

abbrev pub NoneTo : ℕ → List Noted → Type 0
NoneTo q [] = Unit {0}
NoneTo q (n ∷ ns) = NotTo q (turn_in n.message) × NoneTo q ns

abbrev pub Rest : List (Out Ids Ids) → Type 0 → Type 0 → Type 0
Rest [] A B = A
Rest (m ∷ ms) A B = B

-- Each answer of that question that a Disembargo turns leads, up to the next message of its session; behind that none is turned.
abbrev pub Block : ℕ → Option Entry → List Noted → Type 0
Block q o [] = Unit {0}
Block q o (n ∷ ns) = ToAnswer q o (turn_in n.message) × Rest (out_of q n.message n.lets) (Block q o ns) (NoneTo q ns)

pub none_then : (q : ℕ) (xs ys : List Noted) → NoneTo q xs → NoneTo q ys → NoneTo q (xs ++ ys)
none_then q [] ys h g = g
none_then q (x ∷ xs) ys h g = (h.0, none_then q xs ys h.1 g)

not_answer : (q : ℕ) (o : Option Entry) (t : Option Target) → NotTo q t → ToAnswer q o t
not_answer q o None h = tt
not_answer q o (Some (ImportedCap x)) h = tt
not_answer q o (Some (PromisedAnswer k path)) h = λ e. absurd (let bad : true ≡ false = sym e ∙ h in cc)

rest_of : (ms : List (Out Ids Ids)) (A B : Type 0) → A → B → Rest ms A B
rest_of [] A B a b = a
rest_of (m ∷ ms) A B a b = b

rest_both : (ms : List (Out Ids Ids)) (A B C D : Type 0) → (A → C) → (B → D) → Rest ms A B → Rest ms C D
rest_both [] A B C D f g h = f h
rest_both (m ∷ ms) A B C D f g h = g h

pub block_of_none : (q : ℕ) (o : Option Entry) (ns : List Noted) → NoneTo q ns → Block q o ns
block_of_none q o [] h = tt
block_of_none q o (n ∷ ns) h = (not_answer q o (turn_in n.message) h.0, rest_of (out_of q n.message n.lets) (Block q o ns) (NoneTo q ns) (block_of_none q o ns h.1) h.1)

pub block_then : (q : ℕ) (o : Option Entry) (xs ys : List Noted) → Block q o xs → NoneTo q ys → Block q o (xs ++ ys)
block_then q o [] ys h g = block_of_none q o ys g
block_then q o (x ∷ xs) ys h g = (h.0, rest_both (out_of q x.message x.lets) (Block q o xs) (NoneTo q xs) (Block q o (xs ++ ys)) (NoneTo q (xs ++ ys)) (λ k. block_then q o xs ys k g) (λ k. none_then q xs ys k g) h.1)

-- where no message of the session is on the way
end_by : (ms os : List (Out Ids Ids)) (A B C D : Type 0) → ms ++ os ≡ [] → (os ≡ [] → A → C) → Rest ms A B → Rest ms C D
end_by [] os A B C D e f h = f e h
end_by (m ∷ ms) os A B C D e f h = absurd (let bad : m ∷ (ms ++ os) ≡ [] = e in cc)

pub block_end : (q : ℕ) (o : Option Entry) (xs ys : List Noted) → outs q xs ≡ [] → Block q o xs → Block q o ys → Block q o (xs ++ ys)
block_end q o [] ys e h g = g
block_end q o (x ∷ xs) ys e h g = (h.0, end_by (out_of q x.message x.lets) (outs q xs) (Block q o xs) (NoneTo q xs) (Block q o (xs ++ ys)) (NoneTo q (xs ++ ys)) e (λ f k. block_end q o xs ys f k g) h.1)

-- Nothing that leads nowhere is turned.
waiting_one : (q : ℕ) (o p : Option Entry) → ((path : List Op) → answer_leads o path ≡ false) → (t : Option Target) → ToAnswer q o t → ToAnswer q p t
waiting_one q o p f None h = tt
waiting_one q o p f (Some (ImportedCap x)) h = tt
waiting_one q o p f (Some (PromisedAnswer k path)) h = λ e. absurd (let bad : false ≡ true = sym (f path) ∙ h e in cc)

pub block_waiting : (q : ℕ) (o p : Option Entry) (ns : List Noted) → ((path : List Op) → answer_leads o path ≡ false) → Block q o ns → Block q p ns
block_waiting q o p [] f h = tt
block_waiting q o p (n ∷ ns) f h = (waiting_one q o p f (turn_in n.message) h.0, rest_both (out_of q n.message n.lets) (Block q o ns) (NoneTo q ns) (Block q p ns) (NoneTo q ns) (λ k. block_waiting q o p ns f k) (λ k. k) h.1)

-- Once the first one passed, and the entry is as it was where that was of no session.
pub block_rest : (q : ℕ) (o p : Option Entry) (n : Noted) (ns : List Noted) → (out_of q n.message n.lets ≡ [] → p ≡ o) → Block q o (n ∷ ns) → Block q p ns
block_rest q o p n ns f h = by (out_of q n.message n.lets) f h.1
  where
    by : (ms : List (Out Ids Ids)) → (ms ≡ [] → p ≡ o) → Rest ms (Block q o ns) (NoneTo q ns) → Block q p ns
    by [] f k = subst (λ (x : Option Entry). Block q x ns) (sym (f refl)) k
    by (m ∷ ms) f k = block_of_none q p ns k

-- ---- Others

pub led_then : (k : Kept) (xs ys : List Noted) → AllLed k xs → AllLed k ys → AllLed k (xs ++ ys)
led_then k [] ys h g = g
led_then k (x ∷ xs) ys h g = (h.0, led_then k xs ys h.1 g)

pub led_more : (k l : Kept) (xs : List Noted) → ((e : ℕ) → k.led e ≡ true → l.led e ≡ true) → AllLed k xs → AllLed l xs
led_more k l [] f h = tt
led_more k l (x ∷ xs) f h = ((λ e z s i. f e (h.0 e z s i)), led_more k l xs f h.1)

pub turn_more : (k l : Kept) (xs : List Noted) → ((e : ℕ) → k.led e ≡ true → l.led e ≡ true) → AllTurn k xs → AllTurn l xs
turn_more k l [] f h = tt
turn_more k l (x ∷ xs) f h = (one (turn_in x.message) h.0, turn_more k l xs f h.1)
  where
    one : (t : Option Target) → ToImport k t → ToImport l t
    one None h = tt
    one (Some (ImportedCap e)) h = f e.0 h
    one (Some (PromisedAnswer q path)) h = tt

pub turn_then : (k : Kept) (xs ys : List Noted) → AllTurn k xs → AllTurn k ys → AllTurn k (xs ++ ys)
turn_then k [] ys h g = g
turn_then k (x ∷ xs) ys h g = (h.0, turn_then k xs ys h.1 g)

pub told_then : (q : ℕ) (o : Option Entry) (xs ys : List Noted) → AllTold q o xs → AllTold q o ys → AllTold q o (xs ++ ys)
told_then q o [] ys h g = g
told_then q o (x ∷ xs) ys h g = (h.0, told_then q o xs ys h.1 g)

-- One that tells is a Return of the session.
pub tells_return : (q : ℕ) (m : PlainMessage) (l : Ids) (z : Told) → IsTold m q z → ret_of q m l ≡ [] → ⊥
tells_return q (plain.Return r) l z h e = let bad = subst (λ (b : Bool). only b (session.Return (given (descriptors_of_body r.body)) (if_flag r.release_param_caps l)) ≡ []) h.0 e in cc
tells_return q (plain.Abort x) l z h e = h
tells_return q (plain.Bootstrap k) l z h e = h
tells_return q (plain.Call c) l z h e = h
tells_return q (plain.Finish f) l z h e = h
tells_return q (plain.Resolve r) l z h e = h
tells_return q (plain.Release r) l z h e = h
tells_return q (plain.Disembargo d) l z h e = h
tells_return q (plain.Other n) l z h e = h

-- Where no Return of the session is on the way.
told_by_rest : (q : ℕ) (o : Option Entry) (n : Noted) (ns : List Noted) (ms : List (Ret Ids Ids)) → ret_of q n.message n.lets ≡ ms → ms ++ rets q ns ≡ [] → (rets q ns ≡ [] → AllTold q o ns) → ((z : Told) → IsTold n.message q z → said_of o ≡ Some z) × AllTold q o ns
told_by_rest q o n ns [] f g h = ((λ z i. absurd (tells_return q n.message n.lets z i f)), h g)
told_by_rest q o n ns (m ∷ ms) f g h = absurd (let bad : m ∷ (ms ++ rets q ns) ≡ [] = g in cc)

pub none_told : (q : ℕ) (o : Option Entry) (ns : List Noted) → rets q ns ≡ [] → AllTold q o ns
none_told q o [] e = tt
none_told q o (n ∷ ns) e = told_by_rest q o n ns (ret_of q n.message n.lets) refl e (λ f. none_told q o ns f)

-- ---- Rows

-- Behind what is told nothing of the session is on the way.
pub asked_row : (ids : Ids) (out : List (Out Ids Ids)) (u : Answerer Ids Ids) (back : List (Ret Ids Ids)) → Row (session.Asked ids) out u back → (out ≡ []) ⊎ (back ≡ [])
asked_row ids out u back (Sent x) = inr refl
asked_row ids out u back (SentBehind y l x j) = inr refl
asked_row ids out u back (Held x) = inr refl
asked_row ids out u back (Returning x y l j) = inl refl

-- One that was told.
abbrev pub WasTold : Asker Ids Ids → Type 0
WasTold session.NotAsked = ⊥
WasTold (session.Asked x) = ⊥
WasTold (session.Back y) = Unit {0}
WasTold (session.Early x) = ⊥
WasTold session.Odd = Unit {0}

pub was_told : (o : Option Question) (z : Told) → told_of o ≡ Some z → WasTold (asker_of o)
was_told None z e = cc
was_told (Some x) z e = of x.finish x.returned e
  where
    of : (f : Finishing) (r : Option Returned) → told_by r ≡ Some z → WasTold (asked_by (numbers x.given) f r)
    of f None e = cc
    of finishing.Owed (Some r) e = tt
    of finishing.Sent (Some r) e = tt
    of finishing.Waived (Some r) e = tt

pub told_row : (v : Asker Ids Ids) (out : List (Out Ids Ids)) (u : Answerer Ids Ids) (back : List (Ret Ids Ids)) → Row v out u back → WasTold v → out ≡ []
told_row v out u back session.Idle h = absurd h
told_row v out u back (session.Closing y l j) h = absurd h
told_row v out u back (Sent x) h = absurd h
told_row v out u back (SentBehind y l x j) h = absurd h
told_row v out u back (Held x) h = absurd h
told_row v out u back (Returning x y l j) h = absurd h
told_row v out u back (session.Returned y) h = refl
told_row v out u back (session.EarlySent x) h = absurd h
told_row v out u back (session.EarlyBehind y l x j) h = absurd h
told_row v out u back (session.EarlyHeld x) h = absurd h
told_row v out u back (session.EarlyCrossed x y l j) h = absurd h
told_row v out u back (session.EarlyWaits x) h = absurd h
told_row v out u back (session.EarlyReturning x y l j) h = absurd h

-- One that was told is not answered again; one that asks is at work.
pub told_no_return : (v : Asker Ids Ids) (out : List (Out Ids Ids)) (u w : Answerer Ids Ids) (back : List (Ret Ids Ids)) (m : Ret Ids Ids) → Row v out u back → WasTold v → Returns u m w → ⊥
told_no_return v out u w back m (session.Returned y) h r = elim r [ ]
told_no_return v out u w back m session.Idle h r = h
told_no_return v out u w back m (session.Closing y l j) h r = h
told_no_return v out u w back m (Sent x) h r = h
told_no_return v out u w back m (SentBehind y l x j) h r = h
told_no_return v out u w back m (Held x) h r = h
told_no_return v out u w back m (Returning x y l j) h r = h
told_no_return v out u w back m (session.EarlySent x) h r = h
told_no_return v out u w back m (session.EarlyBehind y l x j) h r = h
told_no_return v out u w back m (session.EarlyHeld x) h r = h
told_no_return v out u w back m (session.EarlyCrossed x y l j) h r = h
told_no_return v out u w back m (session.EarlyWaits x) h r = h
told_no_return v out u w back m (session.EarlyReturning x y l j) h r = h

pub asked_works : (ids : Ids) (out : List (Out Ids Ids)) (u w : Answerer Ids Ids) (back : List (Ret Ids Ids)) (m : Ret Ids Ids) → Row (session.Asked ids) out u back → Returns u m w → (back ≡ []) × (u ≡ session.Working ids)
asked_works ids out u w back m (Held x) r = (refl, refl)
asked_works ids out u w back m (Sent x) r = elim r [ ]
asked_works ids out u w back m (SentBehind y l x j) r = elim r [ ]
asked_works ids out u w back m (Returning x y l j) r = elim r [ ]

-- One that still waits was not told in between.
pub tell_asked : (ids : Ids) (v : Asker Ids Ids) (ms : List (Ret Ids Ids)) → tell v ms ≡ session.Asked ids → v ≡ session.Asked ids
tell_asked ids v [] e = e
tell_asked ids v (m ∷ ms) e = absurd (never v m (tell_asked ids (tell_one v m) ms e))
  where
    never : (v : Asker Ids Ids) (m : Ret Ids Ids) → tell_one v m ≡ session.Asked ids → ⊥
    never session.NotAsked (session.Return y l) e = cc
    never (session.Asked x) (session.Return y l) e = cc
    never (session.Back x) (session.Return y l) e = cc
    never (session.Early x) (session.Return y l) e = cc
    never session.Odd (session.Return y l) e = cc

-- ---- What a step sends

none_to : (q : ℕ) (ns : List Noted) → NoTurns (messages ns) → NoneTo q ns
none_to q [] h = tt
none_to q (n ∷ ns) h = (subst (NotTo q) (sym h.0) tt, none_to q ns h.1)

pub no_import : (k : Kept) (ns : List Noted) → NoTurns (messages ns) → AllTurn k ns
no_import k [] h = tt
no_import k (n ∷ ns) h = (subst (ToImport k) (sym h.0) tt, no_import k ns h.1)

pub block_quiet : (q : ℕ) (o : Option Entry) (xs ys : List Noted) → Block q o xs → NoTurns (messages ys) → Block q o (xs ++ ys)
block_quiet q o xs ys h g = block_then q o xs ys h (none_to q ys g)

-- It turns what it knows to lead on.
module _ (s : State) where
  pub sent_turns : (k : Kept) (ns : List Noted) → ((e : ℕ) (z : Descriptor) → resolved_of (map.get s.imports e) ≡ Some z → leads z ≡ true → k.led e ≡ true) → OneTurn (IsKnown s) (messages ns) → AllTurn k ns
  sent_turns k [] f h = tt
  sent_turns k (n ∷ ns) f h = (one (turn_in n.message) h.0, no_import k ns h.1)
    where
      one : (t : Option Target) → IfTurn (IsKnown s) t → ToImport k t
      one None h = tt
      one (Some (ImportedCap x)) h = let d = import_known (map.get s.imports x.0) h.0 h.1 h.2 in f x.0 d.0 d.1 d.2
      one (Some (PromisedAnswer q path)) h = tt

  pub sent_answers : (q : ℕ) (o : Option Entry) (far ns : List Noted) → Block q o far → ((z : Told) → told_of (map.get s.questions q) ≡ Some z → (said_of o ≡ Some z) × (outs q far ≡ [])) → OneTurn (IsKnown s) (messages ns) → Block q o (far ++ ns)
  sent_answers q o far [] b f h = block_then q o far [] b tt
  sent_answers q o far (n ∷ ns) b f h = one (turn_in n.message) refl h.0
    where
      rest : NoneTo q ns
      rest = none_to q ns h.1

      no_one : NotTo q (turn_in n.message) → Block q o (far ++ n ∷ ns)
      no_one g = block_then q o far (n ∷ ns) b (g, rest)

      answer : (k : QuestionId) (path : List Op) → turn_in n.message ≡ Some (PromisedAnswer k path) → IsKnown s (PromisedAnswer k path) → (c : Bool) → nat_eq q k.0 ≡ c → Block q o (far ++ n ∷ ns)
      answer k path e g false c = no_one (subst (NotTo q) (sym e) c)
      answer k path e g true c =
          let z = answer_known (map.get s.questions k.0) path g.0 g.1 g.2 in
          let is = equal q k.0 c in
          let w = f z.0 (ap (λ (j : ℕ). told_of (map.get s.questions j)) is ∙ z.1) in
          block_end q o far (n ∷ ns) w.1 b
          (subst (ToAnswer q o) (sym e) (λ i. said_leads o path z.0 w.0 z.2), rest_of (out_of q n.message n.lets) (Block q o ns) (NoneTo q ns) (block_of_none q o ns rest) rest)

      one : (t : Option Target) → turn_in n.message ≡ t → IfTurn (IsKnown s) t → Block q o (far ++ n ∷ ns)
      one None e g = no_one (subst (NotTo q) (sym e) tt)
      one (Some (ImportedCap x)) e g = no_one (subst (NotTo q) (sym e) tt)
      one (Some (PromisedAnswer k path)) e g = answer k path e g (nat_eq q k.0) refl
