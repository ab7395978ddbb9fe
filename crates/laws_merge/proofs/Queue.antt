-- What is on its way to one side, in a queue q, and what comes next there.
use Rattle.std.proofs.Common.{◌≡◌, ℕ, suc, ◌+◌, ◌<◌, ◌≤◌, true, false, List, [], ◌∷◌, ◌++◌, length, refl, sym, ap, subst, ◌⊎◌, inl, inr, arith}
use Rattle.std.proofs.lemmas.Bool.Decides.{nat_tests}
use Rattle.laws_merge.specs.Machine.{Side, Takes}
use Rattle.laws_merge.specs.Logs.{Frame, messages, Cause, Commanded, WasShut, Received, input_of, got, counted, number_of, Entry, made_by, Numbered, NumberedLate, Lawful, LawfulLate, AckWithin}
use Rattle.laws_merge.specs.Merge.{ready}

-- What comes next can happen: it is a command, a shut, or a frame that is on its way.
abbrev pub Served : {C I : Type 0} → Cause C I → List (Frame I) → Type 0
Served (Commanded c) q = Unit {0}
Served WasShut q = Unit {0}
Served (Received f) [] = ⊥
Served (Received f) (g ∷ q) = Unit {0}

-- messages go with append
pub messages-append : {M : Type 0} (fs gs : List (Frame M)) → messages (fs ++ gs) ≡ messages fs ++ messages gs
messages-append [] gs = refl
messages-append (f ∷ fs) gs = ap (λ z. f.message ∷ z) (messages-append fs gs)

-- What comes next is taken from the queue, where it can happen: the received frames (c's and then fs) are those on
-- their way and then those to be made (ms), and stay so; the counts of both sides go on to agree.
pub served_takes : {C I : Type 0} (c : Cause C I) (fs q ms : List (Frame I)) (r : ℕ) → got c ++ fs ≡ q ++ ms → Served c q → (left : List (Frame I)) × Takes (input_of c) (messages q) (messages left) × (fs ≡ left ++ ms) × (r + length q ≡ counted r c + length left)
served_takes (Commanded c) fs q ms r e s = (q, refl, e, refl)
served_takes WasShut fs q ms r e s = (q, refl, e, refl)
served_takes (Received f) fs [] ms r e s = absurd s
served_takes (Received f) fs (g ∷ q) ms r e s =
    let d : f ∷ fs ≡ g ∷ (q ++ ms) = e in
    let same : g ≡ f = cc in
    (q, ap (λ z. z.message ∷ messages q) same, cc, omega arith)

-- where the other side makes no more, what comes next is on its way
pub served_last : {C I : Type 0} (c : Cause C I) (fs q : List (Frame I)) → got c ++ fs ≡ q ++ [] → Served c q
served_last (Commanded c) fs q e = tt
served_last WasShut fs q e = tt
served_last (Received f) fs [] e = let d : f ∷ fs ≡ [] = e in absurd (cc)
served_last (Received f) fs (g ∷ q) e = tt

-- a queue that is not empty serves
pub served_some : {C I : Type 0} (c : Cause C I) (q : List (Frame I)) → 0 < length q → Served c q
served_some (Commanded c) q h = tt
served_some WasShut q h = tt
served_some (Received f) [] h = absurd (omega arith)
served_some (Received f) (g ∷ q) h = tt

-- these frames have the numbers from n on
abbrev pub From : {M : Type 0} → ℕ → List (Frame M) → Type 0
From n [] = Unit {0}
From n (f ∷ fs) = (f.seq ≡ n) × From (suc n) fs

-- the received frames after this cause are numbered on
pub from_got : {C I : Type 0} (c : Cause C I) (fs : List (Frame I)) (r : ℕ) → From r (got c ++ fs) → From (counted r c) fs
from_got (Commanded c) fs r h = h
from_got WasShut fs r h = h
from_got (Received f) fs r h = h.1

-- a beginning of numbered frames is numbered
pub from_beginning : {M : Type 0} (n : ℕ) (fs gs : List (Frame M)) → From n (fs ++ gs) → From n fs
from_beginning n [] gs h = tt
from_beginning n (f ∷ fs) gs h = (h.0, from_beginning (suc n) fs gs h.1)

-- an entry's frames, and what is numbered after them
from_numbered : {M : Type 0} (n m r : ℕ) (fs gs : List (Frame M)) → NumberedLate n r fs → m ≡ n + length fs → From m gs → From n (fs ++ gs)
from_numbered n m r [] gs h e g = subst (λ z. From z gs) (let d : m ≡ n = omega arith in d) g
from_numbered n m r (f ∷ fs) gs h e g = (h.0, from_numbered (suc n) m r fs gs h.2 (omega arith) g)

-- an ack that is right isn't too low
late_numbered : {M : Type 0} (n r : ℕ) (fs : List (Frame M)) → Numbered n r fs → NumberedLate n r fs
late_numbered n r [] h = tt
late_numbered n r (f ∷ fs) h = let e : f.ack ≡ r = h.1 in (h.0, omega arith, late_numbered (suc n) r fs h.2)

-- so what holds of logs with late acks holds of lawful ones
pub late_lawful : {I O : Type 0} (S : Side I O) (log : List (Entry S)) (old new : S.State) (r k : ℕ) → Lawful S old r k log new → LawfulLate S old r k log new
late_lawful S [] old new r k l = l
late_lawful S (e ∷ es) old new r k l =
    (l.0, l.1, late_numbered k (counted r e.cause) e.made l.2, late_lawful S es l.0 new (counted r e.cause) (k + length e.made) l.3)

-- the frames that a log made are numbered in order
pub from_lawful : {I O : Type 0} (S : Side I O) (log : List (Entry S)) (old new : S.State) (r k : ℕ) → LawfulLate S old r k log new → From k (made_by log)
from_lawful S [] old new r k l = tt
from_lawful S (e ∷ es) old new r k l =
    from_numbered k (k + length e.made) (counted r e.cause) e.made (made_by es) l.2 refl (from_lawful S es l.0 new (counted r e.cause) (k + length e.made) l.3)

-- the test of the merge: the next frame has been made, so it is on its way
pub served_ready : {C I : Type 0} (c : Cause C I) (fs q : List (Frame I)) (r k : ℕ) → From r (got c ++ fs) → k ≡ r + length q → ready (number_of c) k ≡ true → Served c q
served_ready (Commanded c) fs q r k n e t = tt
served_ready WasShut fs q r k n e t = tt
served_ready {C} {I} (Received f) fs q r k n e t =
    let lt : f.seq < k = grind (arith, nat_tests) in
    let at : f.seq ≡ r = n.0 in
    served_some {C = C} (Received f) q (omega arith)

-- the count of received frames never falls
pub counted_grows : {C I : Type 0} (c : Cause C I) (r : ℕ) → r ≤ counted r c
counted_grows (Commanded c) r = omega arith
counted_grows WasShut r = omega arith
counted_grows (Received f) r = omega arith

-- the first of the frames is one that this entry made, or the first of what follows
first_ack : {M : Type 0} (n r : ℕ) (ms tail : List (Frame M)) → NumberedLate n r ms → (f : Frame M) (fs : List (Frame M)) → f ∷ fs ≡ ms ++ tail → (r ≤ f.ack) ⊎ (f ∷ fs ≡ tail)
first_ack n r [] tail h f fs e = inr e
first_ack n r (m ∷ ms) tail h f fs e =
    let d : f ∷ fs ≡ m ∷ (ms ++ tail) = e in
    let same : f ≡ m = cc in
    inl (subst (λ z. r ≤ z.ack) (sym same) h.1)

-- The next frame that a log makes, be it by its next entry e or a later one, acknowledges at least what the log
-- has received with e.
pub next_ack : {I O : Type 0} (S : Side I O) (e : Entry S) (es : List (Entry S)) (old new : S.State) (r k : ℕ) → LawfulLate S old r k (e ∷ es) new → (f : Frame O) (fs : List (Frame O)) → f ∷ fs ≡ made_by (e ∷ es) → counted r e.cause ≤ f.ack
next_ack S e [] old new r k l f fs h =
    elim (first_ack k (counted r e.cause) e.made [] l.2 f fs h) [ inl a ↦ omega arith | inr b ↦ absurd (cc) ]
next_ack S e (g ∷ es) old new r k l f fs h =
    let above = counted_grows g.cause (counted r e.cause) in
    elim (first_ack k (counted r e.cause) e.made (made_by (g ∷ es)) l.2 f fs h) [
      | inl a ↦ omega arith
      | inr b ↦ let later = next_ack S g es l.0 new (counted r e.cause) (k + length e.made) l.3 f fs b in omega arith
    ]

-- Where the test of the merge fails, what comes next is the frame that the other side makes next (the first of ms);
-- and if its ack was looked at, it is no more than l, what was made on this side.
pub waits_next : {C I : Type 0} (c : Cause C I) (fs rest q ms : List (Frame I)) (r k l : ℕ) → From r (got c ++ fs) → AckWithin l c → k ≡ r + length q → got c ++ rest ≡ q ++ ms → ready (number_of c) k ≡ false → (f : Frame I) × (gs : List (Frame I)) × (f ∷ gs ≡ ms) × (f.ack ≤ l)
waits_next (Commanded c) fs rest q ms r k l n a e h t = absurd (cc)
waits_next WasShut fs rest q ms r k l n a e h t = absurd (cc)
waits_next (Received f) fs rest [] ms r k l n a e h t = (f, rest, h, a)
waits_next (Received f) fs rest (g ∷ q) ms r k l n a e h t =
    let ge : k ≤ f.seq = grind (arith, nat_tests) in
    let at : f.seq ≡ r = n.0 in
    absurd (omega arith)

-- where one more received is no more than what was made, the next to come is on its way
pub served_counted : {C I : Type 0} (c : Cause C I) (q : List (Frame I)) (r : ℕ) → counted r c ≤ r + length q → Served c q
served_counted (Commanded c) q r h = tt
served_counted WasShut q r h = tt
served_counted {C} (Received f) q r h = served_some {C = C} (Received f) q (omega arith)

-- What comes next can happen, or is the frame that the other side makes next.
pub served_or_next : {C I : Type 0} (c : Cause C I) (fs q ms : List (Frame I)) (l : ℕ) → AckWithin l c → got c ++ fs ≡ q ++ ms → Served c q ⊎ ((f : Frame I) × (gs : List (Frame I)) × (f ∷ gs ≡ ms) × (f.ack ≤ l))
served_or_next (Commanded c) fs q ms l a e = inl tt
served_or_next WasShut fs q ms l a e = inl tt
served_or_next (Received f) fs [] ms l a e = inr (f, fs, e, a)
served_or_next (Received f) fs (g ∷ q) ms l a e = inl tt

-- Where the test of the merge fails, what comes next has not been made.
pub not_made : {C I : Type 0} (c : Cause C I) (fs : List (Frame I)) (r k : ℕ) → From r (got c ++ fs) → ready (number_of c) k ≡ false → counted r c ≤ k → ⊥
not_made (Commanded c) fs r k n t h = cc
not_made WasShut fs r k n t h = cc
not_made (Received f) fs r k n t h =
    let ge : k ≤ f.seq = grind (arith, nat_tests) in
    let at : f.seq ≡ r = n.0 in
    omega arith
