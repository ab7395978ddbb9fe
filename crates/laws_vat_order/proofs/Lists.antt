-- Calls in lists: which is in one, and which stands ahead.
use Rattle.std.proofs.Common.{◌≡◌, ◌≢◌, ◌⊎◌, inl, inr, ℕ, ◌<◌, false, nat_eq, List, [], ◌∷◌, ◌++◌, Option, None, Some, refl, ap, subst, ◌∙◌, arith}
use Rattle.std.specs.FinMap as map
use Rattle.finite_maps.specs.Tally.{Map, tally}
use Rattle.finite_maps.proofs.Tallies.{tally-within}
use Rattle.finite_maps.proofs.Tested.{itself, at_put, at_cut}
use Rattle.rpc_msg.specs.Op.{Op}
use Rattle.rpc_machine.specs.declared.node.Node.{Node}
use Rattle.rpc_machine.specs.declared.node.Node.TheVariants as node
use Rattle.rpc_machine.specs.declared.calls.WaitingCall.{WaitingCall}
use Rattle.rpc_machine.specs.declared.calls.HeldCall.{HeldCall}
use Rattle.rpc_machine.specs.declared.calls.Promise.{Promise}
use Rattle.rpc_machine.specs.declared.calls.Promise.TheVariants as promise
use Rattle.rpc_machine.specs.declared.calls.KeptOutcome.{KeptOutcome}
use Rattle.rpc_machine.specs.declared.entries.Embargo.{Embargo}
use Rattle.laws_acts.specs.Moments.{each_to, held_to}
use Rattle.laws_nodes.specs.Ones.{one_if}
use Rattle.laws_nodes.specs.Sources.{is_key, calls_for, held_for, at_promise, at_outcome, at_embargo}
use Rattle.laws_vat_order.specs.Lines.{Has, Before, HasAt, BeforeAt, OfPromise, OfOutcome, OfEmbargo, Lacks, NotBehind}
use Rattle.laws_vat_order.proofs.Counting.{yet_for}

-- ---- Lists of calls

pub is_one : (o k : ℕ) → k ≡ o → is_key o k ≡ 1
is_one o k e = ap (λ (j : ℕ). one_if (nat_eq o j)) e ∙ ap one_if (itself o)

pub has_more : (a : ℕ) (c : WaitingCall) (cs : List WaitingCall) → Has a cs → Has a (cs ++ c ∷ [])
has_more a c [] h = absurd h
has_more a c (x ∷ xs) (inl e) = inl e
has_more a c (x ∷ xs) (inr h) = inr (has_more a c xs h)

pub has_last : (a : ℕ) (c : WaitingCall) (cs : List WaitingCall) → c.outcome ≡ a → Has a (cs ++ c ∷ [])
has_last a c [] e = inl e
has_last a c (x ∷ xs) e = inr (has_last a c xs e)

pub before_more : (a b : ℕ) (c : WaitingCall) (cs : List WaitingCall) → Before a b cs → Before a b (cs ++ c ∷ [])
before_more a b c [] h = absurd h
before_more a b c (x ∷ xs) (inl h) = inl (h.0, has_more b c xs h.1)
before_more a b c (x ∷ xs) (inr h) = inr (before_more a b c xs h)

pub before_last : (a b : ℕ) (c : WaitingCall) (cs : List WaitingCall) → c.outcome ≡ b → Has a cs → Before a b (cs ++ c ∷ [])
before_last a b c [] e h = absurd h
before_last a b c (x ∷ xs) e (inl h) = inl (h, has_last b c xs e)
before_last a b c (x ∷ xs) e (inr h) = inr (before_last a b c xs e h)

pub behind_is_in : (a b : ℕ) (cs : List WaitingCall) → Before a b cs → Has b cs
behind_is_in a b [] h = absurd h
behind_is_in a b (x ∷ xs) (inl h) = inr h.1
behind_is_in a b (x ∷ xs) (inr h) = inr (behind_is_in a b xs h)

pub held_more : (path : List Op) (a : ℕ) (c : HeldCall) (cs : List HeldCall) → HasAt path a cs → HasAt path a (cs ++ c ∷ [])
held_more path a c [] h = absurd h
held_more path a c (x ∷ xs) (inl e) = inl e
held_more path a c (x ∷ xs) (inr h) = inr (held_more path a c xs h)

pub held_last : (path : List Op) (a : ℕ) (c : HeldCall) (cs : List HeldCall) → c.path ≡ path → c.call.outcome ≡ a → HasAt path a (cs ++ c ∷ [])
held_last path a c [] e f = inl (e, f)
held_last path a c (x ∷ xs) e f = inr (held_last path a c xs e f)

pub held_before_more : (path : List Op) (a b : ℕ) (c : HeldCall) (cs : List HeldCall) → BeforeAt path a b cs → BeforeAt path a b (cs ++ c ∷ [])
held_before_more path a b c [] h = absurd h
held_before_more path a b c (x ∷ xs) (inl h) = inl (h.0, h.1, held_more path b c xs h.2)
held_before_more path a b c (x ∷ xs) (inr h) = inr (held_before_more path a b c xs h)

pub held_before_last : (path : List Op) (a b : ℕ) (c : HeldCall) (cs : List HeldCall) → c.path ≡ path → c.call.outcome ≡ b → HasAt path a cs → BeforeAt path a b (cs ++ c ∷ [])
held_before_last path a b c [] e f h = absurd h
held_before_last path a b c (x ∷ xs) e f (inl h) = inl (h.0, h.1, held_last path b c xs e f)
held_before_last path a b c (x ∷ xs) e f (inr h) = inr (held_before_last path a b c xs e f h)

pub held_behind_is_in : (path : List Op) (a b : ℕ) (cs : List HeldCall) → BeforeAt path a b cs → HasAt path b cs
held_behind_is_in path a b [] h = absurd h
held_behind_is_in path a b (x ∷ xs) (inl h) = inr h.2
held_behind_is_in path a b (x ∷ xs) (inr h) = inr (held_behind_is_in path a b xs h)

-- ---- Calls that are still to be routed

-- The call is among them, and goes to that node.
abbrev pub YetHas : Node → ℕ → List (WaitingCall × Node) → Type 0
YetHas n a [] = ⊥
YetHas n a (x ∷ xs) = ((x.0.outcome ≡ a) × (x.1 ≡ n)) ⊎ YetHas n a xs

abbrev pub YetBefore : Node → ℕ → ℕ → List (WaitingCall × Node) → Type 0
YetBefore n a b [] = ⊥
YetBefore n a b (x ∷ xs) = ((x.0.outcome ≡ a) × (x.1 ≡ n) × YetHas n b xs) ⊎ YetBefore n a b xs

pub each_has : (n : Node) (a : ℕ) (cs : List WaitingCall) → Has a cs → YetHas n a (each_to n cs)
each_has n a [] h = absurd h
each_has n a (x ∷ xs) (inl e) = inl (e, refl)
each_has n a (x ∷ xs) (inr h) = inr (each_has n a xs h)

pub each_before : (n : Node) (a b : ℕ) (cs : List WaitingCall) → Before a b cs → YetBefore n a b (each_to n cs)
each_before n a b [] h = absurd h
each_before n a b (x ∷ xs) (inl h) = inl (h.0, refl, each_has n b xs h.1)
each_before n a b (x ∷ xs) (inr h) = inr (each_before n a b xs h)

pub held_has : (o : ℕ) (path : List Op) (a : ℕ) (cs : List HeldCall) → HasAt path a cs → YetHas (node.Field o path) a (held_to o cs)
held_has o path a [] h = absurd h
held_has o path a (x ∷ xs) (inl h) = inl (h.1, ap (node.Field o) h.0)
held_has o path a (x ∷ xs) (inr h) = inr (held_has o path a xs h)

pub held_before : (o : ℕ) (path : List Op) (a b : ℕ) (cs : List HeldCall) → BeforeAt path a b cs → YetBefore (node.Field o path) a b (held_to o cs)
held_before o path a b [] h = absurd h
held_before o path a b (x ∷ xs) (inl h) = inl (h.1, ap (node.Field o) h.0, held_has o path b xs h.2)
held_before o path a b (x ∷ xs) (inr h) = inr (held_before o path a b xs h)

pub yet_behind_is_in : (n : Node) (a b : ℕ) (xs : List (WaitingCall × Node)) → YetBefore n a b xs → YetHas n b xs
yet_behind_is_in n a b [] h = absurd h
yet_behind_is_in n a b (x ∷ xs) (inl h) = inr h.2
yet_behind_is_in n a b (x ∷ xs) (inr h) = inr (yet_behind_is_in n a b xs h)

-- ---- They are counted

calls_count : (a : ℕ) (cs : List WaitingCall) → Has a cs → 0 < calls_for a cs
calls_count a [] h = absurd h
calls_count a (x ∷ xs) (inl e) = let k = is_one a x.outcome e in omega arith
calls_count a (x ∷ xs) (inr h) = let k = calls_count a xs h in omega arith

held_count : (path : List Op) (a : ℕ) (cs : List HeldCall) → HasAt path a cs → 0 < held_for a cs
held_count path a [] h = absurd h
held_count path a (x ∷ xs) (inl e) = let k = is_one a x.call.outcome e.1 in omega arith
held_count path a (x ∷ xs) (inr h) = let k = held_count path a xs h in omega arith

pub yet_count : (n : Node) (a : ℕ) (xs : List (WaitingCall × Node)) → YetHas n a xs → 0 < yet_for a xs
yet_count n a [] h = absurd h
yet_count n a (x ∷ xs) (inl e) = let k = is_one a x.0.outcome e.0 in omega arith
yet_count n a (x ∷ xs) (inr h) = let k = yet_count n a xs h in omega arith

pub promise_count : (a : ℕ) (m : Map Promise) (p : ℕ) → OfPromise (Has a) (map.get m p) → 0 < tally (at_promise a) m
promise_count a m p h = by (map.get m p) refl h
  where
    by : (o : Option Promise) → map.get m p ≡ o → OfPromise (Has a) o → 0 < tally (at_promise a) m
    by None e h = absurd h
    by (Some (promise.Open calls)) e h = let t = tally-within (at_promise a) m p (promise.Open calls) e in let k = calls_count a calls h in omega arith
    by (Some (promise.Fixed to)) e h = absurd h

pub outcome_count : (path : List Op) (a : ℕ) (m : Map KeptOutcome) (o : ℕ) → OfOutcome (HasAt path a) (map.get m o) → 0 < tally (at_outcome a) m
outcome_count path a m o h = by (map.get m o) refl h
  where
    by : (x : Option KeptOutcome) → map.get m o ≡ x → OfOutcome (HasAt path a) x → 0 < tally (at_outcome a) m
    by None e h = absurd h
    by (Some x) e h = let t = tally-within (at_outcome a) m o x e in let k = held_count path a x.waiting h in omega arith

pub embargo_count : (a : ℕ) (m : Map Embargo) (e : ℕ) → OfEmbargo (Has a) (map.get m e) → 0 < tally (at_embargo a) m
embargo_count a m k h = by (map.get m k) refl h
  where
    by : (x : Option Embargo) → map.get m k ≡ x → OfEmbargo (Has a) x → 0 < tally (at_embargo a) m
    by None e h = absurd h
    by (Some x) e h = let t = tally-within (at_embargo a) m k x e in let k = calls_count a x.waiting h in omega arith

-- ---- Tables

pub of_promise : (f g : List WaitingCall → Type 0) → ((cs : List WaitingCall) → f cs → g cs) → (o : Option Promise) → OfPromise f o → OfPromise g o
of_promise f g k None h = absurd h
of_promise f g k (Some (promise.Open calls)) h = k calls h
of_promise f g k (Some (promise.Fixed to)) h = absurd h

pub of_outcome : (f g : List HeldCall → Type 0) → ((cs : List HeldCall) → f cs → g cs) → (o : Option KeptOutcome) → OfOutcome f o → OfOutcome g o
of_outcome f g k None h = absurd h
of_outcome f g k (Some x) h = k x.waiting h

pub of_embargo : (f g : List WaitingCall → Type 0) → ((cs : List WaitingCall) → f cs → g cs) → (o : Option Embargo) → OfEmbargo f o → OfEmbargo g o
of_embargo f g k None h = absurd h
of_embargo f g k (Some x) h = k x.waiting h

module _ (f : List WaitingCall → Type 0) (m : Map Promise) (p : ℕ) where
  pub promise_more : (calls after : List WaitingCall) → map.get m p ≡ Some (promise.Open calls) → (f calls → f after) → (j : ℕ) → OfPromise f (map.get m j) → OfPromise f (map.get (map.insert m p (promise.Open after)) j)
  promise_more calls after e k = at_put (λ j o. OfPromise f (map.get m j) → OfPromise f o) m p (promise.Open after) (λ h. k (subst (OfPromise f) e h)) (λ j g h. h)

  pub promise_here : (calls : List WaitingCall) → map.get m p ≡ Some (promise.Open calls) → (j : ℕ) → node.Promise j ≡ node.Promise p → OfPromise f (map.get m j) → f calls
  promise_here calls e j g h = let k : j ≡ p = cc in subst (OfPromise f) e (subst (λ (i : ℕ). OfPromise f (map.get m i)) k h)

  pub promise_at : (after : List WaitingCall) → f after → OfPromise f (map.get (map.insert m p (promise.Open after)) p)
  promise_at after h = at_put (λ j o. j ≡ p → OfPromise f o) m p (promise.Open after) (λ e. h) (λ j g e. absurd (let z : nat_eq p p ≡ false = subst (λ (i : ℕ). nat_eq i p ≡ false) e g in let y = itself p in cc)) p refl

  pub promise_new : (y : Promise) → map.get m p ≡ None → (j : ℕ) → OfPromise f (map.get m j) → OfPromise f (map.get (map.insert m p y) j)
  promise_new y e = at_put (λ j o. OfPromise f (map.get m j) → OfPromise f o) m p y (λ h. absurd (subst (OfPromise f) e h)) (λ j g h. h)

  pub promise_cut : (to : Node) → map.get m p ≡ Some (promise.Fixed to) → (j : ℕ) → OfPromise f (map.get m j) → OfPromise f (map.get (map.remove m p) j)
  promise_cut to e = at_cut (λ j o. OfPromise f (map.get m j) → OfPromise f o) m p (λ h. absurd (subst (OfPromise f) e h)) (λ j g h. h)

  -- It is another's, or these calls are routed.
  pub promise_fixed : (calls : List WaitingCall) (to : Node) → map.get m p ≡ Some (promise.Open calls) → (j : ℕ) → OfPromise f (map.get m j) → OfPromise f (map.get (map.insert m p (promise.Fixed to)) j) ⊎ ((j ≡ p) × f calls)
  promise_fixed calls to e = at_put (λ j o. OfPromise f (map.get m j) → OfPromise f o ⊎ ((j ≡ p) × f calls)) m p (promise.Fixed to) (λ h. inr (refl, subst (OfPromise f) e h)) (λ j g h. inl h)

module _ (f : List HeldCall → Type 0) (m : Map KeptOutcome) (o : ℕ) where
  pub outcome_more : (x y : KeptOutcome) → map.get m o ≡ Some x → (f x.waiting → f y.waiting) → (j : ℕ) → OfOutcome f (map.get m j) → OfOutcome f (map.get (map.insert m o y) j)
  outcome_more x y e k = at_put (λ j z. OfOutcome f (map.get m j) → OfOutcome f z) m o y (λ h. k (subst (OfOutcome f) e h)) (λ j g h. h)

  pub outcome_here : (x : KeptOutcome) → map.get m o ≡ Some x → (j : ℕ) → j ≡ o → OfOutcome f (map.get m j) → f x.waiting
  outcome_here x e j k h = subst (OfOutcome f) e (subst (λ (i : ℕ). OfOutcome f (map.get m i)) k h)

  pub outcome_at : (y : KeptOutcome) → f y.waiting → OfOutcome f (map.get (map.insert m o y) o)
  outcome_at y h = at_put (λ j z. j ≡ o → OfOutcome f z) m o y (λ e. h) (λ j g e. absurd (let z : nat_eq o o ≡ false = subst (λ (i : ℕ). nat_eq i o ≡ false) e g in let y = itself o in cc)) o refl

  pub outcome_new : (y : KeptOutcome) → map.get m o ≡ None → (j : ℕ) → OfOutcome f (map.get m j) → OfOutcome f (map.get (map.insert m o y) j)
  outcome_new y e = at_put (λ j z. OfOutcome f (map.get m j) → OfOutcome f z) m o y (λ h. absurd (subst (OfOutcome f) e h)) (λ j g h. h)

  pub outcome_cut : (x : KeptOutcome) → map.get m o ≡ Some x → (f x.waiting → ⊥) → (j : ℕ) → OfOutcome f (map.get m j) → OfOutcome f (map.get (map.remove m o) j)
  outcome_cut x e k = at_cut (λ j z. OfOutcome f (map.get m j) → OfOutcome f z) m o (λ h. absurd (k (subst (OfOutcome f) e h))) (λ j g h. h)

  -- It is another's, or these calls are routed.
  pub outcome_cleared : (x y : KeptOutcome) → map.get m o ≡ Some x → (j : ℕ) → OfOutcome f (map.get m j) → OfOutcome f (map.get (map.insert m o y) j) ⊎ ((j ≡ o) × f x.waiting)
  outcome_cleared x y e = at_put (λ j z. OfOutcome f (map.get m j) → OfOutcome f z ⊎ ((j ≡ o) × f x.waiting)) m o y (λ h. inr (refl, subst (OfOutcome f) e h)) (λ j g h. inl h)

module _ (f : List WaitingCall → Type 0) (m : Map Embargo) (e : ℕ) where
  pub embargo_more : (x y : Embargo) → map.get m e ≡ Some x → (f x.waiting → f y.waiting) → (j : ℕ) → OfEmbargo f (map.get m j) → OfEmbargo f (map.get (map.insert m e y) j)
  embargo_more x y i k = at_put (λ j z. OfEmbargo f (map.get m j) → OfEmbargo f z) m e y (λ h. k (subst (OfEmbargo f) i h)) (λ j g h. h)

  pub embargo_new : (y : Embargo) → map.get m e ≡ None → (j : ℕ) → OfEmbargo f (map.get m j) → OfEmbargo f (map.get (map.insert m e y) j)
  embargo_new y i = at_put (λ j z. OfEmbargo f (map.get m j) → OfEmbargo f z) m e y (λ h. absurd (subst (OfEmbargo f) i h)) (λ j g h. h)

  -- It is another's, or these calls are routed.
  pub embargo_lifted : (x : Embargo) → map.get m e ≡ Some x → (j : ℕ) → OfEmbargo f (map.get m j) → OfEmbargo f (map.get (map.remove m e) j) ⊎ f x.waiting
  embargo_lifted x i = at_cut (λ j z. OfEmbargo f (map.get m j) → OfEmbargo f z ⊎ f x.waiting) m e (λ h. inr (subst (OfEmbargo f) i h)) (λ j g h. inl h)

-- ---- What was delivered

pub lacks_more : (b : ℕ) (z : Option ℕ) (xs : List (Option ℕ)) → z ≢ Some b → Lacks b xs → Lacks b (xs ++ z ∷ [])
lacks_more b z [] e h = (e, tt)
lacks_more b z (x ∷ xs) e h = (h.0, lacks_more b z xs e h.1)

pub none_behind : (a b : ℕ) (xs : List (Option ℕ)) → Lacks b xs → NotBehind a b xs
none_behind a b [] h = tt
none_behind a b (x ∷ xs) h = (λ e. absurd (h.0 e), none_behind a b xs h.1)

pub none_behind_last : (a b : ℕ) (z : Option ℕ) (xs : List (Option ℕ)) → Lacks b xs → NotBehind a b (xs ++ z ∷ [])
none_behind_last a b z [] h = (λ e. tt, tt)
none_behind_last a b z (x ∷ xs) h = (λ e. absurd (h.0 e), none_behind_last a b z xs h.1)

pub behind_more : (a b : ℕ) (z : Option ℕ) (xs : List (Option ℕ)) → z ≢ Some a → NotBehind a b xs → NotBehind a b (xs ++ z ∷ [])
behind_more a b z [] e h = (λ f. tt, tt)
behind_more a b z (x ∷ xs) e h = (λ f. lacks_more a z xs e (h.0 f), behind_more a b z xs e h.1)
