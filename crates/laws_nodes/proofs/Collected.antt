-- What no place names goes, and nodes that places name settle where they did.
use Rattle.std.proofs.Common.{◌≡◌, ◌⊎◌, inl, inr, ℕ, zero, suc, false, List, [], ◌∷◌, Option, None, Some, refl, sym, ap, subst, ◌∙◌}
use Rattle.std.specs.FinMap as map
use Rattle.finite_maps.specs.Tally.{Map}
use Rattle.rpc_msg.specs.Op.{Op}
use Rattle.rpc_msg.specs.CapAt.{CapAt}
use Rattle.rpc_msg.specs.CapAt.TheVariants.{Cap, Null, NotCap}
use Rattle.rpc_machine.specs.Payloads.{cap_at}
use Rattle.rpc_machine.specs.declared.node.Node.{Node}
use Rattle.rpc_machine.specs.declared.node.Node.TheVariants as node
use Rattle.rpc_machine.specs.declared.node.Reason.{Reason}
use Rattle.rpc_machine.specs.declared.calls.Promise.{Promise}
use Rattle.rpc_machine.specs.declared.calls.Promise.TheVariants as promise
use Rattle.rpc_machine.specs.declared.calls.Value.{Value}
use Rattle.rpc_machine.specs.declared.calls.Value.TheVariants as value
use Rattle.rpc_machine.specs.declared.calls.KeptOutcome.{KeptOutcome}
use Rattle.rpc_machine.specs.State.{State}
use Rattle.rpc_machine.specs.Laws.{Stops}
use Rattle.rpc_machine.specs.Nodes.{node_of_cap, field_of, promise_link, value_of, field_link, link, settle, is_promise, is_field}
use Rattle.rpc_machine.specs.Places.{named_by_promise, named_by_value, named_by_held, named_by_outcome, places, names}
use Rattle.rpc_machine.specs.Progress.{Progress}
use Rattle.rpc_machine.specs.Collecting.{IsLoosePromise, IsLooseValue, IsLooseOutcome, Goes, PromiseGoes, OutcomeGoes, ImportGoes, Collects, Tight, Loose}
use Rattle.laws_steps.specs.Settled.{IsAmong}
use Rattle.laws_steps.proofs.Among.{among_left, named, none_among, in_promises, in_outcomes}
use Rattle.laws_steps.proofs.Below.{goes_below, collects_below, places_below}
use Rattle.rpc_machine.proofs.Settles.{settles_here}
use Rattle.laws_nodes.specs.Settling.{AllStop}
use Rattle.laws_nodes.proofs.Stopping.{on, redirect}
use Rattle.finite_maps.proofs.Tested.{get_left, at_cut}

-- ---- Fewer links

abbrev pub FewerPromises : Map Promise → Map Promise → Type 0
FewerPromises m n = (j : ℕ) → (promise_link (map.get n j) ≡ promise_link (map.get m j)) ⊎ (promise_link (map.get n j) ≡ None)

abbrev pub FewerValues : Map KeptOutcome → Map KeptOutcome → Type 0
FewerValues m n = (j : ℕ) → (value_of (map.get n j) ≡ value_of (map.get m j)) ⊎ (value_of (map.get n j) ≡ None)

pub fewer : (s t : State) → FewerPromises s.promises t.promises → FewerValues s.outcomes t.outcomes → AllStop s → AllStop t
fewer s t f g a = redirect s t by a
  where
    of_field : (o : ℕ) (path : List Op) → (value_of (map.get t.outcomes o) ≡ value_of (map.get s.outcomes o)) ⊎ (value_of (map.get t.outcomes o) ≡ None) → (link t (node.Field o path) ≡ link s (node.Field o path)) ⊎ ((d : ℕ) × Stops t d (node.Field o path))
    of_field o path (inl e) = inl (ap (field_link path) e)
    of_field o path (inr e) = inr (0, ap (field_link path) e)

    of_promise : (p : ℕ) → (promise_link (map.get t.promises p) ≡ promise_link (map.get s.promises p)) ⊎ (promise_link (map.get t.promises p) ≡ None) → (link t (node.Promise p) ≡ link s (node.Promise p)) ⊎ ((d : ℕ) × Stops t d (node.Promise p))
    of_promise p (inl e) = inl e
    of_promise p (inr e) = inr (0, e)

    by : (n : Node) → (link t n ≡ link s n) ⊎ ((d : ℕ) × Stops t d n)
    by (node.Object o) = inl refl
    by (node.Promise p) = of_promise p (f p)
    by (node.Field o path) = of_field o path (g o)
    by (node.Import e) = inl refl
    by (node.Pipe q path) = inl refl
    by (node.Broken reason) = inl refl

pub promise_cut : (m : Map Promise) (k : ℕ) → FewerPromises m (map.remove m k)
promise_cut m k = at_cut (λ j o. (promise_link o ≡ promise_link (map.get m j)) ⊎ (promise_link o ≡ None)) m k (inr refl) (λ j e. inl refl)

pub value_cut : (m : Map KeptOutcome) (k : ℕ) → FewerValues m (map.remove m k)
value_cut m k = at_cut (λ j o. (value_of o ≡ value_of (map.get m j)) ⊎ (value_of o ≡ None)) m k (inr refl) (λ j e. inl refl)

goes_stops : (d new : Progress) → Goes d new → AllStop d.state → AllStop new.state
goes_stops d new (PromiseGoes p l h) a = rw h (fewer d.state (record (d.state) { promises = map.remove d.state.promises p }) (promise_cut d.state.promises p) (λ j. inl refl) a)
goes_stops d new (OutcomeGoes o l h) a = rw h (fewer d.state (record (d.state) { outcomes = map.remove d.state.outcomes o }) (λ j. inl refl) (value_cut d.state.outcomes o) a)
goes_stops d new (ImportGoes e l h) a = rw h a

-- ---- What places name

-- Named by a place, or broken.
abbrev Good : State → Node → Type 0
Good t n = IsAmong n (places t) ⊎ ((r : Reason) × (n ≡ node.Broken r))

cap_good : (cs : List Node) (c : CapAt) → IsAmong (node_of_cap cs c) cs ⊎ ((r : Reason) × (node_of_cap cs c ≡ node.Broken r))
cap_good cs Null = inr (_, refl)
cap_good cs NotCap = inr (_, refl)
cap_good cs (Cap i) = at cs i
  where
    at : (cs : List Node) (i : ℕ) → IsAmong (node_of_cap cs (Cap i)) cs ⊎ ((r : Reason) × (node_of_cap cs (Cap i) ≡ node.Broken r))
    at [] i = inr (_, refl)
    at (x ∷ xs) zero = inl (inl refl)
    at (x ∷ xs) (suc i) = more (at xs i)
      where
        more : IsAmong (node_of_cap xs (Cap i)) xs ⊎ ((r : Reason) × (node_of_cap xs (Cap i) ≡ node.Broken r)) → IsAmong (node_of_cap xs (Cap i)) (x ∷ xs) ⊎ ((r : Reason) × (node_of_cap xs (Cap i) ≡ node.Broken r))
        more (inl h) = inl (inr h)
        more (inr h) = inr h

-- What a link leads to.
link_good : (t : State) (n m : Node) → link t n ≡ Some m → Good t m
link_good t (node.Object o) m e = absurd (let bad : None ≡ Some m = e in cc)
link_good t (node.Promise p) m e = by (map.get t.promises p) refl e
  where
    by : (o : Option Promise) → map.get t.promises p ≡ o → promise_link o ≡ Some m → Good t m
    by None f g = absurd (let bad : None ≡ Some m = g in cc)
    by (Some (promise.Open calls)) f g = absurd (let bad : None ≡ Some m = g in cc)
    by (Some (promise.Fixed to)) f g =
        let j : to ≡ m = cc in
        inl (subst (λ (x : Node). IsAmong x (places t)) j (in_promises t to (named named_by_promise p (promise.Fixed to) to t.promises f (inl refl))))
link_good t (node.Field o path) m e = by (map.get t.outcomes o) refl e
  where
    of_cap : (y : KeptOutcome) → map.get t.outcomes o ≡ Some y → (caps : List Node) (c : CapAt) → ((n : Node) → IsAmong n caps → IsAmong n (named_by_value y.value)) → node_of_cap caps c ≡ m → IsAmong (node_of_cap caps c) caps ⊎ ((r : Reason) × (node_of_cap caps c ≡ node.Broken r)) → Good t m
    of_cap y f caps c g i (inl h) = inl (subst (λ (x : Node). IsAmong x (places t)) i (in_outcomes t (node_of_cap caps c) (named named_by_outcome o y (node_of_cap caps c) t.outcomes f (among_left (node_of_cap caps c) (named_by_value y.value) (named_by_held y.waiting) (g (node_of_cap caps c) h)))))
    of_cap y f caps c g i (inr h) = inr (h.0, sym i ∙ h.1)

    valued : (y : KeptOutcome) → map.get t.outcomes o ≡ Some y → (v : Option Value) → y.value ≡ v → field_link path v ≡ Some m → Good t m
    valued y f None j g = absurd (let bad : None ≡ Some m = g in cc)
    valued y f (Some (value.Exception x)) j g = let i : field_of (value.Exception x) path ≡ m = cc in inr (_, sym i)
    valued y f (Some (value.Results payload caps)) j g =
        let i : node_of_cap caps (cap_at payload path) ≡ m = cc in
        of_cap y f caps (cap_at payload path) (λ n k. subst (λ (u : Option Value). IsAmong n (named_by_value u)) (sym j) k) i (cap_good caps (cap_at payload path))

    by : (y : Option KeptOutcome) → map.get t.outcomes o ≡ y → field_link path (value_of y) ≡ Some m → Good t m
    by None f g = absurd (let bad : None ≡ Some m = g in cc)
    by (Some y) f g = valued y f y.value refl g
link_good t (node.Import k) m e = absurd (let bad : None ≡ Some m = e in cc)
link_good t (node.Pipe q path) m e = absurd (let bad : None ≡ Some m = e in cc)
link_good t (node.Broken reason) m e = absurd (let bad : None ≡ Some m = e in cc)

-- ---- One thing goes

no_name : (s : State) (p : ℕ) (o : Option Promise) → IsLoosePromise s p o → names s (is_promise p) ≡ 0
no_name s p None l = absurd l
no_name s p (Some (promise.Open calls)) l = absurd l
no_name s p (Some (promise.Fixed to)) l = l

no_field : (s : State) (o : ℕ) (x : Option KeptOutcome) → IsLooseOutcome s o x → names s (is_field o) ≡ 0
no_field s o None l = absurd l
no_field s o (Some x) l = by x.value l
  where
    by : (v : Option Value) → IsLooseValue s o x v → names s (is_field o) ≡ 0
    by None l = absurd l
    by (Some v) l = l.2

-- Where what goes is another node's.
pub promise_gone : (s : State) (p : ℕ) (n : Node) → is_promise p n ≡ false → link (record s { promises = map.remove s.promises p }) n ≡ link s n
promise_gone s p (node.Object o) h = refl
promise_gone s p (node.Promise q) h = ap promise_link (get_left s.promises p q h)
promise_gone s p (node.Field o path) h = refl
promise_gone s p (node.Import e) h = refl
promise_gone s p (node.Pipe q path) h = refl
promise_gone s p (node.Broken reason) h = refl

pub outcome_gone : (s : State) (o : ℕ) (n : Node) → is_field o n ≡ false → link (record s { outcomes = map.remove s.outcomes o }) n ≡ link s n
outcome_gone s o (node.Object x) h = refl
outcome_gone s o (node.Promise q) h = refl
outcome_gone s o (node.Field x path) h = ap (λ y. field_link path (value_of y)) (get_left s.outcomes o x h)
outcome_gone s o (node.Import e) h = refl
outcome_gone s o (node.Pipe q path) h = refl
outcome_gone s o (node.Broken reason) h = refl

module _ (d new : Progress) (g : Goes d new) where
  same_promise : (p : ℕ) → names d.state (is_promise p) ≡ 0 → (n : Node) → IsAmong n (places d.state) → link (record (d.state) { promises = map.remove d.state.promises p }) n ≡ link d.state n
  same_promise p z n i = promise_gone d.state p n (none_among (is_promise p) (places d.state) z n i)

  same_outcome : (o : ℕ) → names d.state (is_field o) ≡ 0 → (n : Node) → IsAmong n (places d.state) → link (record (d.state) { outcomes = map.remove d.state.outcomes o }) n ≡ link d.state n
  same_outcome o z n i = outcome_gone d.state o n (none_among (is_field o) (places d.state) z n i)

  same_link : (n : Node) → IsAmong n (places d.state) → link new.state n ≡ link d.state n
  same_link n i = by g
    where
      by : Goes d new → link new.state n ≡ link d.state n
      by (PromiseGoes p l h) = rw h (same_promise p (no_name d.state p (map.get d.state.promises p) l) n i)
      by (OutcomeGoes o l h) = rw h (same_outcome o (no_field d.state o (map.get d.state.outcomes o) l) n i)
      by (ImportGoes e l h) = rw h refl

  good_link : (n : Node) → Good new.state n → link d.state n ≡ link new.state n
  good_link n (inl i) = sym (same_link n (places_below d.state new.state (goes_below d new g) n i))
  good_link n (inr h) = ap (link d.state) h.1 ∙ sym (ap (link new.state) h.1)

  module _ (a : AllStop d.state) (b : AllStop new.state) where
    walk : (k : ℕ) (n : Node) → Stops new.state k n → Good new.state n → settle new.state n ≡ settle d.state n
    walk zero n h i = settles_here new.state n h ∙ sym (settles_here d.state n (good_link n i ∙ h))
    walk (suc k) n h i =
        let m = h.0 in
        on new.state b n m h.1 ∙ walk k m h.2 (link_good new.state n m h.1) ∙ sym (on d.state a n m (good_link n i ∙ h.1))

    goes_settle : (n : Node) → IsAmong n (places new.state) → settle new.state n ≡ settle d.state n
    goes_settle n i = walk (b n).0 n (b n).1 (inl i)

pub collected : (new d : Progress) → Collects new d → AllStop d.state → AllStop new.state × ((n : Node) → IsAmong n (places new.state) → settle new.state n ≡ settle d.state n)
collected new d (Tight h) a = (a, λ n i. refl)
collected new d (Loose {mid = mid} g rest) a =
    let b : AllStop mid.state = goes_stops d mid g a in
    let k = collected new mid rest b in
    (k.0, λ n i. k.1 n i ∙ goes_settle d mid g a b n (places_below mid.state new.state (collects_below new mid rest) n i))
