-- Nodes that stop, and where they settle, when links change.
use Rattle.std.proofs.Common.{◌≡◌, ◌⊎◌, inl, inr, ℕ, zero, suc, ◌≤◌, Bool, true, false, cond, List, Option, None, Some, unwrap_or, refl, sym, ap, subst, ◌∙◌, arith}
use Rattle.std.specs.FinMap as map
use Rattle.finite_maps.proofs.Gets.{get-insert_same}
use Rattle.rpc_machine.specs.declared.node.Node.{Node}
use Rattle.rpc_machine.specs.declared.node.Node.TheVariants as node
use Rattle.rpc_machine.specs.declared.calls.WaitingCall.{WaitingCall}
use Rattle.rpc_machine.specs.declared.calls.Promise.TheVariants as promise
use Rattle.rpc_machine.specs.declared.calls.KeptOutcome.{KeptOutcome}
use Rattle.rpc_machine.specs.State.{State}
use Rattle.rpc_machine.specs.Laws.{Stops}
use Rattle.rpc_machine.specs.Nodes.{promise_link, value_of, field_link, link, follow, settle, is_promise}
use Rattle.rpc_machine.proofs.Settles.{settles_here, settle_stops, settle_link}
use Rattle.laws_nodes.specs.Settling.{AllStop, SameLinks, StaysOpen, fixed}
use Rattle.finite_maps.proofs.Tested.{equal, get_other, at_put}

-- ---- One state

module _ (s : State) (a : AllStop s) where
  pub ends : (n : Node) → link s (settle s n) ≡ None
  ends n = settle_stops s (a n).0 n (a n).1

  pub again : (n : Node) → settle s (settle s n) ≡ settle s n
  again n = settles_here s (settle s n) (ends n)

  pub on : (n m : Node) → link s n ≡ Some m → settle s n ≡ settle s m
  on n m e = settle_link s (a m).0 n m e (a m).1

  pub followed : (k : ℕ) (n : Node) → link s (follow s k n) ≡ None → settle s n ≡ follow s k n
  followed zero n h = settles_here s n h
  followed (suc k) n h = by (λ m g. followed k m g) (link s n) refl h
    where
      by : ((m : Node) → link s (follow s k m) ≡ None → settle s m ≡ follow s k m) → (o : Option Node) → link s n ≡ o → link s (follow s k (unwrap_or o n)) ≡ None → settle s n ≡ follow s k (unwrap_or o n)
      by further None e g = further n g
      by further (Some m) e g = on n m e ∙ further m g

-- ---- Two states

-- Each node has its link as before, or stops as it is now.
pub redirect : (s t : State) → ((n : Node) → (link t n ≡ link s n) ⊎ ((d : ℕ) × Stops t d n)) → AllStop s → AllStop t
redirect s t f a n = go (a n).0 n (a n).1
  where
    stop : (n : Node) → link s n ≡ None → (link t n ≡ link s n) ⊎ ((d : ℕ) × Stops t d n) → (d : ℕ) × Stops t d n
    stop n h (inl e) = (0, e ∙ h)
    stop n h (inr k) = k

    step : (n m : Node) → link s n ≡ Some m → (d : ℕ) × Stops t d m → (link t n ≡ link s n) ⊎ ((d : ℕ) × Stops t d n) → (d : ℕ) × Stops t d n
    step n m h r (inl e) = (suc r.0, (m, e ∙ h, r.1))
    step n m h r (inr k) = k

    go : (d : ℕ) (n : Node) → Stops s d n → (e : ℕ) × Stops t e n
    go zero n h = stop n h (f n)
    go (suc d) n h = step n h.0 h.1 (go d h.0 h.2) (f n)

-- What stops without coming by a changed link stops still.
pub avoids : (s t : State) (c : Node → Bool) → ((n : Node) → c n ≡ false → link t n ≡ link s n) → (d : ℕ) (x : Node) → Stops s d x → ((k : ℕ) → c (follow s k x) ≡ false) → Stops t d x
avoids s t c f zero x h g = f x (g 0) ∙ h
avoids s t c f (suc d) x h g = (h.0, f x (g 0) ∙ h.1, avoids s t c f d h.0 h.2 (λ k. subst (λ (o : Option Node). c (follow s k (unwrap_or o x)) ≡ false) h.1 (g (suc k))))

module _ (s t : State) (a : AllStop s) (b : AllStop t) (f : (n m : Node) → link s n ≡ Some m → link t n ≡ Some m) where
  -- Where links are only added, a node settles where the place does at which it stopped.
  pub grown : (n : Node) → settle t n ≡ settle t (settle s n)
  grown n = go (a n).0 n (a n).1
    where
      go : (d : ℕ) (n : Node) → Stops s d n → settle t n ≡ settle t (settle s n)
      go zero n h = ap (settle t) (sym (settles_here s n h))
      go (suc d) n h = on t b n h.0 (f n h.0 h.1) ∙ go d h.0 h.2 ∙ ap (settle t) (sym (on s a n h.0 h.1))

  pub unmoved : (n : Node) → link t (settle s n) ≡ None → settle t n ≡ settle s n
  unmoved n h = grown n ∙ settles_here t (settle s n) h

pub same : (s t : State) → SameLinks s t → AllStop s → AllStop t × ((n : Node) → settle t n ≡ settle s n)
same s t f a =
    let b : AllStop t = redirect s t (λ n. inl (f n)) a in
    (b, λ n. unmoved s t a b (λ n m e. f n ∙ e) n (f (settle s n) ∙ ends s a n))

-- ---- Keys that are taken

pub opens : (s : State) (p : ℕ) (calls : List WaitingCall) → StaysOpen (map.get s.promises p) → SameLinks s (record s { promises = map.insert s.promises p (promise.Open calls) })
opens s p calls h (node.Object o) = refl
opens s p calls h (node.Promise q) = at_put (λ j y. promise_link y ≡ promise_link (map.get s.promises j)) s.promises p (promise.Open calls) (sym h) (λ j e. refl) q
opens s p calls h (node.Field o path) = refl
opens s p calls h (node.Import e) = refl
opens s p calls h (node.Pipe q path) = refl
opens s p calls h (node.Broken reason) = refl

pub begins : (s : State) (o : ℕ) (x : KeptOutcome) → value_of (map.get s.outcomes o) ≡ x.value → SameLinks s (record s { outcomes = map.insert s.outcomes o x })
begins s o x h (node.Object k) = refl
begins s o x h (node.Promise q) = refl
begins s o x h (node.Field j path) = at_put (λ k y. field_link path (value_of y) ≡ field_link path (value_of (map.get s.outcomes k))) s.outcomes o x (ap (field_link path) (sym h)) (λ k e. refl) j
begins s o x h (node.Import e) = refl
begins s o x h (node.Pipe q path) = refl
begins s o x h (node.Broken reason) = refl

-- ---- A promise is fixed

pub is_it : (p : ℕ) (n : Node) → is_promise p n ≡ true → n ≡ node.Promise p
is_it p (node.Object o) h = cc
is_it p (node.Promise q) h = ap (λ (k : ℕ). node.Promise k) (equal q p h)
is_it p (node.Field o path) h = cc
is_it p (node.Import e) h = cc
is_it p (node.Pipe q path) h = cc
is_it p (node.Broken reason) h = cc

module _ (s : State) (p : ℕ) (to : Node) where
  pub others : (n : Node) → is_promise p n ≡ false → link (fixed s p to) n ≡ link s n
  others (node.Object o) h = refl
  others (node.Promise q) h = ap promise_link (get_other s.promises p (promise.Fixed to) q h)
  others (node.Field o path) h = refl
  others (node.Import e) h = refl
  others (node.Pipe q path) h = refl
  others (node.Broken reason) h = refl

  pub leads : link (fixed s p to) (node.Promise p) ≡ Some to
  leads = ap promise_link (get-insert_same s.promises p (promise.Fixed to))

  grows : StaysOpen (map.get s.promises p) → (n m : Node) → link s n ≡ Some m → link (fixed s p to) n ≡ Some m
  grows free n m h = by (is_promise p n) refl
    where
      by : (b : Bool) → is_promise p n ≡ b → link (fixed s p to) n ≡ Some m
      by false e = others n e ∙ h
      by true e = absurd (let bad : Some m ≡ None = sym h ∙ ap (link s) (is_it p n e) ∙ free in cc)

module _ (s : State) (p : ℕ) (to : Node) (free : StaysOpen (map.get s.promises p)) (far : is_promise p (settle s to) ≡ false) (a : AllStop s) where
  -- What it is fixed to does not come by it.
  far_off : (k : ℕ) (b : Bool) → is_promise p (follow s k to) ≡ b → b ≡ false
  far_off k false e = refl
  far_off k true e =
      let f : follow s k to ≡ node.Promise p = is_it p (follow s k to) e in
      let g : settle s to ≡ follow s k to = followed s a k to (ap (link s) f ∙ free) in
      let h : is_promise p (settle s to) ≡ true = ap (is_promise p) g ∙ e in
      cc

  to_stops : (d : ℕ) × Stops (fixed s p to) d to
  to_stops = ((a to).0, avoids s (fixed s p to) (is_promise p) (others s p to) (a to).0 to (a to).1 (λ k. far_off k (is_promise p (follow s k to)) refl))

  pub fixed_stops : AllStop (fixed s p to)
  fixed_stops = redirect s (fixed s p to) (λ n. by n (is_promise p n) refl) a
    where
      by : (n : Node) (b : Bool) → is_promise p n ≡ b → (link (fixed s p to) n ≡ link s n) ⊎ ((d : ℕ) × Stops (fixed s p to) d n)
      by n false e = inl (others s p to n e)
      by n true e = inr (suc to_stops.0, (to, ap (link (fixed s p to)) (is_it p n e) ∙ leads s p to, to_stops.1))

  elsewhere : (n : Node) → is_promise p (settle s n) ≡ false → settle (fixed s p to) n ≡ settle s n
  elsewhere n e = unmoved s (fixed s p to) a fixed_stops (grows s p to free) n (others s p to (settle s n) e ∙ ends s a n)

  pub fixed_settles : (n : Node) → settle (fixed s p to) n ≡ cond (is_promise p (settle s n)) (settle s to) (settle s n)
  fixed_settles n = by (is_promise p (settle s n)) refl
    where
      by : (b : Bool) → is_promise p (settle s n) ≡ b → settle (fixed s p to) n ≡ cond b (settle s to) (settle s n)
      by false e = elsewhere n e
      by true e =
          grown s (fixed s p to) a fixed_stops (grows s p to free) n ∙ ap (settle (fixed s p to)) (is_it p (settle s n) e) ∙ on (fixed s p to) fixed_stops (node.Promise p) to (leads s p to) ∙ elsewhere to far

-- Fixed to what leads to it, it leads back to itself.
module _ (s : State) (p : ℕ) (to : Node) (free : StaysOpen (map.get s.promises p)) (a : AllStop s) where
  -- What led to the promise comes to it now, with no more links to go than before.
  comes_to : (e : ℕ) (n : Node) → Stops s e n → settle s n ≡ node.Promise p → (d : ℕ) → Stops (fixed s p to) d n → (k : ℕ) × (k ≤ d) × Stops (fixed s p to) k (node.Promise p)
  comes_to zero n h f d g = (d, omega arith, subst (Stops (fixed s p to) d) (sym (settles_here s n h) ∙ f) g)
  comes_to (suc e) n h f zero g = absurd (let bad : Some h.0 ≡ None = sym (grows s p to free n h.0 h.1) ∙ g in cc)
  comes_to (suc e) n h f (suc d) g =
      let there : Some h.0 ≡ Some g.0 = sym (grows s p to free n h.0 h.1) ∙ g.1 in
      let same : g.0 ≡ h.0 = cc in
      let r = comes_to e h.0 h.2 (sym (on s a n h.0 h.1) ∙ f) d (subst (Stops (fixed s p to) d) same g.2) in
      let l = r.1 in
      (r.0, omega arith, r.2)

  never : settle s to ≡ node.Promise p → (b d : ℕ) → d ≤ b → ¬ (Stops (fixed s p to) d (node.Promise p))
  never f b zero l h = let bad : Some to ≡ None = sym (leads s p to) ∙ h in cc
  never f zero (suc d) l h = absurd (omega arith)
  never f (suc b) (suc d) l h =
      let there : Some to ≡ Some h.0 = sym (leads s p to) ∙ h.1 in
      let same : h.0 ≡ to = cc in
      let r = comes_to (a to).0 to (a to).1 f d (subst (Stops (fixed s p to) d) same h.2) in
      let k = r.1 in
      never f b r.0 (omega arith) r.2

  pub circles : is_promise p (settle s to) ≡ true → (d : ℕ) → ¬ (Stops (fixed s p to) d (node.Promise p))
  circles e d = never (is_it p (settle s to) e) d d (omega arith)
