-- The value that fits means what the value means: a promise that nobody settles, which takes the place of a capability
-- that leads to itself, means nothing.
use Rattle.std.proofs.Common.{◌≡◌, ◌⊎◌, inl, inr, ℕ, zero, suc, ◌+◌, Bool, true, false, cond, nat_eq, Option, None, Some, unwrap_or, List, [], ◌∷◌, refl, sym, ap, ◌∙◌, subst}
use Rattle.std.specs.FinMap as map
use Rattle.std.specs.List.{slice_get}
use Rattle.finite_maps.specs.Tally.{Map}
use Rattle.finite_maps.proofs.Tested.{get_put, equal, itself}
use Rattle.rpc_msg.specs.declared.ids.Vat.{Vat}
use Rattle.rpc_msg.specs.CapAt.{CapAt}
use Rattle.rpc_msg.specs.CapAt.TheVariants.{Cap, Null, NotCap}
use Rattle.rpc_msg.specs.Payloads.{Contents as Payload}
use Rattle.rpc_journal.specs.Sources.{Asking}
use Rattle.rpc_journal.specs.Meaning.{History}
use Rattle.rpc_machine.specs.Payloads.{cap_at}
use Rattle.rpc_machine.specs.declared.node.Node.{Node}
use Rattle.rpc_machine.specs.declared.node.Node.TheVariants as node
use Rattle.rpc_machine.specs.declared.node.Reason.TheVariants.{NotACapability}
use Rattle.rpc_machine.specs.declared.calls.Caller.{Caller}
use Rattle.rpc_machine.specs.declared.calls.HeldCall.{HeldCall}
use Rattle.rpc_machine.specs.declared.calls.Promise.{Promise}
use Rattle.rpc_machine.specs.declared.calls.Promise.TheVariants as promise
use Rattle.rpc_machine.specs.declared.calls.Value.{Value}
use Rattle.rpc_machine.specs.declared.calls.Value.TheVariants as value
use Rattle.rpc_machine.specs.State.{State}
use Rattle.rpc_machine.specs.Nodes.{node_of_cap}
use Rattle.rpc_machine.specs.Settling.{Untangles, PutsIn, Fits}
use Rattle.laws_meanings.specs.NodeMeanings.{Meant, field_meant}
use Rattle.laws_meanings.specs.NodeLabels.{Labels, LeadsTo, Means, ValueMeans}
use Rattle.laws_meanings.proofs.Labelled.{soft}

-- What promises mean when some have come to be that mean nothing, and the capabilities with these in place.
pub record Untangled (l : Labels) (old now : Map Promise) (caps out : List Node) : Type 0 where
  pub means : ℕ → Option Meant
  pub weaker : (p : ℕ) → (means p ≡ l.promise p) ⊎ (means p ≡ None)
  pub same : (p : ℕ) (y : Promise) → map.get old p ≡ Some y → (means p ≡ l.promise p) × (map.get now p ≡ Some y)
  pub news : (p : ℕ) → (map.get now p ≡ map.get old p) ⊎ (map.get now p ≡ Some (promise.Open []))
  pub each : (i : ℕ) (n : Node) → slice_get out i ≡ Some n → (k : Node) × (slice_get caps i ≡ Some k) × ((n ≡ k) ⊎ ((q : ℕ) × (n ≡ node.Promise q) × (means q ≡ None)))
  pub none : (i : ℕ) → slice_get out i ≡ None → slice_get caps i ≡ None

abbrev unchanged : (l : Labels) (m : Map Promise) (caps : List Node) → Untangled l m m caps caps
unchanged l m caps = record { means = l.promise; weaker = λ p. inl refl; same = λ p y e. (refl, e); news = λ p. inl refl; each = λ i n e. (n, e, inl refl); none = λ i e. e }

module _ (l : Labels) (old now : Map Promise) (n : Node) (ns rest : List Node) (f : Untangled l old now ns rest) where
  stays : Untangled l old now (n ∷ ns) (n ∷ rest)
  stays = record { means = f.means; weaker = f.weaker; same = f.same; news = f.news; each = each; none = none }
    where
      each : (i : ℕ) (k : Node) → slice_get (n ∷ rest) i ≡ Some k → (z : Node) × (slice_get (n ∷ ns) i ≡ Some z) × ((k ≡ z) ⊎ ((q : ℕ) × (k ≡ node.Promise q) × (f.means q ≡ None)))
      each zero k e = (k, e, inl refl)
      each (suc i) k e = f.each i k e

      none : (i : ℕ) → slice_get (n ∷ rest) i ≡ None → slice_get (n ∷ ns) i ≡ None
      none zero e = let bad : Some n ≡ None = e in cc
      none (suc i) e = f.none i e

  module _ (p : ℕ) (free : map.get now p ≡ None) where
    put : Untangled l old (map.insert now p (promise.Open [])) (n ∷ ns) (node.Promise p ∷ rest)
    put = record { means = means; weaker = λ k. weak k (nat_eq k p); same = same; news = λ k. new k (nat_eq k p) refl; each = each; none = none }
      where
        means : ℕ → Option Meant
        means k = cond (nat_eq k p) None (f.means k)

        weak : (k : ℕ) (b : Bool) → (cond b None (f.means k) ≡ l.promise k) ⊎ (cond b None (f.means k) ≡ None)
        weak k true = inr refl
        weak k false = f.weaker k

        other : (k : ℕ) (y : Promise) → map.get now k ≡ Some y → (b : Bool) → nat_eq k p ≡ b → b ≡ false
        other k y e true g = absurd (let z : map.get now p ≡ Some y = subst (λ (j : ℕ). map.get now j ≡ Some y) (equal k p g) e in let bad : None ≡ Some y = sym free ∙ z in cc)
        other k y e false g = refl

        same : (k : ℕ) (y : Promise) → map.get old k ≡ Some y → (cond (nat_eq k p) None (f.means k) ≡ l.promise k) × (map.get (map.insert now p (promise.Open [])) k ≡ Some y)
        same k y e =
            let z = f.same k y e in
            let b = other k y z.1 (nat_eq k p) refl in
            (ap (λ (c : Bool). cond c None (f.means k)) b ∙ z.0, get_put now p (promise.Open []) k ∙ ap (λ (c : Bool). cond c (Some (promise.Open [])) (map.get now k)) b ∙ z.1)

        new : (k : ℕ) (b : Bool) → nat_eq k p ≡ b → (map.get (map.insert now p (promise.Open [])) k ≡ map.get old k) ⊎ (map.get (map.insert now p (promise.Open [])) k ≡ Some (promise.Open []))
        new k true g = inr (get_put now p (promise.Open []) k ∙ ap (λ (c : Bool). cond c (Some (promise.Open [])) (map.get now k)) g)
        new k false g = by (f.news k)
          where
            at : map.get (map.insert now p (promise.Open [])) k ≡ map.get now k
            at = get_put now p (promise.Open []) k ∙ ap (λ (c : Bool). cond c (Some (promise.Open [])) (map.get now k)) g

            by : ((map.get now k ≡ map.get old k) ⊎ (map.get now k ≡ Some (promise.Open []))) → (map.get (map.insert now p (promise.Open [])) k ≡ map.get old k) ⊎ (map.get (map.insert now p (promise.Open [])) k ≡ Some (promise.Open []))
            by (inl e) = inl (at ∙ e)
            by (inr e) = inr (at ∙ e)

        still_none : (q : ℕ) (b : Bool) → f.means q ≡ None → cond b None (f.means q) ≡ None
        still_none q true e = refl
        still_none q false e = e

        at_p : (b : Bool) → b ≡ true → cond b None (f.means p) ≡ None
        at_p b e = rw e refl

        each : (i : ℕ) (k : Node) → slice_get (node.Promise p ∷ rest) i ≡ Some k → (z : Node) × (slice_get (n ∷ ns) i ≡ Some z) × ((k ≡ z) ⊎ ((q : ℕ) × (k ≡ node.Promise q) × (cond (nat_eq q p) None (f.means q) ≡ None)))
        each zero k e = (n, refl, inr (p, (let g : Some (node.Promise p) ≡ Some k = e in cc), at_p (nat_eq p p) (itself p)))
        each (suc i) k e = by (f.each i k e)
          where
            by : ((z : Node) × (slice_get ns i ≡ Some z) × ((k ≡ z) ⊎ ((q : ℕ) × (k ≡ node.Promise q) × (f.means q ≡ None)))) → (z : Node) × (slice_get ns i ≡ Some z) × ((k ≡ z) ⊎ ((q : ℕ) × (k ≡ node.Promise q) × (cond (nat_eq q p) None (f.means q) ≡ None)))
            by (z, g, inl a) = (z, g, inl a)
            by (z, g, inr a) = (z, g, inr (a.0, a.1, still_none a.0 (nat_eq a.0 p) a.2))

        none : (i : ℕ) → slice_get (node.Promise p ∷ rest) i ≡ None → slice_get (n ∷ ns) i ≡ None
        none zero e = let bad : Some (node.Promise p) ≡ None = e in cc
        none (suc i) e = f.none i e

untangled : (l : Labels) (s : State) (o : ℕ) (who : Caller) (w : List HeldCall) (payload : Payload) (i : ℕ) (caps out : List Node) (new : State) → Untangles s o who w payload i caps out new → Untangled l s.promises new.promises caps out
untangled l s o who w payload i [] out new u = rw (u.0, u.1) (unchanged l s.promises [])
untangled l s o who w payload i (n ∷ ns) out new u = by (untangled l s o who w payload (i + 1) ns u.0 u.1 u.2) u.3
  where
    by : Untangled l s.promises u.1.promises ns u.0 → PutsIn u.1 o who w payload i n u.0 out new → Untangled l s.promises new.promises (n ∷ ns) out
    by f (inl p) = rw (p.1, p.2) (stays l s.promises u.1.promises n ns u.0 f)
    by f (inr (b, q)) = rw (q.2, q.3) (put l s.promises u.1.promises n ns u.0 f q.0 q.1)

module _ (h : History) (v : Vat) (l : Labels) (old now : Map Promise) (caps out : List Node) (f : Untangled l old now caps out) where
  abbrev m : Labels
  m = record l { promise = f.means }

  nothing : (x : Meant) (n : Node) (q : ℕ) → n ≡ node.Promise q → f.means q ≡ None → Means h v m x n
  nothing x n q e g = subst (Means h v m x) (sym e) (subst (LeadsTo h x) (sym g) tt)

  at_place : (x : Meant) (i : ℕ) (o : Option Node) → slice_get out i ≡ o → Means h v l x (unwrap_or (slice_get caps i) (node.Broken NotACapability)) → Means h v m x (unwrap_or o (node.Broken NotACapability))
  at_place x i None e j = soft h v l f.means f.weaker x (node.Broken NotACapability) (subst (λ (o : Option Node). Means h v l x (unwrap_or o (node.Broken NotACapability))) (f.none i e) j)
  at_place x i (Some n) e j = by (f.each i n e)
    where
      by : ((k : Node) × (slice_get caps i ≡ Some k) × ((n ≡ k) ⊎ ((q : ℕ) × (n ≡ node.Promise q) × (f.means q ≡ None)))) → Means h v m x n
      by (k, g, inl a) = subst (Means h v m x) (sym a) (soft h v l f.means f.weaker x k (subst (λ (o : Option Node). Means h v l x (unwrap_or o (node.Broken NotACapability))) g j))
      by (k, g, inr a) = nothing x n a.0 a.1 a.2

  at_cap : (x : Meant) (c : CapAt) → Means h v l x (node_of_cap caps c) → Means h v m x (node_of_cap out c)
  at_cap x (Cap i) j = at_place x i (slice_get out i) refl j
  at_cap x Null j = j
  at_cap x NotCap j = j

  pub fit_value : (a : Vat × Asking) (payload : Payload) → ValueMeans h v l a (value.Results payload caps) → ValueMeans h v m a (value.Results payload out)
  fit_value a payload i = (
    λ path. at_cap (field_meant h a.0 a.1 path) (cap_at payload path) (i.0 path),
    λ k n e.
        let z = f.each k n e in
        let y = i.1 k z.0 z.1 in
        (y.0, y.1, by y.0 n z.0 z.2 y.2),
    i.2,
  )
    where
      by : (y : Meant) (n k : Node) → (n ≡ k) ⊎ ((q : ℕ) × (n ≡ node.Promise q) × (f.means q ≡ None)) → Means h v l y k → Means h v m y n
      by y n k (inl e) j = subst (Means h v m y) (sym e) (soft h v l f.means f.weaker y k j)
      by y n k (inr e) j = nothing y n e.0 e.1 e.2

-- The value that fits.
pub record Fitted (h : History) (v : Vat) (l : Labels) (old now : Map Promise) (a : Vat × Asking) (fit : Value) : Type 0 where
  pub caps : List Node
  pub out : List Node
  pub untangled : Untangled l old now caps out
  pub means : ValueMeans h v (record l { promise = untangled.means }) a fit

pub fitted : (h : History) (v : Vat) (l : Labels) (a : Vat × Asking) (s : State) (o : ℕ) (who : Caller) (w : List HeldCall) (x fit : Value) (new : State) → Fits s o who w x fit new → ValueMeans h v l a x → Fitted h v l s.promises new.promises a fit
fitted h v l a s o who w (value.Exception exception) fit new u i = rw (u.0, u.1) (record { caps = []; out = []; untangled = unchanged l s.promises []; means = i })
fitted h v l a s o who w (value.Results payload caps) fit new u i =
    let f = untangled l s o who w payload 0 caps u.0 new u.2 in
    record { caps = caps; out = u.0; untangled = f; means = subst (ValueMeans h v (record l { promise = f.means }) a) (sym u.1) (fit_value h v l s.promises new.promises caps u.0 f a payload i) }
