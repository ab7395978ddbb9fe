-- What a map answers after a change, at the changed key and at others.
use Rattle.std.specs.Prelude.{◌≡◌, ◌≢◌, ◌⊎◌, ℕ, true, false, cond, nat_eq, Option, None, Some, refl}
use Rattle.std.specs.Ordering.{nat_cmp, eq_by_cmp}
use Rattle.std.specs.Cmp.{unsigned_tied, nat_cmp_total}
use Rattle.std.specs.FinMap.{get, insert, remove, get-insert, get-remove, same_map, nat_cmp-IsAntisymmetric}
use Rattle.std.proofs.Common.{sym, ◌∙◌, ap, subst, inl, inr}
use Rattle.std.proofs.lemmas.Bool.{eq-eqb, ne_eqb}
use Rattle.std.proofs.lemmas.Bool.Decides.{eqb_tells}
use Rattle.finite_maps.specs.Tally.{Map}

pub tied_same : (k : ℕ) → eq_by_cmp nat_cmp k k ≡ true
tied_same k = unsigned_tied k k ∙ eq-eqb k k refl

pub tied_other : (q k : ℕ) → q ≢ k → eq_by_cmp nat_cmp q k ≡ false
tied_other q k apart = unsigned_tied q k ∙ ne_eqb q k apart

at_one : (P : ℕ → Type 0) (k q : ℕ) → P k → (q ≢ k → P q) → ((nat_eq q k ≡ true) × (q ≡ k)) ⊎ ((nat_eq q k ≡ false) × (q ≢ k)) → P q
at_one P k q here other (inl t) = subst P (sym t.1) here
at_one P k q here other (inr t) = other t.1

-- A fact of each key, from the one key and the others.
pub at_each : (P : ℕ → Type 0) (k : ℕ) → P k → ((q : ℕ) → q ≢ k → P q) → (q : ℕ) → P q
at_each P k here others q = at_one P k q here (others q) (eqb_tells q k)

module _ {X : Type 0} where
  pub get-insert_same : (m : Map X) (k : ℕ) (v : X) → get (insert m k v) k ≡ Some v
  get-insert_same m k v = get-insert nat_cmp_total m k v k ∙ ap (λ b. cond b (Some v) (get m k)) (tied_same k)

  pub get-insert_other : (m : Map X) (k : ℕ) (v : X) (q : ℕ) → q ≢ k → get (insert m k v) q ≡ get m q
  get-insert_other m k v q apart = get-insert nat_cmp_total m k v q ∙ ap (λ b. cond b (Some v) (get m q)) (tied_other q k apart)

  pub get-remove_same : (m : Map X) (k : ℕ) → get (remove m k) k ≡ None
  get-remove_same m k = get-remove nat_cmp_total m k k ∙ ap (λ b. cond b None (get m k)) (tied_same k)

  pub get-remove_other : (m : Map X) (k q : ℕ) → q ≢ k → get (remove m k) q ≡ get m q
  get-remove_other m k q apart = get-remove nat_cmp_total m k q ∙ ap (λ b. cond b None (get m q)) (tied_other q k apart)

  -- Two maps that answer alike are one.
  pub alike : (m n : Map X) → ((q : ℕ) → get m q ≡ get n q) → m ≡ n
  alike m n same = same_map nat_cmp_total nat_cmp-IsAntisymmetric m n same

  -- What was there and is put back is there as before.
  pub put_back : (m : Map X) (k : ℕ) (v : X) → get m k ≡ Some v → insert (remove m k) k v ≡ m
  put_back m k v there =
      alike _ m (at_each (λ q. get (insert (remove m k) k v) q ≡ get m q) k
      (get-insert_same (remove m k) k v ∙ sym there)
      (λ q apart. get-insert_other (remove m k) k v q apart ∙ get-remove_other m k q apart))

  -- The last value under a key counts.
  pub insert_again : (m : Map X) (k : ℕ) (v w : X) → insert (insert m k v) k w ≡ insert m k w
  insert_again m k v w =
      alike _ _ (at_each (λ q. get (insert (insert m k v) k w) q ≡ get (insert m k w) q) k
      (get-insert_same (insert m k v) k w ∙ sym (get-insert_same m k w))
      (λ q apart. get-insert_other (insert m k v) k w q apart ∙ get-insert_other m k v q apart ∙ sym (get-insert_other m k w q apart)))

  pub insert_removed : (m : Map X) (k : ℕ) (v : X) → insert (remove m k) k v ≡ insert m k v
  insert_removed m k v =
      alike _ _ (at_each (λ q. get (insert (remove m k) k v) q ≡ get (insert m k v) q) k
      (get-insert_same (remove m k) k v ∙ sym (get-insert_same m k v))
      (λ q apart. get-insert_other (remove m k) k v q apart ∙ get-remove_other m k q apart ∙ sym (get-insert_other m k v q apart)))

  pub remove_inserted : (m : Map X) (k : ℕ) (v : X) → get m k ≡ None → remove (insert m k v) k ≡ m
  remove_inserted m k v free =
      alike _ _ (at_each (λ q. get (remove (insert m k v) k) q ≡ get m q) k
      (get-remove_same (insert m k v) k ∙ sym free)
      (λ q apart. get-remove_other (insert m k v) k q apart ∙ get-insert_other m k v q apart))

  -- Without an entry there is nothing to remove.
  pub remove_absent : (m : Map X) (k : ℕ) → get m k ≡ None → remove m k ≡ m
  remove_absent m k free =
      alike _ _ (at_each (λ q. get (remove m k) q ≡ get m q) k
      (get-remove_same m k ∙ sym free)
      (λ q apart. get-remove_other m k q apart))

  -- What is there may be put again.
  pub insert_same : (m : Map X) (k : ℕ) (v : X) → get m k ≡ Some v → insert m k v ≡ m
  insert_same m k v there =
      alike _ m (at_each (λ q. get (insert m k v) q ≡ get m q) k
      (get-insert_same m k v ∙ sym there)
      (λ q apart. get-insert_other m k v q apart))

  -- A fact of each key and what is there, after an insert.
  pub each_inserted : (P : ℕ → Option X → Type 0) (m : Map X) (k : ℕ) (v : X) → P k (Some v) → ((q : ℕ) → q ≢ k → P q (get m q)) → (q : ℕ) → P q (get (insert m k v) q)
  each_inserted P m k v here others =
      at_each (λ q. P q (get (insert m k v) q)) k
      (subst (P k) (sym (get-insert_same m k v)) here)
      (λ q apart. subst (P q) (sym (get-insert_other m k v q apart)) (others q apart))

  -- The same after a remove.
  pub each_removed : (P : ℕ → Option X → Type 0) (m : Map X) (k : ℕ) → P k None → ((q : ℕ) → q ≢ k → P q (get m q)) → (q : ℕ) → P q (get (remove m k) q)
  each_removed P m k here others =
      at_each (λ q. P q (get (remove m k) q)) k
      (subst (P k) (sym (get-remove_same m k)) here)
      (λ q apart. subst (P q) (sym (get-remove_other m k q apart)) (others q apart))
