-- What a map answers after a change, by whether a test finds the keys equal.
use Rattle.std.proofs.Common.{◌≡◌, ◌≢◌, ℕ, Bool, true, false, cond, nat_eq, Option, None, Some, refl, sym, ap, subst, ◌∙◌, arith}
use Rattle.std.specs.Ordering.{nat_cmp, eq_by_cmp}
use Rattle.std.specs.Cmp.{nat_cmp_total}
use Rattle.std.specs.FinMap as map
use Rattle.finite_maps.specs.Tally.{Map}

pub ties : (q k : ℕ) → eq_by_cmp nat_cmp q k ≡ nat_eq q k
ties q k = grind (arith)

pub equal : (q k : ℕ) → nat_eq q k ≡ true → q ≡ k
equal q k e = grind (arith)

pub apart : (q k : ℕ) → nat_eq q k ≡ false → q ≢ k
apart q k e f = grind (arith)

pub untied : (q k : ℕ) → eq_by_cmp nat_cmp q k ≡ false → nat_eq q k ≡ false
untied q k e = sym (ties q k) ∙ e

pub sides : (q k : ℕ) → nat_eq q k ≡ nat_eq k q
sides q k = grind arith

pub itself : (k : ℕ) → nat_eq k k ≡ true
itself k = grind (arith)

pub get_put : {X : Type 0} (m : Map X) (k : ℕ) (x : X) (q : ℕ) → map.get (map.insert m k x) q ≡ cond (nat_eq q k) (Some x) (map.get m q)
get_put m k x q = map.get-insert nat_cmp_total m k x q ∙ ap (λ b. cond b (Some x) (map.get m q)) (ties q k)

pub get_cut : {X : Type 0} (m : Map X) (k : ℕ) (q : ℕ) → map.get (map.remove m k) q ≡ cond (nat_eq q k) None (map.get m q)
get_cut m k q = map.get-remove nat_cmp_total m k q ∙ ap (λ b. cond b None (map.get m q)) (ties q k)

pub get_other : {X : Type 0} (m : Map X) (k : ℕ) (x : X) (q : ℕ) → nat_eq q k ≡ false → map.get (map.insert m k x) q ≡ map.get m q
get_other m k x q e = get_put m k x q ∙ ap (λ b. cond b (Some x) (map.get m q)) e

pub get_left : {X : Type 0} (m : Map X) (k : ℕ) (q : ℕ) → nat_eq q k ≡ false → map.get (map.remove m k) q ≡ map.get m q
get_left m k q e = get_cut m k q ∙ ap (λ b. cond b None (map.get m q)) e

-- What is so at the key that changed, and was so at each other one, is so at each.
module _ {X : Type 0} (P : ℕ → Option X → Type 0) (m : Map X) (k : ℕ) where
  pub at_put : (x : X) → P k (Some x) → ((j : ℕ) → nat_eq j k ≡ false → P j (map.get m j)) → (j : ℕ) → P j (map.get (map.insert m k x) j)
  at_put x a h j = subst (P j) (sym (get_put m k x j)) (by (nat_eq j k) refl)
    where
      by : (b : Bool) → nat_eq j k ≡ b → P j (cond b (Some x) (map.get m j))
      by true e = subst (λ (i : ℕ). P i (Some x)) (sym (equal j k e)) a
      by false e = h j e

  pub at_cut : P k None → ((j : ℕ) → nat_eq j k ≡ false → P j (map.get m j)) → (j : ℕ) → P j (map.get (map.remove m k) j)
  at_cut a h j = subst (P j) (sym (get_cut m k j)) (by (nat_eq j k) refl)
    where
      by : (b : Bool) → nat_eq j k ≡ b → P j (cond b None (map.get m j))
      by true e = subst (λ (i : ℕ). P i None) (sym (equal j k e)) a
      by false e = h j e

-- The same of a map that answers as one that changed at a key.
pub at_changed : {X : Type 0} (P : Option X → Type 0) (m : Map X) (k : ℕ) (o : Option X) (n : Map X) → ((q : ℕ) → map.get n q ≡ cond (nat_eq q k) o (map.get m q)) → P o → ((q : ℕ) → P (map.get m q)) → (q : ℕ) → P (map.get n q)
at_changed P m k o n g y h q = subst P (sym (g q)) (by (nat_eq q k))
  where
    by : (b : Bool) → P (cond b o (map.get m q))
    by false = h q
    by true = y
