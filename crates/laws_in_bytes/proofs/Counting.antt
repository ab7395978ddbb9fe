-- Maps whose keys are below a number have together at most as many entries, if they have no key in common.
use Rattle.std.proofs.Common.{◌≡◌, ◌⊎◌, inl, inr, ℕ, zero, suc, ◌+◌, ◌-◌, ◌<◌, ◌≤◌, Bool, true, false, cond, nat_eq, nat_le, Option, None, Some, is_some, refl, sym, ap, ◌∙◌, arith}
use Rattle.std.specs.Cmp.{nat_cmp_total}
use Rattle.std.specs.FinMap.{nat_cmp-IsAntisymmetric}
use Rattle.std.specs.FinMap as map
use Rattle.std.specs.Ordering.{nat_cmp}
use Rattle.std.proofs.lemmas.Bool.{leb-true}
use Rattle.finite_maps.specs.Tally.{Map}
use Rattle.finite_maps.proofs.Tested.{at_put, equal, get_cut, get_put}
use Rattle.rpc_machine.specs.Fullness.{has_no_room}
use Rattle.rpc_machine.specs.Limits.{table_limit}

-- No key is n or more.
abbrev pub AreBelow : {X : Type 0} → ℕ → Map X → Type 0
AreBelow n m = (k : ℕ) → n ≤ k → map.get m k ≡ None

one_less : (b : Bool) (l k : ℕ) → k ≡ cond b (l - 1) l → l ≤ k + 1
one_less true l k e = omega (arith, e)
one_less false l k e = omega (arith, e)

module _ {X : Type 0} where
  empty_has_none : (m : Map X) → AreBelow 0 m → map.len m ≡ 0
  empty_has_none m below =
      ap (λ (n : Map X). map.len n) (map.same_map nat_cmp_total nat_cmp-IsAntisymmetric m map.empty (λ q. below q (omega arith) ∙ sym (map.get-empty nat_cmp q)))
      ∙ map.len-empty nat_cmp X

  without_last : (n : ℕ) (m : Map X) → AreBelow (suc n) m → AreBelow n (map.remove m n)
  without_last n m below k le = get_cut m n k ∙ by (nat_eq k n) refl
    where
      by : (b : Bool) → nat_eq k n ≡ b → cond b None (map.get m k) ≡ None
      by true e = refl
      by false e = below k (grind (arith, e, le))

  pub few : (n : ℕ) (m : Map X) → AreBelow n m → map.len m ≤ n
  few zero m below = let none = empty_has_none m below in omega (arith, none)
  few (suc n) m below =
      let rest = few n (map.remove m n) (without_last n m below) in
      let more = one_less (map.contains_key m n) (map.len m) (map.len (map.remove m n)) (map.len-remove nat_cmp_total m n) in
      omega (arith, rest, more)

  pub put_below : (n k : ℕ) (x : X) (m : Map X) → k < n → AreBelow n m → AreBelow n (map.insert m k x)
  put_below n k x m lt below = at_put (λ j o. n ≤ j → o ≡ None) m k x (λ le. absurd (omega (arith, lt, le))) (λ j other le. below j le)

-- ---- two maps without a key in common

same_len : {X : Type 0} (m : Map X) (k : ℕ) → map.get m k ≡ None → map.len (map.remove m k) ≡ map.len m
same_len {X = X} m k none = map.len-remove nat_cmp_total m k ∙ ap (λ (o : Option X). cond (is_some o) (map.len m - 1) (map.len m)) none

one_fewer : {X : Type 0} (m : Map X) (k : ℕ) → map.len m ≤ map.len (map.remove m k) + 1
one_fewer m k = one_less (map.contains_key m k) (map.len m) (map.len (map.remove m k)) (map.len-remove nat_cmp_total m k)

-- Each id is a key of one of them at most.
abbrev pub AreApart : {X Y : Type 0} → Map X → Map Y → Type 0
AreApart m k = (q : ℕ) → (map.get m q ≡ None) ⊎ (map.get k q ≡ None)

still_apart : {X Y : Type 0} (m : Map X) (k : Map Y) (n : ℕ) → AreApart m k → AreApart (map.remove m n) (map.remove k n)
still_apart m k n apart q = by (nat_eq q n) (get_cut m n q) (get_cut k n q) (apart q)
  where
    by : (b : Bool) → map.get (map.remove m n) q ≡ cond b None (map.get m q) → map.get (map.remove k n) q ≡ cond b None (map.get k q) → (map.get m q ≡ None) ⊎ (map.get k q ≡ None)
        → (map.get (map.remove m n) q ≡ None) ⊎ (map.get (map.remove k n) q ≡ None)
    by true e f o = inl e
    by false e f (inl none) = inl (e ∙ none)
    by false e f (inr none) = inr (f ∙ none)

-- Both together have at most as many entries as there are ids.
pub few_apart : {X Y : Type 0} (n : ℕ) (m : Map X) (k : Map Y) → AreBelow n m → AreBelow n k → AreApart m k → map.len m + map.len k ≤ n
few_apart zero m k below below_too apart =
    let a = few 0 m below in
    let b = few 0 k below_too in
    omega (arith, a, b)
few_apart (suc n) m k below below_too apart =
    let rest = few_apart n (map.remove m n) (map.remove k n) (without_last n m below) (without_last n k below_too) (still_apart m k n apart) in
    let a = one_fewer m n in
    let b = one_fewer k n in
    by rest a b (apart n)
  where
    by : map.len (map.remove m n) + map.len (map.remove k n) ≤ n → map.len m ≤ map.len (map.remove m n) + 1 → map.len k ≤ map.len (map.remove k n) + 1 → (map.get m n ≡ None) ⊎ (map.get k n ≡ None)
        → map.len m + map.len k ≤ suc n
    by rest a b (inl none) = let same = same_len m n none in omega (arith, rest, b, same)
    by rest a b (inr none) = let same = same_len k n none in omega (arith, rest, a, same)

-- ---- so there is room for one that is new

abbrev nothing : Map (Unit {0})
nothing = map.empty

-- that id alone
abbrev only : ℕ → Map (Unit {0})
only k = map.insert nothing k tt

only_one : (k : ℕ) → map.len (only k) ≡ 1
only_one k =
    let none = map.len-empty nat_cmp (Unit {0}) in
    let one = map.len-insert nat_cmp_total nothing k tt ∙ ap (λ (o : Option (Unit {0})). cond (is_some o) (map.len nothing) (map.len nothing + 1)) (map.get-empty nat_cmp k) in
    omega (arith, none, one)

apart_from : {X : Type 0} (m : Map X) (k : ℕ) → map.get m k ≡ None → AreApart m (only k)
apart_from m k none q = by (nat_eq q k) refl (get_put nothing k tt q)
  where
    by : (b : Bool) → nat_eq q k ≡ b → map.get (only k) q ≡ cond b (Some tt) (map.get nothing q) → (map.get m q ≡ None) ⊎ (map.get (only k) q ≡ None)
    by true e f = inl (ap (λ (j : ℕ). map.get m j) (equal q k e) ∙ none)
    by false e f = inr (f ∙ map.get-empty nat_cmp q)

pub has_room : {X : Type 0} (m : Map X) (k : ℕ) → AreBelow table_limit m → k < table_limit → map.get m k ≡ None → has_no_room m ≡ false
has_room m k below lt none = by (nat_le table_limit (map.len m)) refl
  where
    by : (b : Bool) → nat_le table_limit (map.len m) ≡ b → nat_le table_limit (map.len m) ≡ false
    by false e = e
    by true e =
        let full = leb-true table_limit (map.len m) e in
        let both = few_apart table_limit m (only k) below (put_below table_limit k tt nothing lt (λ j le. map.get-empty nat_cmp j)) (apart_from m k none) in
        let one = only_one k in
        absurd (omega (arith, full, both, one))
