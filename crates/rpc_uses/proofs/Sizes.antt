-- Maps whose keys are among those of another have no more entries; with as many they have the same keys.
use Rattle.std.proofs.Common.{◌≡◌, ℕ, zero, suc, ◌≤◌, true, false, List, [], ◌∷◌, length, Option, None, Some, IsSome, refl, sym, ap, subst, ◌∙◌, arith}
use Rattle.std.specs.Ordering.{nat_cmp}
use Rattle.std.specs.FinMap as map
use Rattle.std.specs.FinMap.Entries as entries
use Rattle.finite_maps.specs.Tally.{Map}
use Rattle.finite_maps.proofs.Gets.{at_each, get-remove_same, get-remove_other}
use Rattle.finite_maps.proofs.Lens.{len_gone}
use Rattle.finite_maps.proofs.Sorted.{first_entry}

-- Each key of the first map is a key of the second.
abbrev pub AreKeysOf : {X Y : Type 0} → Map X → Map Y → Type 0
AreKeysOf m n = (k : ℕ) → IsSome (map.get m k) → IsSome (map.get n k)

none_there : {X : Type 0} (o : Option X) → o ≡ None → IsSome o → ⊥
none_there None e h = let f : false ≡ true = h in cc
none_there (Some x) e h = cc

some_there : {X : Type 0} (o : Option X) (x : X) → o ≡ Some x → IsSome o
some_there (Some y) x e = refl
some_there None x e = cc

first_there : {X : Type 0} (m : Map X) (e : ℕ × X) (es : List (ℕ × X)) → map.entries m ≡ e ∷ es → map.get m e.0 ≡ Some e.1
first_there {X} m e es is = map.get-entries m e.0 ∙ ap (λ (xs : List (ℕ × X)). entries.find nat_cmp e.0 xs) is ∙ first_entry e es

module _ {X Y : Type 0} where
  -- Without a key that both have, each key of the first is still one of the second.
  keys_but_one : (m : Map X) (n : Map Y) (k : ℕ) → AreKeysOf m n → AreKeysOf (map.remove m k) (map.remove n k)
  keys_but_one m n k h =
      at_each (λ q. IsSome (map.get (map.remove m k) q) → IsSome (map.get (map.remove n k) q)) k
      (λ there. absurd (none_there (map.get (map.remove m k) k) (get-remove_same m k) there))
      (λ q apart there. subst (λ (o : Option Y). IsSome o) (sym (get-remove_other n k q apart)) (h q (subst (λ (o : Option X). IsSome o) (get-remove_other m k q apart) there)))

  -- A key that the first has not isn't needed in the second.
  keys_without : (m : Map X) (n : Map Y) (k : ℕ) → map.get m k ≡ None → AreKeysOf m n → AreKeysOf m (map.remove n k)
  keys_without m n k free h =
      at_each (λ q. IsSome (map.get m q) → IsSome (map.get (map.remove n k) q)) k
      (λ there. absurd (none_there (map.get m k) free there))
      (λ q apart there. subst (λ (o : Option Y). IsSome o) (sym (get-remove_other n k q apart)) (h q there))

  -- An entry less in each.
  one_less : (m : Map X) (n : Map Y) (c k : ℕ) (x : X) (y : Option Y) → map.len m ≡ suc c → map.get m k ≡ Some x → map.get n k ≡ y → IsSome y → (map.len (map.remove m k) ≡ c → c ≤ map.len (map.remove n k)) → suc c ≤ map.len n
  one_less m n c k x None size here there some less = absurd (let f : false ≡ true = some in cc)
  one_less m n c k x (Some y) size here there some less =
      let a = len_gone m k x here in
      let b = len_gone n k y there in
      let e = less (omega (arith, a, size)) in
      omega (arith, b, e)

  pub no_more_keys : (c : ℕ) (m : Map X) (n : Map Y) → map.len m ≡ c → AreKeysOf m n → c ≤ map.len n
  no_more_keys zero m n size h = omega arith
  no_more_keys (suc c) m n size h = by (map.entries m) refl (λ k less. no_more_keys c (map.remove m k) (map.remove n k) less (keys_but_one m n k h))
    where
      by : (es : List (ℕ × X)) → map.entries m ≡ es → ((k : ℕ) → map.len (map.remove m k) ≡ c → c ≤ map.len (map.remove n k)) → suc c ≤ map.len n
      by [] is rest = absurd (let a = map.len-entries m in let b = ap length is in omega (arith, a, b, size))
      by (e ∷ es) is rest =
          let here = first_there m e es is in
          one_less m n c e.0 e.1 (map.get n e.0) size here refl (h e.0 (some_there (map.get m e.0) e.1 here)) (rest e.0)

  too_few : (m : Map X) (n : Map Y) (k : ℕ) (y : Option Y) → AreKeysOf m n → map.len m ≡ map.len n → map.get m k ≡ None → map.get n k ≡ y → IsSome y → ⊥
  too_few m n k None h same free there some = let f : false ≡ true = some in cc
  too_few m n k (Some y) h same free there some =
      let a = no_more_keys (map.len m) m (map.remove n k) refl (keys_without m n k free h) in
      let b = len_gone n k y there in
      omega (arith, a, b, same)

  pub same_keys : (m : Map X) (n : Map Y) → AreKeysOf m n → map.len m ≡ map.len n → AreKeysOf n m
  same_keys m n h same k there = by (map.get m k) refl
    where
      by : (o : Option X) → map.get m k ≡ o → IsSome (map.get m k)
      by None is = absurd (too_few m n k (map.get n k) h same is refl there)
      by (Some x) is = some_there (map.get m k) x is
