-- How many entries a map has after one change.
use Rattle.std.proofs.Common.{◌≡◌, ℕ, ◌+◌, ◌≤◌, List, [], ◌∷◌, length, Option, None, Some, IsSome, true, false, refl, sym, ap, ◌∙◌, arith}
use Rattle.std.specs.FinMap as map
use Rattle.finite_maps.specs.Tally.{Map, tally, tally_of}
use Rattle.finite_maps.proofs.Gets.{remove_absent}
use Rattle.finite_maps.proofs.Tallies.{tally-new, tally-split, tally-same}

module _ {X : Type 0} where
  abbrev one : X → ℕ
  one x = 1

  ones : (es : List (ℕ × X)) → tally_of one es ≡ length es
  ones [] = refl
  ones (e ∷ es) = let h = ones es in omega (arith, h)

  len_is : (m : Map X) → map.len m ≡ tally one m
  len_is m = map.len-entries m ∙ sym (ones (map.entries m))

  pub len_new : (m : Map X) (k : ℕ) (v : X) → map.get m k ≡ None → map.len (map.insert m k v) ≡ map.len m + 1
  len_new m k v free = let a = len_is m in let b = len_is (map.insert m k v) in let c = tally-new one m k v free in omega (arith, a, b, c)

  pub len_same : (m : Map X) (k : ℕ) (v w : X) → map.get m k ≡ Some v → map.len (map.insert m k w) ≡ map.len m
  len_same m k v w there = len_is (map.insert m k w) ∙ tally-same one m k v w there refl ∙ sym (len_is m)

  pub len_gone : (m : Map X) (k : ℕ) (v : X) → map.get m k ≡ Some v → map.len (map.remove m k) + 1 ≡ map.len m
  len_gone m k v there = let a = len_is m in let b = len_is (map.remove m k) in let c = tally-split one m k v there in omega (arith, a, b, c)

  -- another entry under a key that has one
  pub len_still : (m : Map X) (k : ℕ) (w : X) → IsSome (map.get m k) → map.len (map.insert m k w) ≡ map.len m
  len_still m k w there = by (map.get m k) refl there
    where
      by : (o : Option X) → map.get m k ≡ o → IsSome o → map.len (map.insert m k w) ≡ map.len m
      by None at h = absurd (let e : false ≡ true = h in cc)
      by (Some v) at h = len_same m k v w at

  -- an entry goes, if there is one
  pub len_fewer : (m : Map X) (k : ℕ) → map.len (map.remove m k) ≤ map.len m
  len_fewer m k = by (map.get m k) refl
    where
      by : (o : Option X) → map.get m k ≡ o → map.len (map.remove m k) ≤ map.len m
      by None at = let e = ap map.len (remove_absent m k at) in omega (arith, e)
      by (Some v) at = let e = len_gone m k v at in omega (arith, e)
