-- A map whose keys all have entries in one of two maps has no more entries than both.
use Rattle.std.proofs.Common.{◌≡◌, ◌⊎◌, inl, inr, ℕ, ◌+◌, ◌≤◌, Bool, true, false, cond, nat_eq, List, [], ◌∷◌, ◌++◌, length, Option, None, Some, IsSome, refl, sym, ap, subst, ◌∙◌, arith}
use Rattle.std.specs.Ordering.{nat_cmp, eq_by_cmp}
use Rattle.std.specs.FinMap as map
use Rattle.std.specs.FinMap.Entries as entries
use Rattle.finite_maps.specs.Tally.{Map}
use Rattle.finite_maps.proofs.Gets.{alike, remove_absent}
use Rattle.finite_maps.proofs.Lens.{len_gone}
use Rattle.finite_maps.proofs.Tested.{ties, equal, get_cut, itself}

abbrev IsAmong : ℕ → List ℕ → Type 0
IsAmong q [] = ⊥
IsAmong q (k ∷ ks) = (q ≡ k) ⊎ IsAmong q ks

in_front : (q : ℕ) (xs ys : List ℕ) → IsAmong q xs → IsAmong q (xs ++ ys)
in_front q [] ys h = absurd h
in_front q (x ∷ xs) ys (inl e) = inl e
in_front q (x ∷ xs) ys (inr h) = inr (in_front q xs ys h)

behind : (q : ℕ) (xs ys : List ℕ) → IsAmong q ys → IsAmong q (xs ++ ys)
behind q [] ys h = h
behind q (x ∷ xs) ys h = inr (behind q xs ys h)

both_lengths : (xs ys : List ℕ) → length (xs ++ ys) ≡ length xs + length ys
both_lengths [] ys = omega arith
both_lengths (x ∷ xs) ys = let e = both_lengths xs ys in omega (arith, e)

abbrev keys_of : {X : Type 0} → List (ℕ × X) → List ℕ
keys_of [] = []
keys_of (e ∷ es) = e.0 ∷ keys_of es

module _ {X : Type 0} where
  as_many : (es : List (ℕ × X)) → length (keys_of es) ≡ length es
  as_many [] = refl
  as_many (e ∷ es) = let h = as_many es in omega (arith, h)

  found : (es : List (ℕ × X)) (q : ℕ) → IsSome (entries.find nat_cmp q es) → IsAmong q (keys_of es)
  found [] q h = absurd (let bad : false ≡ true = h in cc)
  found (e ∷ es) q h = by (λ g. found es q g) (eq_by_cmp nat_cmp q e.0) refl h
    where
      by : (IsSome (entries.find nat_cmp q es) → IsAmong q (keys_of es)) → (b : Bool) → eq_by_cmp nat_cmp q e.0 ≡ b → IsSome (cond b (Some e.1) (entries.find nat_cmp q es)) → IsAmong q (e.0 ∷ keys_of es)
      by rest true f g = inl (equal q e.0 (sym (ties q e.0) ∙ f))
      by rest false f g = inr (rest g)

  abbrev keys : Map X → List ℕ
  keys m = keys_of (map.entries m)

  keys_len : (m : Map X) → length (keys m) ≡ map.len m
  keys_len m = as_many (map.entries m) ∙ sym (map.len-entries m)

  has_key : (m : Map X) (q : ℕ) → IsSome (map.get m q) → IsAmong q (keys m)
  has_key m q h = found (map.entries m) q (subst IsSome (map.get-entries m q) h)

  less : (m : Map X) (k : ℕ) (o : Option X) → map.get m k ≡ o → map.len m ≤ map.len (map.remove m k) + 1
  less m k None e = let h = ap map.len (remove_absent m k e) in omega (arith, h)
  less m k (Some x) e = let h = len_gone m k x e in omega (arith, h)

  -- All its keys are in a list.
  covered : (ks : List ℕ) (m : Map X) → ((q : ℕ) → IsSome (map.get m q) → IsAmong q ks) → map.len m ≤ length ks
  covered [] m h = let e = ap map.len (alike m map.empty (λ q. none (map.get m q) (h q) ∙ sym (map.get-empty nat_cmp q))) in let f = none_in in omega (arith, e, f)
    where
      none : (o : Option X) → (IsSome o → ⊥) → o ≡ None
      none None g = refl
      none (Some x) g = absurd (g refl)

      none_in : map.len (map.empty {X = X} {R = nat_cmp}) ≡ 0
      none_in = map.len-empty nat_cmp X
  covered (k ∷ ks) m h =
      let a = covered ks (map.remove m k) (λ q g. rest q (nat_eq q k) refl (subst IsSome (get_cut m k q) g)) in
      let b = less m k (map.get m k) refl in
      omega (arith, a, b)
    where
      other : (q : ℕ) → nat_eq q k ≡ false → (q ≡ k) ⊎ IsAmong q ks → IsAmong q ks
      other q f (inl e) = absurd (let bad : nat_eq q k ≡ true = ap (λ j. nat_eq j k) e ∙ itself k in cc)
      other q f (inr i) = i

      rest : (q : ℕ) (b : Bool) → nat_eq q k ≡ b → IsSome (cond b None (map.get m q)) → IsAmong q ks
      rest q true f g = absurd (let bad : false ≡ true = g in cc)
      rest q false f g = other q f (h q g)

pub in_two : {X Y : Type 0} (m : Map X) (s t : Map Y) → ((q : ℕ) → IsSome (map.get m q) → IsSome (map.get s q) ⊎ IsSome (map.get t q)) → map.len m ≤ map.len s + map.len t
in_two m s t h =
    let a = covered (keys s ++ keys t) m (λ q g. by q (h q g)) in
    let b = both_lengths (keys s) (keys t) in
    let c = keys_len s in
    let d = keys_len t in
    omega (arith, a, b, c, d)
  where
    by : (q : ℕ) → IsSome (map.get s q) ⊎ IsSome (map.get t q) → IsAmong q (keys s ++ keys t)
    by q (inl g) = in_front q (keys s) (keys t) (has_key s q g)
    by q (inr g) = behind q (keys s) (keys t) (has_key t q g)
