-- The entries of a map stand by rising key: what that says of the first entry and those behind it.
use Rattle.std.proofs.Common.{◌≡◌, ℕ, Bool, true, false, ◌&&◌, cond, List, [], ◌∷◌, Some, refl, sym, ap, subst, ◌∙◌, arith, T}
use Rattle.std.specs.Ordering.{nat_cmp, eq_by_cmp, is_lt}
use Rattle.std.specs.FinMap.Entries as entries
use Rattle.finite_maps.proofs.Tested.{ties, equal, itself}

-- A key that is below all others is found before them.
not_below : (q : ℕ) (x : ℕ) → T (is_lt (nat_cmp x q)) → eq_by_cmp nat_cmp q x ≡ false
not_below q x h = grind (arith)

module _ {X : Type 0} where
  -- None of the keys behind is the first one.
  pub behind : (e : ℕ) (xs : List (ℕ × X)) (k : ℕ) (x : X) → T (entries.below_all nat_cmp e xs) → entries.find nat_cmp k xs ≡ Some x → eq_by_cmp nat_cmp k e ≡ false
  behind e [] k x b g = cc
  behind e (y ∷ ys) k x b g = at (behind e ys k x) (is_lt (nat_cmp e y.0)) refl b (eq_by_cmp nat_cmp k y.0) refl g
    where
      at : (T (entries.below_all nat_cmp e ys) → entries.find nat_cmp k ys ≡ Some x → eq_by_cmp nat_cmp k e ≡ false) → (c : Bool) → is_lt (nat_cmp e y.0) ≡ c → T (c && entries.below_all nat_cmp e ys) → (d : Bool) → eq_by_cmp nat_cmp k y.0 ≡ d → cond d (Some y.1) (entries.find nat_cmp k ys) ≡ Some x → eq_by_cmp nat_cmp k e ≡ false
      at rest false p q d r j = absurd q
      at rest true p q true r j = subst (λ (m : ℕ). eq_by_cmp nat_cmp m e ≡ false) (sym (equal k y.0 (sym (ties k y.0) ∙ r))) (not_below y.0 e (subst (λ (c : Bool). T c) (sym p) tt))
      at rest true p q false r j = rest q j

  pub first_entry : (e : ℕ × X) (es : List (ℕ × X)) → entries.find nat_cmp e.0 (e ∷ es) ≡ Some e.1
  first_entry e es = ap (λ b. cond b (Some e.1) (entries.find nat_cmp e.0 es)) (ties e.0 e.0 ∙ itself e.0)

  -- What stands behind is found behind.
  pub later_entry : (e : ℕ × X) (es : List (ℕ × X)) (k : ℕ) → eq_by_cmp nat_cmp k e.0 ≡ false → entries.find nat_cmp k (e ∷ es) ≡ entries.find nat_cmp k es
  later_entry e es k h = ap (λ b. cond b (Some e.1) (entries.find nat_cmp k es)) h

  pub sorted_tail : (e : ℕ) (es : List (ℕ × X)) → T (entries.below_all nat_cmp e es && entries.is_sorted nat_cmp es) → T (entries.below_all nat_cmp e es) × T (entries.is_sorted nat_cmp es)
  sorted_tail e es h = by (entries.below_all nat_cmp e es) h
    where
      by : (b : Bool) → T (b && entries.is_sorted nat_cmp es) → T b × T (entries.is_sorted nat_cmp es)
      by true g = (tt, g)
      by false g = absurd g
