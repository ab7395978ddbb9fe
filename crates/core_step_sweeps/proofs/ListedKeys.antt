-- Keys that have an entry stay listed.
use Rattle.std.proofs.Common.{◌≡◌, ◌≢◌, ◌⊎◌, inl, inr, ℕ, ◌==◌, true, List, [], ◌∷◌, ◌++◌, length, Option, None, Some, refl, sym, ◌∙◌, arith}
use Rattle.std.specs.Ordering.{nat_cmp}
use Rattle.std.specs.List.{Contains}
use Rattle.std.proofs.lemmas.List.Elements.{Contains-append_left, Contains-push, Contains-push_cases}
use Rattle.std.specs.FinMap as map
use Rattle.finite_maps.specs.Tally.{Map}
use Rattle.finite_maps.proofs.Gets.{alike, at_each, get-insert_other, get-remove_same, get-remove_other}
use Rattle.core_step_sweeps.specs.Listed.{AreListed}
use Rattle.laws_acts.proofs.Loose.{in_none}

pub listed_empty : AreListed map.empty []
listed_empty = λ k none. map.get-empty nat_cmp k

-- A new key is listed last.
pub listed_more : (m : Map ℕ) (keys : List ℕ) (k v : ℕ) → AreListed m keys → AreListed (map.insert m k v) (keys ++ k ∷ [])
listed_more m keys k v h =
    at_each (λ j. ¬ (Contains (keys ++ k ∷ []) j) → map.get (map.insert m k v) j ≡ None) k
    (λ none. absurd (none (Contains-push keys k)))
    (λ j far none. get-insert_other m k v j far ∙ h j (λ there. none (Contains-append_left keys (k ∷ []) j there)))

both_ways : (v : ℕ) → ◌≡◌ {A = Option ℕ} (Some v) None → ⊥
both_ways v e = cc

-- Another number under a key that has one.
pub listed_set : (m : Map ℕ) (keys : List ℕ) (k v w : ℕ) → map.get m k ≡ Some w → AreListed m keys → AreListed (map.insert m k v) keys
listed_set m keys k v w there h =
    at_each (λ j. ¬ (Contains keys j) → map.get (map.insert m k v) j ≡ None) k
    (λ none. absurd (both_ways w (sym there ∙ h k none)))
    (λ j far none. get-insert_other m k v j far ∙ h j none)

-- The last key goes, with its number.
pub listed_less : (m : Map ℕ) (keys : List ℕ) (k : ℕ) → AreListed m (keys ++ k ∷ []) → AreListed (map.remove m k) keys
listed_less m keys k h =
    at_each (λ j. ¬ (Contains keys j) → map.get (map.remove m k) j ≡ None) k
    (λ none. get-remove_same m k)
    (λ j far none. get-remove_other m k j far ∙ h j (λ there. by j far none (Contains-push_cases keys k j there)))
  where
    by : (j : ℕ) → j ≢ k → ¬ (Contains keys j) → Contains keys j ⊎ (k ≡ j) → ⊥
    by j far none (inl there) = none there
    by j far none (inr same) = far (sym same)

-- Where no key is listed, nothing is there.
pub listed_none : (m : Map ℕ) → AreListed m [] → m ≡ map.empty
listed_none m h = alike m map.empty (λ k. h k (in_none k) ∙ sym (map.get-empty nat_cmp k))

pub none_listed : (keys : List ℕ) → (length keys == 0) ≡ true → keys ≡ []
none_listed [] e = refl
none_listed (k ∷ ks) e = absurd (grind (arith, e))
