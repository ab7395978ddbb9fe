-- Entries by rising id.
use Rattle.std.specs.Prelude.{◌≡◌, ℕ, ◌<◌, ◌≤◌, T, List, [], ◌∷◌, length, slice_index_or}
use Rattle.std.specs.Ordering.{nat_cmp}
use Rattle.std.specs.FinMap.{is_sorted}

-- The ids strictly rise, so none comes twice.
abbrev pub IsRising : {X : Type 0} → List (ℕ × X) → Type 0
IsRising es = T (is_sorted nat_cmp es)

abbrev pub id_at : {X : Type 0} → List (ℕ × X) → ℕ → ℕ × X → ℕ
id_at es i d = let entry = slice_index_or es i d in entry.0

-- The entry at place i has the id.
pub record IsAt {X : Type 0} (es : List (ℕ × X)) (id i : ℕ) : Type 0 where
  pub in_range : i < length es
  pub has_id : (d : ℕ × X) → id_at es i d ≡ id

-- The id would stand at place i: smaller ones before it, and greater ones from it on.
pub record IsGapFor {X : Type 0} (es : List (ℕ × X)) (id i : ℕ) : Type 0 where
  pub in_range : i ≤ length es
  pub smaller_before : (j : ℕ) (d : ℕ × X) → j < i → id_at es j d < id
  pub greater_after : (j : ℕ) (d : ℕ × X) → i ≤ j → j < length es → id < id_at es j d

-- All ids are below this one.
abbrev pub AllBelow : {X : Type 0} → ℕ → List (ℕ × X) → Type 0
AllBelow k [] = Unit {0}
AllBelow k (e ∷ es) = (e.0 < k) × AllBelow k es
