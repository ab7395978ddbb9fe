-- Entries by rising number, in places that stay when their entries are taken out.
use Rattle.std.specs.Prelude.{◌≡◌, ℕ, ◌<◌, ◌≤◌, T, List, [], ◌∷◌, length, slice_index_or, Option, Some, None}
use Rattle.std.specs.Ordering.{nat_cmp}
use Rattle.std.specs.FinMap as map
use Rattle.std.specs.FinMap.{is_sorted}
use Rattle.std.specs.FinMap.Entries.{find}
use Rattle.rising_table.specs.Table.{Table}

-- The numbers strictly rise, so none comes twice.
abbrev pub IsRising : {X : Type 0} → List (ℕ × X) → Type 0
IsRising es = T (is_sorted nat_cmp es)

abbrev pub number_at : {X : Type 0} → List (ℕ × X) → ℕ → ℕ × X → ℕ
number_at es i d = let place = slice_index_or es i d in place.0

-- Place i has the number.
pub record IsAt {X : Type 0} (es : List (ℕ × X)) (number i : ℕ) : Type 0 where
  pub in_range : i < length es
  pub has_number : (d : ℕ × X) → number_at es i d ≡ number

-- The number would stand at place i: smaller ones before it, and greater ones from it on.
pub record IsGapFor {X : Type 0} (es : List (ℕ × X)) (number i : ℕ) : Type 0 where
  pub in_range : i ≤ length es
  pub smaller_before : (j : ℕ) (d : ℕ × X) → j < i → number_at es j d < number
  pub greater_after : (j : ℕ) (d : ℕ × X) → i ≤ j → j < length es → number < number_at es j d

-- No place has the number.
abbrev pub IsAbsent : {X : Type 0} → List (ℕ × X) → ℕ → Type 0
IsAbsent es number = find nat_cmp number es ≡ None

-- All numbers are below this one.
abbrev pub AllBelow : {X : Type 0} → ℕ → List (ℕ × X) → Type 0
AllBelow number [] = Unit {0}
AllBelow number (e ∷ es) = (e.0 < number) × AllBelow number es

module _ {X : Type 0} where
  abbrev pub entry_at : List (ℕ × Option X) → ℕ → ℕ × Option X → Option X
  entry_at ps i d = let place = slice_index_or ps i d in place.1

  abbrev pub with_entry_of : ℕ → Option X → List (ℕ × X) → List (ℕ × X)
  with_entry_of number (Some x) rest = (number, x) ∷ rest
  with_entry_of number None rest = rest

  -- the entries that were not taken out
  abbrev pub present : List (ℕ × Option X) → List (ℕ × X)
  present [] = []
  present (p ∷ ps) = with_entry_of p.0 p.1 (present ps)

  -- the table of these places, with room for so many more
  abbrev pub table_of_places : List (ℕ × Option X) → ℕ → Table X
  table_of_places ps room = record { entries = map.from_entries (present ps); room = room }
