-- Sums over the entries of a map from numbers, and the map with other values under the same keys.
use Rattle.std.specs.Prelude.{ℕ, ◌+◌, Option, None, Some, List, [], ◌∷◌}
use Rattle.std.specs.Ordering.{nat_cmp}
use Rattle.std.specs.FinMap.{FinMap, entries, from_sorted}

-- A finite map from numbers.
abbrev pub Map : Type 0 → Type 0
Map X = FinMap nat_cmp X

abbrev pub tally_of : {X : Type 0} → (X → ℕ) → List (ℕ × X) → ℕ
tally_of f [] = 0
tally_of f (e ∷ es) = f e.1 + tally_of f es

-- The sum of what each value counts for.
abbrev pub tally : {X : Type 0} → (X → ℕ) → Map X → ℕ
tally f m = tally_of f (entries m)

-- What the value under a key counts for; without one, nothing.
abbrev pub worth : {X : Type 0} → (X → ℕ) → Option X → ℕ
worth f None = 0
worth f (Some x) = f x

abbrev pub option_changed : {X Y : Type 0} → (X → Y) → Option X → Option Y
option_changed f None = None
option_changed f (Some x) = Some (f x)

abbrev pub changed_each : {X Y : Type 0} → (X → Y) → List (ℕ × X) → List (ℕ × Y)
changed_each f [] = []
changed_each f (e ∷ es) = (e.0, f e.1) ∷ changed_each f es

-- The same keys, each with its value changed.
abbrev pub map_values : {X Y : Type 0} → (X → Y) → Map X → Map Y
map_values f m = from_sorted (changed_each f (entries m))
