-- Words for lists and finite maps that the definitions share.
use Rattle.std.specs.Prelude.{ℕ, suc, Bool, true, false, cond, Option, None, Some, List, [], ◌∷◌, ◌++◌}
use Rattle.std.specs.FinMap as map
use Rattle.finite_maps.specs.Tally.{Map}
use Rattle.rpc_journal.specs.History.{or_rest}

-- How many pass the test.
abbrev pub how_many : {X : Type 0} → (X → Bool) → List X → ℕ
how_many test [] = 0
how_many test (x ∷ xs) = cond (test x) (suc (how_many test xs)) (how_many test xs)

-- What all entries of a map give, by rising key.
abbrev pub from_each : {X Y : Type 0} → (ℕ → X → List Y) → List (ℕ × X) → List Y
from_each f [] = []
from_each f (e ∷ es) = f e.0 e.1 ++ from_each f es

abbrev pub of_map : {X Y : Type 0} → (ℕ → X → List Y) → Map X → List Y
of_map f m = from_each f (map.entries m)

-- The entry with that key, changed, if there is one.
abbrev pub updated : {X : Type 0} → Map X → ℕ → (X → X) → Option X → Map X
updated m k f None = m
updated m k f (Some x) = map.insert m k (f x)

abbrev pub update : {X : Type 0} → Map X → ℕ → (X → X) → Map X
update m k f = updated m k f (map.get m k)

-- What the first check that fails says.
abbrev pub earliest : {X : Type 0} → List (Option X) → Option X
earliest [] = None
earliest (c ∷ cs) = or_rest c (earliest cs)

abbrev pub is_empty : {X : Type 0} → List X → Bool
is_empty [] = true
is_empty (x ∷ xs) = false
