-- Keys that have an entry are listed.
use Rattle.std.specs.Prelude.{◌≡◌, ℕ, None, List}
use Rattle.std.specs.List.{Contains}
use Rattle.std.specs.FinMap as map
use Rattle.finite_maps.specs.Tally.{Map}

-- Each key that is not listed has no entry.
abbrev pub AreListed : Map ℕ → List ℕ → Type 0
AreListed m keys = (k : ℕ) → ¬ (Contains keys k) → map.get m k ≡ None
