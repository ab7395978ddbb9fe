-- Three lists of waiting calls, to which calls go in turn.
use Rattle.std.specs.Prelude.{ℕ, ◌≡◌, ◌⊎◌, List, IsSome}
use Rattle.std.specs.Ordering.{nat_cmp}
use Rattle.std.specs.FinMap as map
use Rattle.vat_tables.specs.declared.held_pool.ListKey.{ListKey}
use Rattle.bench_parts.specs.declared.pool.Lists.{Lists}

abbrev pub IsOneOf : Lists → ListKey → Type 0
IsOneOf l key = (key ≡ l.first) ⊎ ((key ≡ l.second) ⊎ (key ≡ l.third))

abbrev pub IsThere : map.FinMap nat_cmp (List ℕ) → ListKey → Type 0
IsThere m key = IsSome (map.get m key.0)

abbrev pub AreThere : Lists → map.FinMap nat_cmp (List ℕ) → Type 0
AreThere l m = IsThere m l.first × IsThere m l.second × IsThere m l.third
