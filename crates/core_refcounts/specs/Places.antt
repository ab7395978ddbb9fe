-- What a counter keeps free.
use Rattle.std.specs.Prelude.{◌+◌, ◌≤◌, ℕ}
use Rattle.std.specs.FinMap as map
use Rattle.vat_tables.specs.Table.{Table}

-- So many new keys can be counted, and each key that has a count or gets one, and so many others, can be noted in a list
-- of that length and capacity.
pub record HasPlaces (numbers : Table ℕ) (len capacity spare room : ℕ) : Type 0 where
  pub for_counts : room ≤ numbers.room
  pub for_notes : len + map.len numbers.entries + spare + room ≤ capacity
