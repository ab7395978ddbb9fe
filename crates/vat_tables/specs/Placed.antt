-- Entries under numbers, of which the low ones have places of their own, and the others are hashed.
use Rattle.std.specs.Prelude.{◌≡◌, ℕ, ◌-◌, ◌<◌, min, List, ◌++◌, length, nat_eq, slice_index_or, Option, None, IsSome}
use Rattle.std.specs.Ordering.{nat_cmp}
use Rattle.std.specs.FinMap as map
use Rattle.std.specs.HashMap as hash
use Rattle.std.specs.HashMap.{HashMap, spare}
use Rattle.slab.specs.Slab.{entries_from}
use Rattle.vat_tables.specs.Table.{Table}

module _ {X S : Type 0} where
  -- the entries in their places, each under the number of its place, and those that are hashed
  abbrev pub entries_both : List (Option X) → HashMap ℕ X S → map.FinMap nat_cmp X
  entries_both places m = map.from_entries (entries_from 0 places ++ m.entries)

  -- the table of them, which counts its entries in 64 bits
  abbrev pub table_of_both : List (Option X) → HashMap ℕ X S → ℕ → Table X
  table_of_both places m len = record { entries = entries_both places m; room = min (spare m) (18446744073709551615 - len) }

  -- no number that has a place is hashed
  abbrev pub IsApart : List (Option X) → HashMap ℕ X S → Type 0
  IsApart places m = (q : ℕ) → q < length places → hash.get nat_eq m q ≡ None

-- each place has the entry that it had, and new ones have none
abbrev pub HasSamePlaces : {X : Type 0} → List (Option X) → List (Option X) → Type 0
HasSamePlaces old new = (q : ℕ) → slice_index_or new q None ≡ slice_index_or old q None

-- each entry stands under an id
abbrev pub UnderIds : {X : Type 0} → map.FinMap nat_cmp X → Type 0
UnderIds m = (k : ℕ) → IsSome (map.get m k) → k < 4294967296
