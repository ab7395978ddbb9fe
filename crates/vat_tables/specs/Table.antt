-- What contracts see of a table, and of one over a slab.
use Rattle.std.specs.Prelude.{ℕ, ◌-◌, ◌<◌, nat_le, cond}
use Rattle.std.specs.FinMap as map
use Rattle.slab.specs.Slab.{Slab, slab_len, entries, ContainsKey}
pub use Rattle.rising_table.specs.Table.{Table, table_code, with_entry}

module _ {Entry : Type 0} where
  -- so many more values fit with no allocation, each under a key that is an id
  abbrev pub slab_room : Slab Entry → ℕ
  slab_room s = cond (nat_le s.capacity 4294967296) (s.capacity - slab_len s) 0

  -- each value stands under a key that is an id
  abbrev pub HasIds : Slab Entry → Type 0
  HasIds s = (key : ℕ) → ContainsKey s key → key < 4294967296

  abbrev pub table_of_slab : Slab Entry → Table Entry
  table_of_slab s = record { entries = map.from_entries (entries s); room = slab_room s }
