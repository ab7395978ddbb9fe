-- What entries under rising numbers end as, where a `&mut` to one of them is returned.
use Rattle.std.specs.Prelude.{ℕ, Option}
use Rattle.std.specs.Borrow.{LendsIf, Fml, RattleType, MutBor}
use Rattle.rising_table.specs.Table.{Table, with_entry}
use Rattle.rising_table.specs.contracts.rising.Rising as rising

-- Once the borrow ends, the number has the last value written through it, and no other entry changed. Where the number is free,
-- all stays as it is.
abbrev pub lends_rising : (T : RattleType) → MutBor (Table T.Denot) → ℕ → Option (MutBor T.Denot) → Fml
lends_rising T t number r = LendsIf (rising.the_row T) T t r (with_entry t.now number) t.now
