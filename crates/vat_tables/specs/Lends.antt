-- What a table ends as, where a `&mut` to one of its entries is returned.
use Rattle.std.specs.Prelude.{ℕ, Option}
use Rattle.std.specs.Borrow.{Lends, LendsIf, Fml, RattleType, MutBor}
use Rattle.vat_tables.specs.Table.{Table, with_entry}
use Rattle.vat_tables.specs.contracts.picked.Picked as picked
use Rattle.vat_tables.specs.contracts.slots.Slots as slots
use Rattle.vat_tables.specs.contracts.keyed.Keyed as keyed
use Rattle.vat_tables.specs.contracts.numbered.Numbered as numbered
use Rattle.vat_tables.specs.contracts.questions.Questions as questions

-- once the borrow ends, the key has the last value written through it, and no other entry changed
abbrev pub lends_present : (T : RattleType) → MutBor (Table T.Denot) → ℕ → MutBor T.Denot → Fml
lends_present T t key r = Lends (picked.the_row T) T t r (with_entry t.now key)

-- the same, where the key may be free: the table then stays as it is
abbrev pub lends_picked : (T : RattleType) → MutBor (Table T.Denot) → ℕ → Option (MutBor T.Denot) → Fml
lends_picked T t key r = LendsIf (picked.the_row T) T t r (with_entry t.now key) t.now

-- the same of a table under ids that it picks, up to its limit
abbrev pub lends_present_slot : (T : RattleType) → MutBor (Table T.Denot) → ℕ → MutBor T.Denot → Fml
lends_present_slot T t id r = Lends (slots.the_row T) T t r (with_entry t.now id)

abbrev pub lends_slot : (T : RattleType) → MutBor (Table T.Denot) → ℕ → Option (MutBor T.Denot) → Fml
lends_slot T t id r = LendsIf (slots.the_row T) T t r (with_entry t.now id) t.now

-- the same of a table under ids that the peer picks
abbrev pub lends_keyed : (T : RattleType) → MutBor (Table T.Denot) → ℕ → Option (MutBor T.Denot) → Fml
lends_keyed T t id r = LendsIf (keyed.the_row T) T t r (with_entry t.now id) t.now

-- the same of entries under numbers
abbrev pub lends_number : (T : RattleType) → MutBor (Table T.Denot) → ℕ → Option (MutBor T.Denot) → Fml
lends_number T t number r = LendsIf (numbered.the_row T) T t r (with_entry t.now number) t.now

-- the same of a table of questions
abbrev pub lends_question : (T : RattleType) → MutBor (Table T.Denot) → ℕ → Option (MutBor T.Denot) → Fml
lends_question T t id r = LendsIf (questions.the_row T) T t r (with_entry t.now id) t.now
