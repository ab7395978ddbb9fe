-- What contracts see of a table.
use Rattle.std.specs.Prelude.{ℕ, refl}
use Rattle.std.specs.Ordering.{nat_cmp}
use Rattle.std.specs.FinMap as map
use Rattle.std.specs.Coded.{Coded, code_by, coded×, coded_ℕ}

-- the entries by id, and how many new ones need no more memory
pub record Table (Entry : Type 0) : Type 0 where
  pub entries : map.FinMap nat_cmp Entry
  pub room : ℕ

abbrev pub table_code : {Entry : Type 0} → Coded Entry → Coded (Table Entry)
table_code {Entry} code =
    code_by
    (map.FinMap nat_cmp Entry × ℕ)
    (coded× (map.code coded_ℕ code) coded_ℕ)
    (λ t. (t.entries, t.room))
    (λ p. record { entries = p.0; room = p.1 })
    (λ _. refl)

module _ {Entry : Type 0} where
  -- the table with this entry under that id
  abbrev pub with_entry : Table Entry → ℕ → Entry → Table Entry
  with_entry t id entry = record t { entries = map.insert t.entries id entry }
