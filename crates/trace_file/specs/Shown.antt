-- What `show` says of a trace (docs/trace.md, "Show").
use Rattle.std.specs.Prelude.{ℕ, zero, suc, ◌≡◌, Option, Some, None, List, [], ◌∷◌, ◌++◌, length, codes, decimal}
use Rattle.std.specs.Ordering.{nat_cmp}
use Rattle.std.specs.BTreeMap.{BTreeMap, get, IsOrdered}
use Rattle.rpc_msg.specs.declared.ids.Vat.{Vat}
use Rattle.rpc_msg.specs.declared.ids.Vat.TheVariants.{A, B}
use Rattle.rpc_journal.specs.declared.entry.JournalEntry.{JournalEntry}
use Rattle.rpc_journal.specs.History.{Ref, DeliveredAt, made, deliveries}
use Rattle.trace_file.specs.declared.rows.Place.{Place}
use Rattle.trace_file.specs.declared.rows.Calls.{Calls}

-- Of a reference of which nothing was said.
abbrev pub no_calls : Calls
no_calls = record { made = 0; delivered = 0; first = None }

abbrev pub calls_at : Option Calls → Calls
calls_at None = no_calls
calls_at (Some calls) = calls

-- Where the first of these deliveries was.
abbrev pub first_place : List DeliveredAt → Option Place
first_place [] = None
first_place (d ∷ ds) = Some (record { vat = d.vat; object = d.delivery.object })

-- What the entries say of a reference.
abbrev pub calls_of : List JournalEntry → Ref → Calls
calls_of es r = record { made = length (made es r); delivered = length (deliveries es r); first = first_place (deliveries es r) }

-- The table has, by rising number, what the entries say of a vat's references.
pub record IsTallied (es : List JournalEntry) (v : Vat) (m : BTreeMap ℕ Calls) : Type 0 where
  pub rising : IsOrdered nat_cmp m
  pub each : (number : ℕ) → calls_at (get nat_cmp m number) ≡ calls_of es (record { vat = v; number = number })

abbrev pub vat_letter : Vat → List ℕ
vat_letter A = codes "a"
vat_letter B = codes "b"

abbrev pub place_text : Option Place → List ℕ
place_text None = codes "-" ++ 10 ∷ []
place_text (Some p) = vat_letter p.vat ++ codes "/" ++ decimal p.object.0 ++ 10 ∷ []

abbrev pub made_text : Vat → ℕ → Calls → List ℕ
made_text v number c =
    vat_letter v ++ codes "/" ++ decimal number ++ codes ": made " ++ decimal c.made ++ codes ", delivered " ++ decimal c.delivered ++ codes " to " ++ place_text c.first

-- A line where the reference made a call.
abbrev pub text_if : ℕ → List ℕ → List ℕ
text_if zero text = []
text_if (suc n) text = text

abbrev pub calls_text : Vat → ℕ → Calls → List ℕ
calls_text v number c = text_if c.made (made_text v number c)

abbrev pub rows_text : Vat → List (ℕ × Calls) → List ℕ
rows_text v [] = []
rows_text v (x ∷ xs) = calls_text v x.0 x.1 ++ rows_text v xs

-- The text has a line for each reference that made a call, vat A's first, by rising number.
abbrev pub Shows : List JournalEntry → List ℕ → Type 0
Shows es text =
    (a b : BTreeMap ℕ Calls) × IsTallied es A a × IsTallied es B b × (text ≡ rows_text A a.entries ++ rows_text B b.entries)
