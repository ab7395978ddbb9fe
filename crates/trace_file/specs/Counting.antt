-- How one entry changes what is said of a vat's references.
use Rattle.std.specs.Prelude.{◌≡◌, ℕ, ◌+◌, cond, nat_eq, Bool, true, false, Option, Some, None}
use Rattle.std.specs.Ordering.{nat_cmp}
use Rattle.std.specs.BTreeMap.{BTreeMap, get}
use Rattle.rpc_msg.specs.declared.ids.Vat.{Vat}
use Rattle.rpc_msg.specs.declared.ids.ObjectId.{ObjectId}
use Rattle.rpc_journal.specs.declared.entry.JournalEntry.{JournalEntry}
use Rattle.rpc_journal.specs.declared.entry.JournalEntry.TheVariants as entry
use Rattle.rpc_journal.specs.History.{same_vat}
use Rattle.trace_file.specs.declared.rows.Place.{Place}
use Rattle.trace_file.specs.declared.rows.Calls.{Calls}
use Rattle.trace_file.specs.Shown.{calls_at}

abbrev pub one_made : Calls → Calls
one_made c = record c { made = c.made + 1 }

abbrev pub first_of : Option Place → Place → Option Place
first_of None place = Some place
first_of (Some first) place = Some first

abbrev pub one_delivered : Place → Calls → Calls
one_delivered place c = record c { delivered = c.delivered + 1; first = first_of c.first place }

abbrev pub calls_in : BTreeMap ℕ Calls → ℕ → Calls
calls_in m number = calls_at (get nat_cmp m number)

-- The calls of that reference are changed, and no others.
abbrev pub Changed : BTreeMap ℕ Calls → ℕ → (Calls → Calls) → BTreeMap ℕ Calls → Type 0
Changed m number f new = (q : ℕ) → calls_in new q ≡ cond (nat_eq q number) (f (calls_in m q)) (calls_in m q)

abbrev pub Same : BTreeMap ℕ Calls → BTreeMap ℕ Calls → Type 0
Same m new = (q : ℕ) → calls_in new q ≡ calls_in m q

abbrev pub ChangedIf : Bool → BTreeMap ℕ Calls → ℕ → (Calls → Calls) → BTreeMap ℕ Calls → Type 0
ChangedIf true m number f new = Changed m number f new
ChangedIf false m number f new = Same m new

-- What is said of the references of vat v once that entry is counted too.
abbrev pub Counted : Vat → BTreeMap ℕ Calls → JournalEntry → BTreeMap ℕ Calls → Type 0
Counted v m (entry.Made w made) new = ChangedIf (same_vat v w) m made.reference.0 one_made new
Counted v m (entry.Delivered w d) new = ChangedIf (same_vat v d.stamp.vat) m d.stamp.reference.0 (one_delivered (record { vat = w; object = d.object })) new
Counted v m e new = Same m new
