-- What the options of the program say (docs/trace.md, "A picture of a trace").
use Rattle.std.specs.Prelude.{ℕ, ◌==◌, ◌^◌, ◌+◌, ◌-◌, ◌&&◌, ◌||◌, nat_lt, nat_le, nat_eq, min, Bool, false, if◌then◌else◌, List, [], ◌∷◌, Option, Some, None, option_map, option_and_then, codes}
use Rattle.std.specs.List.{before_first, after_first, list_any}
use Rattle.std.specs.Str.{bytes_eq}
use Rattle.chart_parts.specs.Decimals.{number_of}
use Rattle.rpc_msg.specs.declared.ids.Vat.{Vat}
use Rattle.rpc_msg.specs.declared.ids.Vat.TheVariants as vat
use Rattle.rpc_msg.specs.declared.ids.RefId.{RefId}
use Rattle.rpc_msg.specs.declared.ids.Stamp.{Stamp}
use Rattle.rpc_msg.specs.declared.message.PlainMessage.{PlainMessage}
use Rattle.rpc_msg.specs.declared.message.PlainMessage.TheVariants as plain
use Rattle.rpc_msg.specs.declared.message.Message.{Message}
use Rattle.rpc_msg.specs.declared.message.Message.TheVariants as message
use Rattle.rpc_journal.specs.declared.entry.JournalEntry.{JournalEntry}
use Rattle.rpc_journal.specs.declared.entry.JournalEntry.TheVariants as entry
use Rattle.rpc_journal.specs.declared.entry.Origin.{Origin}
use Rattle.rpc_journal.specs.declared.entry.Origin.TheVariants as origin
use Rattle.rpc_journal.specs.History.{same_vat}
use Rattle.trace_chart_lib.specs.declared.options.Options.{Options}

-- The word is that text.
abbrev pub is_text : List ℕ → List ℕ → Bool
is_text text word = bytes_eq word text

-- `a` or `b`.
abbrev pub vat_of : List ℕ → Option Vat
vat_of word = if is_text (codes "a") word then Some vat.A else (if is_text (codes "b") word then Some vat.B else None)

abbrev pub named : Option Vat → Option ℕ → Option (Vat × RefId)
named None number = None
named (Some v) None = None
named (Some v) (Some n) = Some (v, record { 0 = n })

-- A vat and a number, parted by the first slash.
abbrev pub reference_of : List ℕ → Option (Vat × RefId)
reference_of word = named (vat_of (before_first (λ b. b == 47) word)) (number_of (after_first (λ b. b == 47) word))

-- The first 60 entries.
abbrev pub unchosen : Options
unchosen = record { from = 1; to = None; reference = None }

-- The options with one more.
abbrev pub with_choice : Options → List ℕ → List ℕ → Option Options
with_choice o word value =
    if is_text (codes "--from") word then option_map (λ n. record o { from = n }) (number_of value)
    else (if is_text (codes "--to") word then option_map (λ n. record o { to = Some n }) (number_of value)
    else (if is_text (codes "--ref") word then option_map (λ r. record o { reference = Some r }) (reference_of value) else None))

-- The options with all that words say, each option before its value.
abbrev pub with_choices : Options → List (List ℕ) → Option Options
with_choices o [] = Some o
with_choices o (word ∷ []) = None
with_choices o (word ∷ value ∷ words) = option_and_then (λ p. with_choices p words) (with_choice o word value)

-- The number of the last entry that is drawn.
abbrev pub last_of : ℕ → Option ℕ → ℕ
last_of from None = min (from + 59) (2 ^ 64 - 1)
last_of from (Some to) = to

abbrev pub last_drawn : Options → ℕ
last_drawn o = last_of o.from o.to

-- None where no entry is drawn.
abbrev pub if_any : Options → Option Options
if_any o = if nat_lt (last_drawn o) o.from then None else Some o

-- What the words behind the trace's name say.
abbrev pub choices : List (List ℕ) → Option Options
choices words = option_and_then if_any (with_choices unchosen words)

abbrev pub is_drawn : Options → ℕ → Bool
is_drawn o number = nat_le o.from number && nat_le number (last_drawn o)

abbrev pub is_reference : Option (Vat × RefId) → Vat → RefId → Bool
is_reference None v r = false
is_reference (Some chosen) v r = same_vat chosen.0 v && nat_eq chosen.1.0 r.0

-- The calls through that reference of vat v stand out.
abbrev pub is_marked : Options → Vat → RefId → Bool
is_marked o v r = is_reference o.reference v r

abbrev pub call_stands_out : Options → PlainMessage → Bool
call_stands_out o (plain.Call call) = is_marked o call.stamp.vat call.stamp.reference
call_stands_out o m = false

-- A Call stands out where its call does.
abbrev pub message_stands_out : Options → Message → Bool
message_stands_out o (message.Plain m) = call_stands_out o m
message_stands_out o m = false

-- Of the other entries those stand out in which a call is made or delivered, and which name the reference by itself.
abbrev pub entry_stands_out : Options → JournalEntry → Bool
entry_stands_out o (entry.Made v made) = is_marked o v made.reference
entry_stands_out o (entry.Delivered v d) = is_marked o d.stamp.vat d.stamp.reference
entry_stands_out o (entry.Born v r origin) = is_marked o v r
entry_stands_out o (entry.Resolved v p r) = is_marked o v r
entry_stands_out o (entry.Advanced v r answer) = is_marked o v r
entry_stands_out o (entry.Dropped v r) = is_marked o v r
entry_stands_out o e = false

-- ---- Which entries name a reference

abbrev pub is_call_of : Vat → RefId → Stamp → Bool
is_call_of v r stamp = same_vat stamp.vat v && nat_eq stamp.reference.0 r.0

-- It is at that vat, and one of the references has that number.
abbrev pub has_ref : Vat → RefId → Vat → List RefId → Bool
has_ref v r at refs = same_vat at v && list_any (λ s. nat_eq s.0 r.0) refs

-- The reference of which a new one is a clone.
abbrev pub cloned : Origin → List RefId
cloned (origin.Clone other) = other ∷ []
cloned o = []

abbrev pub plain_names : Vat → RefId → PlainMessage → Bool
plain_names v r (plain.Call call) = is_call_of v r call.stamp
plain_names v r m = false

abbrev pub message_names : Vat → RefId → Message → Bool
message_names v r (message.Plain m) = plain_names v r m
message_names v r m = false

-- As `ref`, among `refs`, as what a clone is of, or in the stamp of a call (docs/trace.md, "Entries").
abbrev pub entry_names : Vat → RefId → JournalEntry → Bool
entry_names v r (entry.Born at own origin) = has_ref v r at (own ∷ cloned origin)
entry_names v r (entry.Made at made) = has_ref v r at (made.reference ∷ made.refs)
entry_names v r (entry.Delivered at d) = is_call_of v r d.stamp || has_ref v r at d.refs
entry_names v r (entry.Answered at task outcome refs) = has_ref v r at refs
entry_names v r (entry.Ended at ended) = has_ref v r at ended.refs
entry_names v r (entry.Resolved at p own) = has_ref v r at (own ∷ [])
entry_names v r (entry.Advanced at own answer) = has_ref v r at (own ∷ [])
entry_names v r (entry.Dropped at own) = has_ref v r at (own ∷ [])
entry_names v r (entry.Sent at m) = message_names v r m
entry_names v r e = false

abbrev pub is_named : Option (Vat × RefId) → JournalEntry → Bool
is_named None e = false
is_named (Some chosen) e = entry_names chosen.0 chosen.1 e

-- The entry names the reference whose calls stand out.
abbrev pub is_named_by : Options → JournalEntry → Bool
is_named_by o e = is_named o.reference e
