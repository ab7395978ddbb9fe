-- Reading entries.
use Rattle.std.specs.Prelude.{ℕ, ◌^◌, ◌==◌, List, codes, Option, Some, None, option_and_then, Ok, Err, if◌then◌else◌}
use Rattle.std.specs.Str.{bytes_eq}
use Rattle.serde_json.specs.Data.{Data, Members}
use Rattle.serde_json.specs.Find.{get, as_str}
use Rattle.rpc_msg.specs.Payloads.{null_payload}
use Rattle.rpc_msg.specs.declared.ids.Vat.{Vat}
use Rattle.rpc_msg.specs.declared.ids.CallId.{CallId}
use Rattle.rpc_msg.specs.declared.ids.RefId.{RefId}
use Rattle.rpc_msg.specs.declared.ids.Stamp.{Stamp}
use Rattle.rpc_msg.specs.declared.ids.TaskId.{TaskId}
use Rattle.rpc_msg.specs.declared.ids.PromiseId.{PromiseId}
use Rattle.rpc_msg.specs.declared.exception.Exception.{Exception}
use Rattle.rpc_msg.specs.declared.message.Message.{Message}
use Rattle.rpc_journal.specs.declared.entry.Origin.{Origin}
use Rattle.rpc_journal.specs.declared.entry.Counts.{Counts}
use Rattle.rpc_journal.specs.declared.entry.MadeCall.{MadeCall}
use Rattle.rpc_journal.specs.declared.entry.JournalEntry.{JournalEntry}
use Rattle.rpc_journal.specs.declared.entry.JournalEntry.TheVariants as entry
use Rattle.rpc_journal.specs.declared.report.Outcome.{Outcome}
use Rattle.rpc_journal.specs.declared.report.Delivery.{Delivery}
use Rattle.rpc_journal.specs.declared.report.Ended.{Ended}
use Rattle.rpc_journal.specs.declared.report.Advanced.{Advanced}
use Rattle.trace_json_parts.specs.declared.fault.Fault.TheVariants as fault
use Rattle.trace_write.specs.declared.version.TraceVersion.{TraceVersion}
use Rattle.trace_write.specs.Values.{version_number}
use Rattle.trace_json_parts.specs.Reading.{Read, ◌>>=◌, members_at, nat_at, u64_at, next_at, end_at, last_at, field_at, two_at, last_two_at, word_at, list_at}
use Rattle.trace_json_parts.specs.ReadParts.{Raw, vat_at, reference_at, stamp_at, raw_at, exception_at, outcome_at, origin_at, advanced_at, counts_at}
use Rattle.trace_json_parts.specs.ReadMessages.{message_at}

-- the members behind the kind, which is the first of them
unfoldable pub members_of_kind : List ℕ → Data → Read Members
members_of_kind kind d = members_at d >>= word_at kind (codes "k")

-- the kind, and the vat behind it
unfoldable pub kind_and_vat : List ℕ → Members → Read Vat
kind_and_vat kind ms = word_at kind (codes "k") ms >>= last_at vat_at (codes "vat")

-- a member, the kind and the vat
unfoldable pub before_kind : {A : Type 0} → (Data → Read A) → List ℕ → List ℕ → Data → Read (A × Vat)
before_kind f key kind d = do
  ms ← members_at d
  x ← field_at f key ms
  vat ← kind_and_vat kind x.1
  Ok (x.0, vat)

-- the kind, two members and the vat
unfoldable pub behind_kind : {A B : Type 0} → (Data → Read A) → (Data → Read B) → List ℕ → List ℕ → List ℕ → Data → Read (A × B × Vat)
behind_kind f g kind first second d = do
  k ← members_of_kind kind d
  x ← field_at f first k
  y ← last_two_at g vat_at second (codes "vat") x.1
  Ok (x.0, y.0, y.1)

-- a member, the kind, another member and the vat
unfoldable pub around_kind : {A B : Type 0} → (Data → Read A) → (Data → Read B) → List ℕ → List ℕ → List ℕ → Data → Read (A × B × Vat)
around_kind f g first kind second d = do
  ms ← members_at d
  x ← field_at f first ms
  k ← word_at kind (codes "k") x.1
  y ← last_two_at g vat_at second (codes "vat") k
  Ok (x.0, y.0, y.1)

-- the number of a head
unfoldable pub head_at : Data → Read ℕ
head_at d = do
  k ← members_of_kind (codes "head") d
  last_at u64_at (codes "version") k

unfoldable pub born_at : Data → Read JournalEntry
born_at d = behind_kind origin_at reference_at (codes "born") (codes "origin") (codes "ref") d >>= λ e. Ok (entry.Born e.2 e.1 e.0)

unfoldable pub asked_at : Data → Read JournalEntry
asked_at d = before_kind u64_at (codes "call") (codes "asked") d >>= λ e. Ok (entry.Asked e.1 (record { 0 = e.0 }))

-- the payload and what follows it
unfoldable pub made_rest : Members → Read ((List ℕ × ℕ) × RefId × List RefId × Vat)
made_rest ms = do
  raw ← field_at raw_at (codes "payload") ms
  reference ← field_at reference_at (codes "ref") raw.1
  of ← last_two_at (list_at reference_at) vat_at (codes "refs") (codes "vat") reference.1
  Ok (raw.0, reference.0, of.0, of.1)

unfoldable pub made_at : Data → Read (JournalEntry × Raw)
made_at d = do
  ms ← members_at d
  call ← two_at u64_at u64_at (codes "call") (codes "index") ms
  interface ← field_at u64_at (codes "interface") call.2
  k ← word_at (codes "made") (codes "k") interface.1
  method ← field_at (nat_at (2 ^ 16)) (codes "method") k
  rest ← made_rest method.1
  Ok (entry.Made rest.3 (record { reference = rest.1; index = call.1; call = record { 0 = call.0 }; interface = interface.0; method = method.0; payload = null_payload; refs = rest.2 }), Some rest.0)

-- what follows the payload
unfoldable pub delivered_rest : Members → Read (List RefId × Stamp × ℕ × Vat)
delivered_rest ms = do
  refs ← two_at (list_at reference_at) stamp_at (codes "refs") (codes "stamp") ms
  of ← last_two_at u64_at vat_at (codes "task") (codes "vat") refs.2
  Ok (refs.0, refs.1, of.0, of.1)

unfoldable pub delivered_at : Data → Read (JournalEntry × Raw)
delivered_at d = do
  ms ← members_at d
  interface ← field_at u64_at (codes "interface") ms
  k ← word_at (codes "delivered") (codes "k") interface.1
  method ← two_at (nat_at (2 ^ 16)) u64_at (codes "method") (codes "object") k
  raw ← field_at raw_at (codes "payload") method.2
  rest ← delivered_rest raw.1
  Ok (entry.Delivered rest.3 (record { task = record { 0 = rest.2 }; object = record { 0 = method.1 }; stamp = rest.1; interface = interface.0; method = method.0; payload = null_payload; refs = rest.0 }), Some raw.0)

unfoldable pub answered_at : Data → Read (JournalEntry × Raw)
answered_at d = do
  k ← members_of_kind (codes "answered") d
  outcome ← field_at outcome_at (codes "outcome") k
  refs ← field_at (list_at reference_at) (codes "refs") outcome.1
  of ← last_two_at u64_at vat_at (codes "task") (codes "vat") refs.1
  Ok (entry.Answered of.1 (record { 0 = of.0 }) outcome.0.0 refs.0, outcome.0.1)

unfoldable pub ended_at : Data → Read (JournalEntry × Raw)
ended_at d = do
  ms ← members_at d
  call ← field_at u64_at (codes "call") ms
  k ← word_at (codes "ended") (codes "k") call.1
  outcome ← field_at outcome_at (codes "outcome") k
  of ← last_two_at (list_at reference_at) vat_at (codes "refs") (codes "vat") outcome.1
  Ok (entry.Ended of.1 (record { call = record { 0 = call.0 }; outcome = outcome.0.0; refs = of.0 }), outcome.0.1)

unfoldable pub resolved_promise_at : Data → Read JournalEntry
resolved_promise_at d = behind_kind u64_at reference_at (codes "resolved") (codes "promise") (codes "ref") d >>= λ e. Ok (entry.Resolved e.2 (record { 0 = e.0 }) e.1)

unfoldable pub rejected_at : Data → Read JournalEntry
rejected_at d = around_kind exception_at u64_at (codes "exception") (codes "rejected") (codes "promise") d >>= λ e. Ok (entry.Rejected e.2 (record { 0 = e.1 }) e.0)

unfoldable pub dropped_at : Data → Read JournalEntry
dropped_at d = do
  k ← members_of_kind (codes "dropped") d
  of ← last_two_at reference_at vat_at (codes "ref") (codes "vat") k
  Ok (entry.Dropped of.1 of.0)

unfoldable pub finished_at : Data → Read JournalEntry
finished_at d = before_kind u64_at (codes "call") (codes "finished") d >>= λ e. Ok (entry.Finished e.1 (record { 0 = e.0 }))

unfoldable pub entry_advanced_at : Data → Read JournalEntry
entry_advanced_at d = around_kind advanced_at reference_at (codes "answer") (codes "advanced") (codes "ref") d >>= λ e. Ok (entry.Advanced e.2 e.1 e.0)

unfoldable pub refused_at : Data → Read JournalEntry
refused_at d = before_kind (nat_at (2 ^ 16)) (codes "code") (codes "refused") d >>= λ e. Ok (entry.Refused e.1 e.0)

unfoldable pub sent_at : TraceVersion → Data → Read (JournalEntry × Raw)
sent_at version d = do
  k ← members_of_kind (codes "sent") d
  m ← next_at (codes "message") k
  vat ← last_at vat_at (codes "vat") m.1
  message ← message_at version m.0
  Ok (entry.Sent vat message.0, message.1)

unfoldable pub got_at : Data → Read JournalEntry
got_at d = do
  k ← members_of_kind (codes "got") d
  vat ← last_at vat_at (codes "vat") k
  Ok (entry.Got vat)

unfoldable pub down_at : Data → Read JournalEntry
down_at d = before_kind (nat_at (2 ^ 16)) (codes "fault") (codes "down") d >>= λ e. Ok (entry.Down e.1 e.0)

unfoldable pub tables_at : Data → Read JournalEntry
tables_at d = do
  ms ← members_at d
  of ← two_at counts_at counts_at (codes "a") (codes "b") ms
  k ← word_at (codes "tables") (codes "k") of.2
  end ← end_at k
  Ok (entry.Tables of.0 of.1)

-- what an application did at a reference, a promise or a call
abbrev pub command_under : List ℕ → Data → Read JournalEntry
command_under kind d =
    if bytes_eq kind (codes "born") then born_at d
    else if bytes_eq kind (codes "asked") then asked_at d
    else if bytes_eq kind (codes "resolved") then resolved_promise_at d
    else if bytes_eq kind (codes "rejected") then rejected_at d
    else if bytes_eq kind (codes "dropped") then dropped_at d
    else if bytes_eq kind (codes "finished") then finished_at d
    else if bytes_eq kind (codes "advanced") then entry_advanced_at d
    else if bytes_eq kind (codes "refused") then refused_at d
    else Err fault.WrongShape

abbrev pub head_read : TraceVersion → ℕ → Read JournalEntry
head_read version n = if n == version_number version then Ok entry.Head else Err fault.WrongShape

-- an entry without a payload
abbrev pub bare_entry_under : TraceVersion → List ℕ → Data → Read JournalEntry
bare_entry_under version kind d =
    if bytes_eq kind (codes "got") then got_at d
    else if bytes_eq kind (codes "down") then down_at d
    else if bytes_eq kind (codes "tables") then tables_at d
    else if bytes_eq kind (codes "head") then (head_at d >>= head_read version)
    else command_under kind d

-- an entry, and what stands for its payload
abbrev pub entry_under : TraceVersion → List ℕ → Data → Read (JournalEntry × Raw)
entry_under version kind d =
    if bytes_eq kind (codes "sent") then sent_at version d
    else if bytes_eq kind (codes "made") then made_at d
    else if bytes_eq kind (codes "delivered") then delivered_at d
    else if bytes_eq kind (codes "answered") then answered_at d
    else if bytes_eq kind (codes "ended") then ended_at d
    else (bare_entry_under version kind d >>= λ e. Ok (e, None))

abbrev pub text_or : Option (List ℕ) → Read (List ℕ)
text_or None = Err fault.WrongShape
text_or (Some s) = Ok s

unfoldable pub entry_at : TraceVersion → Data → Read (JournalEntry × Raw)
entry_at version d = text_or (option_and_then as_str (get (codes "k") d)) >>= λ k. entry_under version k d
