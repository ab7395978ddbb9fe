-- What an entry is as JSON: docs/trace.md, "Entries". The keys of each object stand in rising byte order.
use Rattle.std.specs.Prelude.{ℕ, List, codes}
use Rattle.serde_json.specs.Data.{Data, string, object, no_members, member}
use Rattle.rpc_msg.specs.Payloads.{Contents as Payload}
use Rattle.rpc_msg.specs.declared.ids.Vat.{Vat}
use Rattle.rpc_msg.specs.declared.ids.CallId.{CallId}
use Rattle.rpc_msg.specs.declared.ids.RefId.{RefId}
use Rattle.rpc_msg.specs.declared.ids.TaskId.{TaskId}
use Rattle.rpc_msg.specs.declared.ids.PromiseId.{PromiseId}
use Rattle.rpc_msg.specs.declared.exception.Exception.{Exception}
use Rattle.rpc_msg.specs.declared.message.Message.{Message}
use Rattle.rpc_journal.specs.declared.entry.Origin.{Origin}
use Rattle.rpc_journal.specs.declared.entry.MadeCall.{MadeCall}
use Rattle.rpc_journal.specs.declared.entry.Counts.{Counts}
use Rattle.rpc_journal.specs.declared.entry.JournalEntry.{JournalEntry}
use Rattle.rpc_journal.specs.declared.entry.JournalEntry.TheVariants as entry
use Rattle.rpc_journal.specs.declared.report.Outcome.{Outcome}
use Rattle.rpc_journal.specs.declared.report.Delivery.{Delivery}
use Rattle.rpc_journal.specs.declared.report.Ended.{Ended}
use Rattle.rpc_journal.specs.declared.report.Advanced.{Advanced}
use Rattle.trace_write.specs.declared.version.TraceVersion.{TraceVersion}
use Rattle.trace_write.specs.declared.version.TraceVersion.TheVariants.{One, Two}
use Rattle.trace_write.specs.Parts.{nat, list, vat_data, reference_data, in_base64, payload_data, stamp_data, exception_data, outcome_by, origin_data, advanced_name, counts_data}
use Rattle.trace_write.specs.Messages.{message_by}

abbrev pub version_number : TraceVersion → ℕ
version_number One = 1
version_number Two = 2

-- A head that says that number.
abbrev pub head_of : ℕ → Data
head_of n = object (
    member (codes "k") (string (codes "head")) (
    member (codes "version") (nat n) no_members))

abbrev pub head_data : TraceVersion → Data
head_data version = head_of (version_number version)

abbrev pub born_data : Vat → RefId → Origin → Data
born_data v r o = object (
    member (codes "k") (string (codes "born")) (
    member (codes "origin") (origin_data o) (
    member (codes "ref") (reference_data r) (
    member (codes "vat") (vat_data v) no_members))))

abbrev pub asked_data : Vat → CallId → Data
asked_data v call = object (
    member (codes "call") (nat call.0) (
    member (codes "k") (string (codes "asked")) (
    member (codes "vat") (vat_data v) no_members)))

abbrev pub made_by : (Payload → List ℕ × ℕ) → Vat → MadeCall → Data
made_by shown v m = object (
    member (codes "call") (nat m.call.0) (
    member (codes "index") (nat m.index) (
    member (codes "interface") (nat m.interface) (
    member (codes "k") (string (codes "made")) (
    member (codes "method") (nat m.method) (
    member (codes "payload") (payload_data (shown m.payload)) (
    member (codes "ref") (reference_data m.reference) (
    member (codes "refs") (list reference_data m.refs) (
    member (codes "vat") (vat_data v) no_members)))))))))

abbrev pub delivered_by : (Payload → List ℕ × ℕ) → Vat → Delivery → Data
delivered_by shown v d = object (
    member (codes "interface") (nat d.interface) (
    member (codes "k") (string (codes "delivered")) (
    member (codes "method") (nat d.method) (
    member (codes "object") (nat d.object.0) (
    member (codes "payload") (payload_data (shown d.payload)) (
    member (codes "refs") (list reference_data d.refs) (
    member (codes "stamp") (stamp_data d.stamp) (
    member (codes "task") (nat d.task.0) (
    member (codes "vat") (vat_data v) no_members)))))))))

abbrev pub answered_by : (Payload → List ℕ × ℕ) → Vat → TaskId → Outcome → List RefId → Data
answered_by shown v task o refs = object (
    member (codes "k") (string (codes "answered")) (
    member (codes "outcome") (outcome_by shown o) (
    member (codes "refs") (list reference_data refs) (
    member (codes "task") (nat task.0) (
    member (codes "vat") (vat_data v) no_members)))))

abbrev pub ended_by : (Payload → List ℕ × ℕ) → Vat → Ended → Data
ended_by shown v e = object (
    member (codes "call") (nat e.call.0) (
    member (codes "k") (string (codes "ended")) (
    member (codes "outcome") (outcome_by shown e.outcome) (
    member (codes "refs") (list reference_data e.refs) (
    member (codes "vat") (vat_data v) no_members)))))

abbrev pub resolved_promise_data : Vat → PromiseId → RefId → Data
resolved_promise_data v p r = object (
    member (codes "k") (string (codes "resolved")) (
    member (codes "promise") (nat p.0) (
    member (codes "ref") (reference_data r) (
    member (codes "vat") (vat_data v) no_members))))

abbrev pub rejected_data : Vat → PromiseId → Exception → Data
rejected_data v p e = object (
    member (codes "exception") (exception_data e) (
    member (codes "k") (string (codes "rejected")) (
    member (codes "promise") (nat p.0) (
    member (codes "vat") (vat_data v) no_members))))

abbrev pub dropped_data : Vat → RefId → Data
dropped_data v r = object (
    member (codes "k") (string (codes "dropped")) (
    member (codes "ref") (reference_data r) (
    member (codes "vat") (vat_data v) no_members)))

abbrev pub finished_data : Vat → CallId → Data
finished_data v call = object (
    member (codes "call") (nat call.0) (
    member (codes "k") (string (codes "finished")) (
    member (codes "vat") (vat_data v) no_members)))

abbrev pub advanced_data : Vat → RefId → Advanced → Data
advanced_data v r a = object (
    member (codes "answer") (string (advanced_name a)) (
    member (codes "k") (string (codes "advanced")) (
    member (codes "ref") (reference_data r) (
    member (codes "vat") (vat_data v) no_members))))

abbrev pub refused_data : Vat → ℕ → Data
refused_data v code = object (
    member (codes "code") (nat code) (
    member (codes "k") (string (codes "refused")) (
    member (codes "vat") (vat_data v) no_members)))

abbrev pub sent_by : TraceVersion → (Payload → List ℕ × ℕ) → Vat → Message → Data
sent_by version shown v m = object (
    member (codes "k") (string (codes "sent")) (
    member (codes "message") (message_by version shown m) (
    member (codes "vat") (vat_data v) no_members)))

abbrev pub got_data : Vat → Data
got_data v = object (
    member (codes "k") (string (codes "got")) (
    member (codes "vat") (vat_data v) no_members))

abbrev pub down_data : Vat → ℕ → Data
down_data v fault = object (
    member (codes "fault") (nat fault) (
    member (codes "k") (string (codes "down")) (
    member (codes "vat") (vat_data v) no_members)))

abbrev pub tables_data : Counts → Counts → Data
tables_data a b = object (
    member (codes "a") (counts_data a) (
    member (codes "b") (counts_data b) (
    member (codes "k") (string (codes "tables")) no_members)))

-- The value of an entry in that version. `shown` gives the text and the number that stand for a payload.
abbrev pub value_by : TraceVersion → (Payload → List ℕ × ℕ) → JournalEntry → Data
value_by version shown entry.Head = head_data version
value_by version shown (entry.Born v r o) = born_data v r o
value_by version shown (entry.Asked v call) = asked_data v call
value_by version shown (entry.Made v m) = made_by shown v m
value_by version shown (entry.Delivered v d) = delivered_by shown v d
value_by version shown (entry.Answered v task o refs) = answered_by shown v task o refs
value_by version shown (entry.Ended v e) = ended_by shown v e
value_by version shown (entry.Resolved v p r) = resolved_promise_data v p r
value_by version shown (entry.Rejected v p e) = rejected_data v p e
value_by version shown (entry.Dropped v r) = dropped_data v r
value_by version shown (entry.Finished v call) = finished_data v call
value_by version shown (entry.Advanced v r a) = advanced_data v r a
value_by version shown (entry.Refused v code) = refused_data v code
value_by version shown (entry.Sent v m) = sent_by version shown v m
value_by version shown (entry.Got v) = got_data v
value_by version shown (entry.Down v fault) = down_data v fault
value_by version shown (entry.Tables a b) = tables_data a b

-- The value of an entry in that version, a payload's bytes in base64.
abbrev pub value : TraceVersion → JournalEntry → Data
value version = value_by version in_base64
