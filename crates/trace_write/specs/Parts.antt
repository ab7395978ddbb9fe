-- The parts of entries and messages, as JSON: docs/trace.md, "Parts".
use Rattle.std.specs.Prelude.{ℕ, List, map, codes}
use Rattle.base64.specs.Engines.{standard}
use Rattle.base64.specs.GeneralPurpose.{encode_of}
use Rattle.serde_json.specs.Data.{Data, null, number, string, array, object, unsigned, no_items, item, no_members, member}
use Rattle.serde_json.specs.View.{items_of}
use Rattle.rpc_msg.specs.Payloads.{Contents as Payload}
use Rattle.rpc_msg.specs.declared.ids.Vat.{Vat}
use Rattle.rpc_msg.specs.declared.ids.Vat.TheVariants.{A, B}
use Rattle.rpc_msg.specs.declared.ids.ExportId.{ExportId}
use Rattle.rpc_msg.specs.declared.ids.QuestionId.{QuestionId}
use Rattle.rpc_msg.specs.declared.ids.RefId.{RefId}
use Rattle.rpc_msg.specs.declared.ids.Stamp.{Stamp}
use Rattle.rpc_msg.specs.Op.{Op}
use Rattle.rpc_msg.specs.Op.TheVariants.{Noop, Field}
use Rattle.rpc_msg.specs.declared.parts.Descriptor.{Descriptor}
use Rattle.rpc_msg.specs.declared.parts.Descriptor.TheVariants as descriptor
use Rattle.rpc_msg.specs.declared.parts.Target.{Target}
use Rattle.rpc_msg.specs.declared.parts.Target.TheVariants.{ImportedCap, PromisedAnswer}
use Rattle.rpc_msg.specs.declared.exception.ExceptionKind.{ExceptionKind}
use Rattle.rpc_msg.specs.declared.exception.ExceptionKind.TheVariants as kind
use Rattle.rpc_msg.specs.declared.exception.Exception.{Exception}
use Rattle.rpc_journal.specs.declared.entry.Origin.{Origin}
use Rattle.rpc_journal.specs.declared.entry.Origin.TheVariants as origin
use Rattle.rpc_journal.specs.declared.entry.Counts.{Counts}
use Rattle.rpc_journal.specs.declared.report.Outcome.{Outcome}
use Rattle.rpc_journal.specs.declared.report.Outcome.TheVariants as outcome
use Rattle.rpc_journal.specs.declared.report.Advanced.{Advanced}
use Rattle.rpc_journal.specs.declared.report.Advanced.TheVariants as advanced

abbrev pub nat : ℕ → Data
nat n = number (unsigned n)

abbrev pub list : {A : Type 0} → (A → Data) → List A → Data
list f xs = array (items_of (map f xs))

-- an object of one member
abbrev pub only : List ℕ → Data → Data
only key d = object (member key d no_members)

abbrev pub vat_name : Vat → List ℕ
vat_name A = codes "a"
vat_name B = codes "b"

abbrev pub vat_data : Vat → Data
vat_data v = string (vat_name v)

abbrev pub reference_data : RefId → Data
reference_data r = nat r.0

abbrev pub op_data : Op → Data
op_data Noop = null
op_data (Field n) = nat n

abbrev pub path_data : List Op → Data
path_data = list op_data

-- a place in an answer
abbrev pub answer_data : QuestionId → List Op → Data
answer_data question path = object (
    member (codes "path") (path_data path) (
    member (codes "question") (nat question.0) no_members))

abbrev pub target_data : Target → Data
target_data (ImportedCap id) = only (codes "import") (nat id.0)
target_data (PromisedAnswer question path) = only (codes "answer") (answer_data question path)

abbrev pub descriptor_data : Descriptor → Data
descriptor_data descriptor.None = string (codes "none")
descriptor_data (descriptor.SenderHosted id) = only (codes "senderHosted") (nat id.0)
descriptor_data (descriptor.SenderPromise id) = only (codes "senderPromise") (nat id.0)
descriptor_data (descriptor.ReceiverHosted id) = only (codes "receiverHosted") (nat id.0)
descriptor_data (descriptor.ReceiverAnswer question path) = only (codes "receiverAnswer") (answer_data question path)

abbrev pub stamp_data : Stamp → Data
stamp_data s = object (
    member (codes "index") (nat s.index) (
    member (codes "ref") (nat s.reference.0) (
    member (codes "vat") (vat_data s.vat) no_members)))

-- The text and the number that stand for a payload: its bytes in base64, and how many capabilities go with it.
abbrev pub in_base64 : Payload → List ℕ × ℕ
in_base64 p = (encode_of standard p.bytes, p.caps)

abbrev pub payload_data : List ℕ × ℕ → Data
payload_data p = object (
    member (codes "bytes") (string p.0) (
    member (codes "caps") (nat p.1) no_members))

abbrev pub kind_name : ExceptionKind → List ℕ
kind_name kind.Failed = codes "failed"
kind_name kind.Overloaded = codes "overloaded"
kind_name kind.Disconnected = codes "disconnected"
kind_name kind.Unimplemented = codes "unimplemented"

abbrev pub exception_data : Exception → Data
exception_data e = object (
    member (codes "kind") (string (kind_name e.kind)) (
    member (codes "reason") (string e.reason) no_members))

-- `shown` gives what stands for a payload: `in_base64` where a line is written.
abbrev pub outcome_by : (Payload → List ℕ × ℕ) → Outcome → Data
outcome_by shown (outcome.Results p) = only (codes "results") (payload_data (shown p))
outcome_by shown (outcome.Exception e) = only (codes "exception") (exception_data e)

abbrev pub origin_data : Origin → Data
origin_data (origin.Object o) = only (codes "object") (nat o.0)
origin_data (origin.Promise p) = only (codes "promise") (nat p.0)
origin_data (origin.Clone r) = only (codes "clone") (nat r.0)
origin_data (origin.Field call path) = only (codes "field") (object (
    member (codes "call") (nat call.0) (
    member (codes "path") (path_data path) no_members)))

abbrev pub advanced_name : Advanced → List ℕ
advanced_name advanced.Nothing = codes "nothing"
advanced_name advanced.Switched = codes "switched"
advanced_name advanced.Embargoed = codes "embargoed"
advanced_name advanced.Broke = codes "broke"

-- an id and its count
abbrev pub pair_data : ExportId × ℕ → Data
pair_data p = array (item (nat p.0.0) (item (nat p.1) no_items))

abbrev pub counts_data : Counts → Data
counts_data c = object (
    member (codes "exports") (list pair_data c.exports) (
    member (codes "imports") (list pair_data c.imports) no_members))
