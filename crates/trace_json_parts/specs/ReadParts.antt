-- Reading the parts of entries and messages.
use Rattle.std.specs.Prelude.{ℕ, ◌^◌, ◌==◌, List, length, slice_index, codes, Option, Some, None, Ok, Err, nat_lt, if◌then◌else◌}
use Rattle.std.specs.Str.{bytes_eq}
use Rattle.serde_json.specs.Data.{Data, null, boolean, number, string, array, object}
use Rattle.rpc_msg.specs.Payloads.{Contents as Payload, null_payload}
use Rattle.rpc_msg.specs.declared.ids.Vat.{Vat}
use Rattle.rpc_msg.specs.declared.ids.Vat.TheVariants as vats
use Rattle.rpc_msg.specs.declared.ids.ExportId.{ExportId}
use Rattle.rpc_msg.specs.declared.ids.QuestionId.{QuestionId}
use Rattle.rpc_msg.specs.declared.ids.RefId.{RefId}
use Rattle.rpc_msg.specs.declared.ids.Stamp.{Stamp}
use Rattle.rpc_msg.specs.Op.{Op}
use Rattle.rpc_msg.specs.Op.TheVariants.{Noop, Field}
use Rattle.rpc_msg.specs.declared.parts.Descriptor.{Descriptor}
use Rattle.rpc_msg.specs.declared.parts.Descriptor.TheVariants as descriptor
use Rattle.rpc_msg.specs.declared.parts.Target.{Target}
use Rattle.rpc_msg.specs.declared.parts.Target.TheVariants.{ImportedCap, PromisedAnswer}
use Rattle.rpc_msg.specs.declared.exception.ExceptionKind.{ExceptionKind}
use Rattle.rpc_msg.specs.declared.exception.ExceptionKind.TheVariants as kind
use Rattle.rpc_msg.specs.declared.exception.Exception.{Exception}
use Rattle.rpc_journal.specs.declared.entry.Origin.{Origin}
use Rattle.rpc_journal.specs.declared.entry.Origin.TheVariants as origin
use Rattle.rpc_journal.specs.declared.entry.Counts.{Counts}
use Rattle.rpc_journal.specs.declared.report.Outcome.{Outcome}
use Rattle.rpc_journal.specs.declared.report.Outcome.TheVariants as outcome
use Rattle.rpc_journal.specs.declared.report.Advanced.{Advanced}
use Rattle.rpc_journal.specs.declared.report.Advanced.TheVariants as advanced
use Rattle.trace_json_parts.specs.declared.fault.Fault.TheVariants as fault
use Rattle.trace_write.specs.Parts.{in_base64}
use Rattle.trace_write.specs.Fits.{FitsU32}
use Rattle.trace_json_parts.specs.Reading.{Read, ◌>>=◌, members_at, nat_at, u64_at, text_at, last_at, field_at, last_two_at, both_at, only_at, list_at}

-- What stands for a payload on a line, where there is one: a text and a number.
abbrev pub Raw : Type 0
Raw = Option (List ℕ × ℕ)

abbrev pub stands_for : Raw → Payload → List ℕ × ℕ
stands_for None = in_base64
stands_for (Some raw) = λ p. raw

abbrev pub FitsRaw : Raw → Type 0
FitsRaw None = Unit {0}
FitsRaw (Some raw) = FitsU32 raw.1

abbrev pub vat_named : List ℕ → Read Vat
vat_named s = if bytes_eq s (codes "a") then Ok vats.A else if bytes_eq s (codes "b") then Ok vats.B else Err fault.WrongShape

unfoldable pub vat_at : Data → Read Vat
vat_at d = text_at d >>= vat_named

unfoldable pub reference_at : Data → Read RefId
reference_at d = u64_at d >>= λ n. Ok (record { 0 = n })

abbrev pub op_at : Data → Read Op
op_at null = Ok Noop
op_at (number n) = nat_at (2 ^ 16) (number n) >>= λ k. Ok (Field k)
op_at (boolean b) = Err fault.WrongShape
op_at (string s) = Err fault.WrongShape
op_at (array ds) = Err fault.WrongShape
op_at (object ms) = Err fault.WrongShape

abbrev pub short : List Op → Read (List Op)
short ops = if nat_lt 16 (length ops) then Err fault.WrongShape else Ok ops

unfoldable pub path_at : Data → Read (List Op)
path_at d = list_at op_at d >>= short

unfoldable pub answer_at : Data → Read (QuestionId × List Op)
answer_at d = both_at path_at (nat_at (2 ^ 32)) (codes "path") (codes "question") d >>= λ a. Ok (record { 0 = a.1 }, a.0)

abbrev pub target_under : List ℕ → Data → Read Target
target_under key d =
    if bytes_eq key (codes "import") then (nat_at (2 ^ 32) d >>= λ n. Ok (ImportedCap (record { 0 = n })))
    else if bytes_eq key (codes "answer") then (answer_at d >>= λ a. Ok (PromisedAnswer a.0 a.1))
    else Err fault.WrongShape

unfoldable pub target_at : Data → Read Target
target_at d = only_at d >>= λ m. target_under m.0 m.1

abbrev pub descriptor_under : List ℕ → Data → Read Descriptor
descriptor_under key d =
    if bytes_eq key (codes "senderHosted") then (nat_at (2 ^ 32) d >>= λ n. Ok (descriptor.SenderHosted (record { 0 = n })))
    else if bytes_eq key (codes "senderPromise") then (nat_at (2 ^ 32) d >>= λ n. Ok (descriptor.SenderPromise (record { 0 = n })))
    else if bytes_eq key (codes "receiverHosted") then (nat_at (2 ^ 32) d >>= λ n. Ok (descriptor.ReceiverHosted (record { 0 = n })))
    else if bytes_eq key (codes "receiverAnswer") then (answer_at d >>= λ a. Ok (descriptor.ReceiverAnswer a.0 a.1))
    else Err fault.WrongShape

unfoldable pub tagged_descriptor : Data → Read Descriptor
tagged_descriptor d = only_at d >>= λ m. descriptor_under m.0 m.1

abbrev pub descriptor_at : Data → Read Descriptor
descriptor_at (string s) = if bytes_eq s (codes "none") then Ok descriptor.None else Err fault.WrongShape
descriptor_at null = Err fault.WrongShape
descriptor_at (boolean b) = Err fault.WrongShape
descriptor_at (number n) = Err fault.WrongShape
descriptor_at (array ds) = Err fault.WrongShape
descriptor_at (object ms) = tagged_descriptor (object ms)

unfoldable pub stamp_at : Data → Read Stamp
stamp_at d = do
  ms ← members_at d
  index ← field_at u64_at (codes "index") ms
  of ← last_two_at reference_at vat_at (codes "ref") (codes "vat") index.1
  Ok (record { vat = of.1; reference = of.0; index = index.0 })

-- What stands for a payload: it is decoded once the whole line has its shape.
unfoldable pub raw_at : Data → Read (List ℕ × ℕ)
raw_at d = do
  ms ← members_at d
  text ← field_at text_at (codes "bytes") ms
  caps ← last_at (nat_at (2 ^ 32)) (codes "caps") text.1
  Ok (text.0, caps)

abbrev pub kind_named : List ℕ → Read ExceptionKind
kind_named s =
    if bytes_eq s (codes "failed") then Ok kind.Failed
    else if bytes_eq s (codes "overloaded") then Ok kind.Overloaded
    else if bytes_eq s (codes "disconnected") then Ok kind.Disconnected
    else if bytes_eq s (codes "unimplemented") then Ok kind.Unimplemented
    else Err fault.WrongShape

unfoldable pub kind_at : Data → Read ExceptionKind
kind_at d = text_at d >>= kind_named

unfoldable pub exception_at : Data → Read Exception
exception_at d = both_at kind_at text_at (codes "kind") (codes "reason") d >>= λ e. Ok (record { kind = e.0; reason = e.1 })

abbrev pub outcome_under : List ℕ → Data → Read (Outcome × Raw)
outcome_under key d =
    if bytes_eq key (codes "results") then (raw_at d >>= λ raw. Ok (outcome.Results null_payload, Some raw))
    else if bytes_eq key (codes "exception") then (exception_at d >>= λ e. Ok (outcome.Exception e, None))
    else Err fault.WrongShape

unfoldable pub outcome_at : Data → Read (Outcome × Raw)
outcome_at d = only_at d >>= λ m. outcome_under m.0 m.1

unfoldable pub field_origin_at : Data → Read Origin
field_origin_at d = both_at u64_at path_at (codes "call") (codes "path") d >>= λ f. Ok (origin.Field (record { 0 = f.0 }) f.1)

abbrev pub origin_under : List ℕ → Data → Read Origin
origin_under key d =
    if bytes_eq key (codes "object") then (u64_at d >>= λ n. Ok (origin.Object (record { 0 = n })))
    else if bytes_eq key (codes "promise") then (u64_at d >>= λ n. Ok (origin.Promise (record { 0 = n })))
    else if bytes_eq key (codes "clone") then (u64_at d >>= λ n. Ok (origin.Clone (record { 0 = n })))
    else if bytes_eq key (codes "field") then field_origin_at d
    else Err fault.WrongShape

unfoldable pub origin_at : Data → Read Origin
origin_at d = only_at d >>= λ m. origin_under m.0 m.1

abbrev pub advanced_named : List ℕ → Read Advanced
advanced_named s =
    if bytes_eq s (codes "nothing") then Ok advanced.Nothing
    else if bytes_eq s (codes "switched") then Ok advanced.Switched
    else if bytes_eq s (codes "embargoed") then Ok advanced.Embargoed
    else if bytes_eq s (codes "broke") then Ok advanced.Broke
    else Err fault.WrongShape

unfoldable pub advanced_at : Data → Read Advanced
advanced_at d = text_at d >>= advanced_named

abbrev pub two : List ℕ → Read (ExportId × ℕ)
two xs = if length xs == 2 then Ok (record { 0 = slice_index xs 0 }, slice_index xs 1) else Err fault.WrongShape

unfoldable pub pair_at : Data → Read (ExportId × ℕ)
pair_at d = list_at (nat_at (2 ^ 32)) d >>= two

unfoldable pub counts_at : Data → Read Counts
counts_at d = both_at (list_at pair_at) (list_at pair_at) (codes "exports") (codes "imports") d >>= λ c. Ok (record { exports = c.0; imports = c.1 })
