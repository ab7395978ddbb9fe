-- Which fault a line has. Of these sets of values each lies in the one before it; a fault says the first that is missed.
use Rattle.std.specs.Prelude.{◌≡◌, ℕ, List, Option, Some, None, Err, IsErr}
use Rattle.base64.specs.Engines.{standard}
use Rattle.base64.specs.GeneralPurpose.{encode_of, decode_of, IsBytes}
use Rattle.serde_json.specs.Data.{Data}
use Rattle.rpc_msg.specs.Payloads.{IsEncoded}
use Rattle.rpc_journal.specs.declared.entry.JournalEntry.{JournalEntry}
use Rattle.trace_write.specs.declared.version.TraceVersion.{TraceVersion}
use Rattle.trace_json.specs.declared.fault.TraceFault.{TraceFault}
use Rattle.trace_json.specs.declared.fault.TraceFault.TheVariants as fault
use Rattle.trace_json_parts.specs.declared.fault.Fault.TheVariants as shape
use Rattle.trace_write.specs.Values.{version_number, head_of, value_by, value}
use Rattle.trace_write.specs.Fits.{FitsU32, Fits}
use Rattle.trace_json.specs.ReadEntries.{head_at}

abbrev pub number_of_fault : TraceFault → ℕ
number_of_fault fault.Memory = 1
number_of_fault fault.NotJson = 50
number_of_fault fault.WrongShape = 51
number_of_fault fault.BadBase64 = 52
number_of_fault fault.BadPayload = 53
number_of_fault fault.Version = 54

-- The value of an entry, with any text and number where those of a payload stand.
abbrev pub IsShaped : TraceVersion → Data → Type 0
IsShaped version d = (text : List ℕ) × (caps : ℕ) × (e : JournalEntry) × FitsU32 caps × Fits version e × (d ≡ value_by version (λ p. (text, caps)) e)

-- The value of an entry, with the base64 of any bytes and any number where those of a payload stand.
abbrev pub IsDecoded : TraceVersion → Data → Type 0
IsDecoded version d = (bytes : List ℕ) × (caps : ℕ) × (e : JournalEntry) × IsBytes bytes × FitsU32 caps × Fits version e × (d ≡ value_by version (λ p. (encode_of standard bytes, caps)) e)

-- The value of an entry.
abbrev pub IsEntry : TraceVersion → Data → Type 0
IsEntry version d = (e : JournalEntry) × Fits version e × (d ≡ value version e)

-- The value has no shape of an entry, and is no head of another version.
pub record HasNoShape (version : TraceVersion) (d : Data) : Type 0 where
  pub no_entry : ¬ IsShaped version d
  pub no_head : (n : ℕ) → ¬ (d ≡ head_of n)

pub record IsHeadOfAnother (version : TraceVersion) (d : Data) : Type 0 where
  pub number : ℕ
  pub head : d ≡ head_of number
  pub another : ¬ (number ≡ version_number version)

pub record HasNoBase64 (version : TraceVersion) (d : Data) : Type 0 where
  pub shaped : IsShaped version d
  pub missed : ¬ IsDecoded version d

pub record HasNoPayload (version : TraceVersion) (d : Data) : Type 0 where
  pub decoded : IsDecoded version d
  pub missed : ¬ IsEntry version d

-- What the fault of a JSON text says of its value; None where the text is no JSON.
abbrev pub IsFault : TraceVersion → TraceFault → Option Data → Type 0
IsFault version fault.Memory o = Unit {0}
IsFault version fault.NotJson o = o ≡ None
IsFault version fault.WrongShape None = ⊥
IsFault version fault.WrongShape (Some d) = HasNoShape version d
IsFault version fault.BadBase64 None = ⊥
IsFault version fault.BadBase64 (Some d) = HasNoBase64 version d
IsFault version fault.BadPayload None = ⊥
IsFault version fault.BadPayload (Some d) = HasNoPayload version d
IsFault version fault.Version None = ⊥
IsFault version fault.Version (Some d) = IsHeadOfAnother version d

-- What a fault of the text that stands for a payload says of it.
abbrev pub IsTextFault : TraceFault → List ℕ → Type 0
IsTextFault fault.Memory text = Unit {0}
IsTextFault fault.NotJson text = ⊥
IsTextFault fault.WrongShape text = ⊥
IsTextFault fault.BadBase64 text = IsErr (decode_of standard text)
IsTextFault fault.BadPayload text = ⊥
IsTextFault fault.Version text = ⊥

-- What a fault of a payload says of its bytes and the number of its capabilities.
abbrev pub IsPayloadFault : TraceFault → List ℕ → ℕ → Type 0
IsPayloadFault fault.Memory bytes caps = Unit {0}
IsPayloadFault fault.NotJson bytes caps = ⊥
IsPayloadFault fault.WrongShape bytes caps = ⊥
IsPayloadFault fault.BadBase64 bytes caps = ⊥
IsPayloadFault fault.BadPayload bytes caps = ¬ IsEncoded (record { bytes = bytes; caps = caps })
IsPayloadFault fault.Version bytes caps = ⊥

-- What a fault of what stands for a payload says of its text and number.
abbrev pub IsRawFault : TraceFault → List ℕ × ℕ → Type 0
IsRawFault fault.Memory raw = Unit {0}
IsRawFault fault.NotJson raw = ⊥
IsRawFault fault.WrongShape raw = ⊥
IsRawFault fault.BadBase64 raw = IsErr (decode_of standard raw.0)
IsRawFault fault.BadPayload raw = (bytes : List ℕ) × (raw.0 ≡ encode_of standard bytes) × IsBytes bytes × (¬ IsEncoded (record { bytes = bytes; caps = raw.1 }))
IsRawFault fault.Version raw = ⊥

-- What the fault of a value that has no shape of an entry says of it.
abbrev pub IsShapeFault : TraceFault → Data → Type 0
IsShapeFault fault.Memory d = Unit {0}
IsShapeFault fault.NotJson d = ⊥
IsShapeFault fault.WrongShape d = head_at d ≡ Err shape.WrongShape
IsShapeFault fault.BadBase64 d = ⊥
IsShapeFault fault.BadPayload d = ⊥
IsShapeFault fault.Version d = (n : ℕ) × (d ≡ head_of n)

-- What the fault of a text that was to be parsed says of its value.
abbrev pub IsParseFault : TraceFault → Option Data → Type 0
IsParseFault fault.Memory o = Unit {0}
IsParseFault fault.NotJson o = o ≡ None
IsParseFault fault.WrongShape o = ⊥
IsParseFault fault.BadBase64 o = ⊥
IsParseFault fault.BadPayload o = ⊥
IsParseFault fault.Version o = ⊥

pub record IsHeadOfNone (d : Data) : Type 0 where
  pub number : ℕ
  pub head : d ≡ head_of number
  pub unknown : (version : TraceVersion) → ¬ (number ≡ version_number version)

-- What the fault of a first line says of its value.
abbrev pub IsVersionFault : TraceFault → Option Data → Type 0
IsVersionFault fault.Memory o = Unit {0}
IsVersionFault fault.NotJson o = o ≡ None
IsVersionFault fault.WrongShape None = ⊥
IsVersionFault fault.WrongShape (Some d) = (n : ℕ) → ¬ (d ≡ head_of n)
IsVersionFault fault.BadBase64 o = ⊥
IsVersionFault fault.BadPayload o = ⊥
IsVersionFault fault.Version None = ⊥
IsVersionFault fault.Version (Some d) = IsHeadOfNone d
