-- What is said of a captured conversation: docs/messages.md, "Looking into a captured conversation". Its parts are the frames
-- of a stream, or the lines of an input in hexadecimal.
use Rattle.std.specs.Prelude.{◌≡◌, ℕ, ◌+◌, ◌-◌, ◌^◌, ◌<◌, ◌==◌, ◌⊎◌, min, Bool, true, false, List, [], ◌∷◌, ◌++◌, length, take, Option, Some, None, Result, Ok, Err, IsErr}
use Rattle.std.specs.List.{before_first, after_first}
use Rattle.std.specs.Io.KnownBytes.{Appends}
use Rattle.program_files.specs.Texts.{IsInput}
use Rattle.hex.specs.Hex.{decode_of}
use Rattle.hex.specs.declared.error.FromHexError.{FromHexError}
use Rattle.serde_json.specs.Written.{compact_text}
use Rattle.capn_trees.specs.Numbers.{number_of as encoding_number}
use Rattle.rpc_msg.specs.declared.ids.Stamp.{Stamp}
use Rattle.rpc_msg.specs.declared.ids.Vat.TheVariants.{A}
use Rattle.capn_stream.specs.declared.front.Front.{Front}
use Rattle.capn_stream.specs.declared.front.Front.TheVariants as front
use Rattle.capn_stream.specs.Fronts.{front_of}
use Rattle.capn_stream.specs.Streams.{IsSplit}
use Rattle.rpc_codec_parts.specs.Numbers.{number_of}
use Rattle.rpc_codec.specs.Envelopes.{What}
use Rattle.rpc_codec.specs.Decoding.{Came, envelope_at}
use Rattle.program_files.specs.declared.fault.ProgramFailure.{ProgramFailure}
use Rattle.program_files.specs.declared.fault.ProgramFailure.TheVariants as program
use Rattle.rpc_dump_lib.specs.declared.failure.Failure.{Failure}
use Rattle.rpc_dump_lib.specs.declared.failure.Failure.TheVariants as failure
use Rattle.rpc_dump_lib.specs.declared.form.Form.{Form}
use Rattle.rpc_dump_lib.specs.Lines.{fault_data}
use Rattle.rpc_dump_lib.specs.Named.{line_text}

-- ---- lines, each with its newline

-- No bytes have a stamp, and no line says this one.
abbrev pub no_stamp : Stamp
no_stamp = record { vat = A; reference = record { 0 = 0 }; index = 0 }

-- what a frame says, or why it says nothing
abbrev pub what_in : List ℕ → Came What
what_in frame = envelope_at no_stamp frame

abbrev pub what_line : Form → What → List ℕ
what_line form w = line_text form w ++ 10 ∷ []

abbrev pub message_line : Form → Came What → Option (List ℕ)
message_line form (Ok w) = Some (what_line form w)
message_line form (Err f) = None

-- of a frame of a stream; none where it says nothing
abbrev pub frame_line : Form → List ℕ → Option (List ℕ)
frame_line form frame = message_line form (what_in frame)

-- where frames stand by themselves, a fault has a line, too
abbrev pub any_line : Form → Came What → List ℕ
any_line form (Ok w) = what_line form w
any_line form (Err f) = compact_text (fault_data (number_of f)) ++ 10 ∷ []

abbrev pub spelled_line : Form → Result (List ℕ) FromHexError → Option (List ℕ)
spelled_line form (Ok frame) = Some (any_line form (what_in frame))
spelled_line form (Err e) = None

-- of the frame that digits spell; none where they are no hexadecimal
abbrev pub digits_line : Form → List ℕ → Option (List ℕ)
digits_line form digits = spelled_line form (decode_of digits)

-- ---- the parts of an input

abbrev pub is_newline : ℕ → Bool
is_newline b = b == 10

-- lines at the front of an input, and what is left behind them; the last one may lack its newline
abbrev pub IsLines : List ℕ → List (List ℕ) → List ℕ → Type 0
IsLines input [] rest = rest ≡ input
IsLines input (line ∷ lines) rest = (0 < length input) × (line ≡ before_first is_newline input) × IsLines (after_first is_newline input) lines rest

-- ---- what was said of them

abbrev pub joined : Option (List ℕ) → Option (List ℕ) → Option (List ℕ)
joined None more = None
joined (Some text) None = None
joined (Some text) (Some more) = Some (text ++ more)

-- the lines of the parts, in order; none where a part has none
abbrev pub lines_of : (List ℕ → Option (List ℕ)) → List (List ℕ) → Option (List ℕ)
lines_of line [] = Some []
lines_of line (part ∷ parts) = joined (line part) (lines_of line parts)

-- The number of the next part: they are counted from 1, up to the largest number of 64 bits.
abbrev pub number_behind : List (List ℕ) → ℕ
number_behind parts = min (length parts + 1) (2 ^ 64 - 1)

-- Each part up to a rest was said: their lines, in order, were put behind what the output held.
pub record Said (IsCut : List (List ℕ) → List ℕ → Type 0) (line : List ℕ → Option (List ℕ)) (rest : List ℕ) (number : ℕ) (old new : Option (List ℕ)) : Type 0 where
  pub parts : List (List ℕ)
  pub text : List ℕ
  pub cut : IsCut parts rest
  pub told : lines_of line parts ≡ Some text
  pub counted : number ≡ number_behind parts
  pub written : Appends old new text

-- ---- where it ends

-- the number of why a frame says nothing
abbrev pub IsFault : Came What → ℕ → Type 0
IsFault (Ok w) number = ⊥
IsFault (Err f) number = number ≡ number_of f

-- Why no message stands in front of the rest of a stream, by what stands there: a frame that says nothing, the beginning of
-- a frame, which the end cuts short, or no frame.
abbrev pub IsNone : List ℕ → Front → ℕ → Type 0
IsNone rest (front.Complete n) number = IsFault (what_in (take n rest)) number
IsNone rest (front.Need n) number = (0 < length rest) × (number ≡ 2)
IsNone rest (front.Fault f) number = number ≡ encoding_number f

-- What may stop any input: a lack of memory, and a reader or an output that fails. Of these nothing more can be said.
abbrev pub StopsAny : ProgramFailure → Type 0
StopsAny program.Memory = Unit {0}
StopsAny program.Unreadable = Unit {0}
StopsAny program.Unwritten = Unit {0}
StopsAny program.Usage = ⊥
StopsAny program.NotText = ⊥

-- Why the rest of a stream is not said, the first message of which would have that number.
abbrev pub StreamStops : List ℕ → ℕ → Failure → Type 0
StreamStops rest number (failure.Message last fault) = (last ≡ number) × IsNone rest (front_of rest) fault
StreamStops rest number (failure.Program why) = StopsAny why
StreamStops rest number (failure.NotHex line) = ⊥

-- why a line of digits is not said, which has that number
abbrev pub DigitsStop : List ℕ → ℕ → Failure → Type 0
DigitsStop digits number (failure.NotHex line) = (line ≡ number) × IsErr (decode_of digits)
DigitsStop digits number (failure.Program why) = StopsAny why
DigitsStop digits number (failure.Message last fault) = ⊥

abbrev pub LinesStop : List ℕ → ℕ → Failure → Type 0
LinesStop rest number why = DigitsStop (before_first is_newline rest) number why

pub record Stopped (IsCut : List (List ℕ) → List ℕ → Type 0) (line : List ℕ → Option (List ℕ)) (Stops : List ℕ → ℕ → Failure → Type 0) (old new : Option (List ℕ)) (why : Failure) : Type 0 where
  pub rest : List ℕ
  pub number : ℕ
  pub said : Said IsCut line rest number old new
  pub stops : Stops rest number why

-- All parts of an input are said, or those up to a rest, and why not the rest. An output that fails may hold anything.
abbrev pub Says : (List (List ℕ) → List ℕ → Type 0) → (List ℕ → Option (List ℕ)) → (List ℕ → ℕ → Failure → Type 0) → Option (List ℕ) → Option (List ℕ) → Result (Unit {0}) Failure → Type 0
Says IsCut line Stops old new (Ok done) = (number : ℕ) × Said IsCut line [] number old new
Says IsCut line Stops old new (Err why) = (why ≡ failure.Program program.Unwritten) ⊎ Stopped IsCut line Stops old new why

abbrev pub SaysBy : Bool → Form → List ℕ → Option (List ℕ) → Option (List ℕ) → Result (Unit {0}) Failure → Type 0
SaysBy false form input old new result = Says (IsSplit input) (frame_line form) StreamStops old new result
SaysBy true form input old new result = Says (IsLines input) (digits_line form) LinesStop old new result

-- What is said in a form of a conversation that a reader gives, in hexadecimal or as one stream, where an output held `old` and holds `new`.
abbrev pub Dumps : Bool → Form → Option (List ℕ) → Option (List ℕ) → Option (List ℕ) → Result (Unit {0}) Failure → Type 0
Dumps hex form bytes old new result = (input : List ℕ) × IsInput bytes input × SaysBy hex form input old new result
