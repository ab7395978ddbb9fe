-- A stream that is said while its bytes come.
use Rattle.std.specs.Prelude.{◌≡◌, ℕ, ◌⊎◌, List, [], ◌++◌, Option, Result, Ok, Err}
use Rattle.std.specs.Io.KnownBytes.{Consumes}
use Rattle.capn_stream.specs.Fronts.{front_of, IsShort}
use Rattle.capn_stream.specs.Readers.{Reader}
use Rattle.capn_stream.specs.Streams.{IsSplit}
use Rattle.program_files.specs.declared.fault.ProgramFailure.TheVariants as program
use Rattle.rpc_dump_lib.specs.declared.failure.Failure.{Failure}
use Rattle.rpc_dump_lib.specs.declared.failure.Failure.TheVariants as failure
use Rattle.rpc_dump_lib.specs.declared.form.Form.{Form}
use Rattle.rpc_dump_lib.specs.Conversations.{Said, Stopped, StreamStops, frame_line}

-- the bytes that wait
abbrev pub held_of : Reader → List ℕ
held_of (Ok held) = held
held_of (Err f) = []

-- it has not failed
abbrev pub IsSound : Reader → Type 0
IsSound (Ok held) = Unit {0}
IsSound (Err f) = ⊥

-- it has not failed, and no whole frame waits
abbrev pub IsOpen : Reader → Type 0
IsOpen (Ok held) = IsShort (front_of held)
IsOpen (Err f) = ⊥

-- of an input the messages were said up to a rest
abbrev pub SaidTo : Form → List ℕ → List ℕ → ℕ → Option (List ℕ) → Option (List ℕ) → Type 0
SaidTo form input rest number old new = Said (IsSplit input) (frame_line form) rest number old new

-- more of them, up to this rest, or why not
abbrev pub GoesOn : Form → List ℕ → List ℕ → Option (List ℕ) → Option (List ℕ) → Result ℕ Failure → Type 0
GoesOn form input rest old new (Ok number) = SaidTo form input rest number old new
GoesOn form input rest old new (Err why) = (why ≡ failure.Program program.Unwritten) ⊎ Stopped (IsSplit input) (frame_line form) StreamStops old new why

-- Of what a reader gave so far, whatever comes behind it, the messages were said up to what waits.
pub record Begun (form : Form) (known left : Option (List ℕ)) (held : List ℕ) (number : ℕ) (old new : Option (List ℕ)) : Type 0 where
  pub came : List ℕ
  pub consumed : Consumes known left came
  pub said : (rest : List ℕ) → SaidTo form (came ++ rest) (held ++ rest) number old new
