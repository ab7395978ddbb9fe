-- The bytes of one end, of which parts come (docs/looking.md).
use Rattle.std.specs.Prelude.{◌≡◌, ℕ, Bool, true, false, Option, Some, None, List, [], ◌++◌, drop, Result, Ok, Err}
use Rattle.capn_stream.specs.declared.front.Front.{Front}
use Rattle.capn_stream.specs.declared.front.Front.TheVariants as front
use Rattle.capn_stream.specs.declared.error.StreamError.{StreamError}
use Rattle.capn_stream.specs.declared.error.StreamError.TheVariants as error
use Rattle.capn_stream.specs.Fronts.{front_of}
use Rattle.capn_stream.specs.Readers.{Reader, IsWaiting}
use Rattle.capn_stream.specs.Streams.{Call, Reads}
use Rattle.rpc_look_lib.specs.declared.stream.Given.{Given}

-- The bytes that wait, of a frame that has begun; or none, where nothing of the end is read any more.
abbrev pub Waits : Type 0
Waits = Option (List ℕ)

abbrev pub waits_of : Reader → Bool → Waits
waits_of (Ok held) true = Some held
waits_of (Ok held) false = None
waits_of (Err f) sound = None

-- no frame is whole, and none is none
abbrev pub IsBegun : Front → Type 0
IsBegun (front.Complete n) = ⊥
IsBegun (front.Need n) = Unit {0}
IsBegun (front.Fault f) = ⊥

abbrev pub IsOpen : Reader → Type 0
IsOpen (Ok held) = IsWaiting (Ok held)
IsOpen (Err f) = ⊥

-- what holds of a reader whose frames are read
abbrev pub IsKept : Reader → Bool → Type 0
IsKept r true = (calls : List Call) × Reads (Ok []) calls r × IsOpen r
IsKept r false = Unit {0}

-- What waits and the first bytes of a part are a frame, or they wait.
abbrev pub GivesBy : List ℕ → List ℕ → ℕ → Option (List ℕ) → List ℕ → Type 0
GivesBy held part count None waits = held ++ part ≡ waits ++ drop count part
GivesBy held part count (Some frame) waits = (waits ≡ []) × (held ++ part ≡ frame ++ drop count part)

abbrev pub GivesOf : List ℕ → List ℕ → Result Given StreamError → Waits → Type 0
GivesOf held part (Ok given) new = (waits : List ℕ) × (new ≡ Some waits) × IsBegun (front_of waits) × GivesBy held part given.count given.frame waits
GivesOf held part (Err error.Memory) new = Unit {0}
GivesOf held part (Err (error.Fault f)) new = (new ≡ None) × (front_of (held ++ part) ≡ front.Fault f)

-- What a part of the bytes gives, and what waits behind it.
abbrev pub Gives : Waits → List ℕ → Result Given StreamError → Waits → Type 0
Gives None part result new = ⊥
Gives (Some held) part result new = GivesOf held part result new
