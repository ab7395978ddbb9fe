-- The laws of streams.
use Rattle.std.specs.Prelude.{◌≡◌, ℕ, List, [], ◌++◌, Ok}
use Rattle.capn_reading.specs.Framing.{IsFramed}
use Rattle.capn_stream.specs.declared.front.Front.{Front}
use Rattle.capn_stream.specs.declared.front.Front.TheVariants.{Complete, Need, Fault}
use Rattle.capn_stream.specs.Fronts.{front_of, IsFrame}
use Rattle.capn_stream.specs.Readers.{Reader, IsWaiting}
use Rattle.capn_stream.specs.Streams.{IsSplit, Stands, Call, Reads, came, gave}

-- The frames that went out and what waits are the bytes that came in.
abbrev pub FramesAreTheBytes : Type 0
FramesAreTheBytes = (calls : List Call) (new : Reader) → Reads (Ok []) calls new
    → (rest : List ℕ) × IsSplit (came calls) (gave calls) rest × Stands rest new

-- However the same bytes were cut, the same frames went out, and the reader is the same.
abbrev pub PiecesDoNotMatter : Type 0
PiecesDoNotMatter = (calls others : List Call) (new other : Reader) → Reads (Ok []) calls new → Reads (Ok []) others other
    → came calls ≡ came others → IsWaiting new → IsWaiting other
    → (gave calls ≡ gave others) × (new ≡ other)

-- What the encoding calls a message is a frame.
abbrev pub MessagesAreFrames : Type 0
MessagesAreFrames = (bytes : List ℕ) (segments : List (List ℕ)) → IsFramed bytes segments → IsFrame bytes

abbrev pub Stays : Front → Front → Type 0
Stays (Complete n) later = later ≡ Complete n
Stays (Need n) later = Unit {0}
Stays (Fault f) later = later ≡ Fault f

-- A frame at the front, or the fault of what is none, stays as more bytes come.
abbrev pub FrontsStay : Type 0
FrontsStay = (bytes more : List ℕ) → Stays (front_of bytes) (front_of (bytes ++ more))
