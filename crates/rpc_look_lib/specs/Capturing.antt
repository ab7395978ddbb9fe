-- A conversation of which pieces come (docs/looking.md).
use Rattle.std.specs.Prelude.{◌≡◌, ℕ, Bool, true, false, Option, Some, None, List, [], ◌∷◌, ◌++◌}
use Rattle.capn_trees.specs.declared.faults.PayloadFault.{PayloadFault}
use Rattle.capn_stream.specs.declared.front.Front.{Front}
use Rattle.capn_stream.specs.declared.front.Front.TheVariants as front
use Rattle.capn_stream.specs.Fronts.{front_of, IsFrame}
use Rattle.capn_stream.specs.Streams.{IsSplit}
use Rattle.look_pieces.specs.declared.piece.Side.{Side}
use Rattle.look_pieces.specs.declared.piece.Side.TheVariants as side
use Rattle.look_pieces.specs.Pieces.{other_side}
use Rattle.rpc_look_lib.specs.declared.capture.Capture.{Capture}
use Rattle.rpc_look_lib.specs.Talking.{Stand, stand_of, IsUnspoken, with_breach, is_done, Comes, AllCome}
use Rattle.rpc_look_lib.specs.Streams.{Waits, IsBegun, GivesBy}

-- What was said, and what waits of the bytes of each end.
pub record Scene : Type 0 where
  pub stand : Stand
  pub waits : Side → Waits

abbrev pub stream_of : Capture → Side → Waits
stream_of c side.Client = c.client
stream_of c side.Server = c.server

abbrev pub scene_of : Capture → Scene
scene_of c = record { stand = stand_of c.talk; waits = stream_of c }

-- Nothing came.
pub record IsBare (x : Scene) : Type 0 where
  pub stand : IsUnspoken x.stand
  pub waits : (s : Side) → x.waits s ≡ Some []

-- ---- a part of a piece

-- A frame comes, or none does.
abbrev pub FrameComes : Side → Option ℕ → Stand → Option (List ℕ) → Stand → Type 0
FrameComes s time old None new = new ≡ old
FrameComes s time old (Some frame) new = IsFrame frame × Comes old s time frame new

-- What waits and the first bytes of a part are a frame, which comes; or they wait.
abbrev pub OneComes : Side → Option ℕ → List ℕ → List ℕ → Stand → ℕ → Option (List ℕ) → List ℕ → Stand → Type 0
OneComes s time held part old count frame waits new = GivesBy held part count frame waits × FrameComes s time old frame new

-- What a part of a piece does, of which so many bytes are taken; or none, where no frame comes next.
abbrev pub PartBy : Side → Option ℕ → List ℕ → List ℕ → Stand → Option ℕ → Waits → Stand → Type 0
PartBy s time held part old None waits new = (f : PayloadFault) × (front_of (held ++ part) ≡ front.Fault f) × (waits ≡ None) × (new ≡ with_breach old)
PartBy s time held part old (Some count) waits new =
    (frame : Option (List ℕ)) × (left : List ℕ) × (waits ≡ Some left) × IsBegun (front_of left) × OneComes s time held part old count frame left new

-- A part of a piece comes of an end.
abbrev pub PartComes : Side → Option ℕ → List ℕ → Waits → Stand → Option ℕ → Waits → Stand → Type 0
PartComes s time part None old count waits new = ⊥
PartComes s time part (Some held) old count waits new = PartBy s time held part old count waits new

-- ---- a piece

-- Behind the frames of a piece the beginning of the next one waits, or no frame comes next. Behind the last message that is
-- asked for nothing is looked at.
abbrev pub EndsBy : Bool → Front → List ℕ → Stand → Waits → Stand → Type 0
EndsBy true f rest x waits new = new ≡ x
EndsBy false (front.Complete n) rest x waits new = ⊥
EndsBy false (front.Need n) rest x waits new = (new ≡ x) × (waits ≡ Some rest)
EndsBy false (front.Fault f) rest x waits new = (new ≡ with_breach x) × (waits ≡ None)

-- A piece comes of an end of which those bytes wait: the frames that end in it come one after the other.
pub record PieceGives (at : Option ℕ) (s : Side) (time : Option ℕ) (bytes held : List ℕ) (old : Stand) (waits : Waits) (new : Stand) : Type 0 where
  pub frames : List (List ℕ)
  pub rest : List ℕ
  pub split : IsSplit (held ++ bytes) frames rest
  pub stand : Stand
  pub come : AllCome at s time old frames stand
  pub ends : EndsBy (is_done at stand) (front_of rest) rest stand waits new

-- A piece comes of an end: it is passed over where nothing of the end is read any more.
abbrev pub StreamComes : Option ℕ → Side → Option ℕ → List ℕ → Waits → Stand → Waits → Stand → Type 0
StreamComes at s time bytes None old waits new = (waits ≡ None) × (new ≡ old)
StreamComes at s time bytes (Some held) old waits new = PieceGives at s time bytes held old waits new

-- A piece comes of an end; what waits of the other stays.
abbrev pub PieceComes : Option ℕ → Side → Option ℕ → List ℕ → Scene → Scene → Type 0
PieceComes at s time bytes old new =
    StreamComes at s time bytes (old.waits s) old.stand (new.waits s) new.stand × (new.waits (other_side s) ≡ old.waits (other_side s))
