-- Two files, of what each end sent, without an order between them (docs/looking.md).
use Rattle.std.specs.Prelude.{◌≡◌, ◌⊎◌, ℕ, not, Bool, true, false, Option, Some, None, List, [], ◌∷◌, length}
use Rattle.program_files.specs.Texts.{IsInput}
use Rattle.capn_stream.specs.declared.front.Front.{Front}
use Rattle.capn_stream.specs.declared.front.Front.TheVariants as front
use Rattle.capn_stream.specs.Fronts.{front_of}
use Rattle.capn_stream.specs.Streams.{IsSplit}
use Rattle.look_pieces.specs.declared.piece.Side.{Side}
use Rattle.look_pieces.specs.declared.piece.Side.TheVariants as side
use Rattle.look_pieces.specs.Pieces.{other_side}
use Rattle.rpc_look_lib.specs.declared.watch.Told.{Told}
use Rattle.rpc_look_lib.specs.declared.weaving.Left.{Left}
use Rattle.rpc_look_lib.specs.declared.weaving.Next.{Next}
use Rattle.rpc_look_lib.specs.Watching.{IsSaid, IsJudged, breaks}
use Rattle.rpc_look_lib.specs.Talking.{Stand, IsUnspoken, with_breach, is_done, moment_of, ComesAs}

-- ---- frames

-- Behind the frames of an end the beginning of the next one is left, or no frame comes next, which breaks the protocol.
abbrev pub CutEnds : Front → Stand → Stand → Type 0
CutEnds (front.Complete n) old new = ⊥
CutEnds (front.Need n) old new = new ≡ old
CutEnds (front.Fault f) old new = new ≡ with_breach old

-- The bytes of an end are these frames, and what is left behind them.
pub record Cuts (bytes : List ℕ) (old : Stand) (frames : List (List ℕ)) (new : Stand) : Type 0 where
  pub rest : List ℕ
  pub split : IsSplit bytes frames rest
  pub ends : CutEnds (front_of rest) old new

-- ---- the next message

-- What the next frame of an end is, and what is to be said of it.
abbrev pub IsNextOf : Stand → Side → List (List ℕ) → ℕ → Told → Type 0
IsNextOf x s [] size told = ⊥
IsNextOf x s (frame ∷ frames) size told = (size ≡ length frame) × IsSaid frame told × IsJudged x.kept s told

-- That is the next message of an end, if a frame of it is left.
abbrev pub IsNextAt : Stand → Side → List (List ℕ) → Option Next → Type 0
IsNextAt x s [] None = Unit {0}
IsNextAt x s [] (Some n) = ⊥
IsNextAt x s (frame ∷ frames) None = ⊥
IsNextAt x s (frame ∷ frames) (Some n) = (n.side ≡ s) × IsNextOf x s (frame ∷ frames) n.size n.told

-- whether there is a message, and it may be said
abbrev pub may_come : Option Next → Bool
may_come None = false
may_come (Some n) = not (breaks n.told)

-- An end has no message that it may say next.
abbrev pub HasNone : Stand → Side → List (List ℕ) → Type 0
HasNone x s [] = Unit {0}
HasNone x s (frame ∷ frames) = (told : Told) × IsSaid frame told × IsJudged x.kept s told × (breaks told ≡ true)

-- A message of an end is the next one: it may be said, or the other end has none that may.
abbrev pub IsPicked : Stand → Side → List (List ℕ) → List (List ℕ) → ℕ → Told → Type 0
IsPicked x s mine theirs size told = IsNextOf x s mine size told × (breaks told ≡ true → HasNone x (other_side s) theirs)

-- That is the next message of the two ends, if a frame is left.
abbrev pub IsChosen : Stand → Side → List (List ℕ) → List (List ℕ) → Option Next → Type 0
IsChosen x s mine theirs None = (mine ≡ []) × (theirs ≡ [])
IsChosen x s mine theirs (Some n) =
    ((n.side ≡ s) × IsPicked x s mine theirs n.size n.told) ⊎ ((n.side ≡ other_side s) × IsPicked x (other_side s) theirs mine n.size n.told)

-- ---- all messages

-- The frames of the client and of the server that are left.
pub record Rest : Type 0 where
  pub client : List (List ℕ)
  pub server : List (List ℕ)

abbrev pub rest_in : Left → Rest
rest_in l = record { client = l.client.now; server = l.server.now }

abbrev pub rest_of : Rest → Side → List (List ℕ)
rest_of r side.Client = r.client
rest_of r side.Server = r.server

abbrev pub behind_next : List (List ℕ) → List (List ℕ)
behind_next [] = []
behind_next (frame ∷ frames) = frames

-- what is left behind the next frame of an end
abbrev pub without_next : Side → Rest → Rest
without_next side.Client r = record { client = behind_next r.client; server = r.server }
without_next side.Server r = record { client = r.client; server = behind_next r.server }

-- Messages of these ends come one after the other, up to the last one that is asked for.
abbrev pub Weaves : Option ℕ → Stand → Rest → List Side → Stand → Rest → Type 0
Weaves at x left [] y rest = (y ≡ x) × (rest ≡ left)
Weaves at x left (s ∷ order) y rest =
    (is_done at x ≡ false) × (size : ℕ) × (told : Told) × IsPicked x s (rest_of left s) (rest_of left (other_side s)) size told
    × (mid : Stand) × ComesAs x s (moment_of x None size) told mid × Weaves at mid (without_next s left) order y rest

-- No message is left, or the last one came that is asked for.
abbrev pub IsOver : Bool → Rest → Type 0
IsOver true rest = Unit {0}
IsOver false rest = (rest.client ≡ []) × (rest.server ≡ [])

-- The frames of both ends that are left come in one order.
pub record Woven (at : Option ℕ) (old : Stand) (left : Rest) (new : Stand) : Type 0 where
  pub order : List Side
  pub rest : Rest
  pub weaves : Weaves at old left order new rest
  pub over : IsOver (is_done at new) rest

-- Two files are looked at: their frames come in one order, and the verdict is that of what was said behind the last one.
pub record LooksAtTwo (at : Option ℕ) (to from : List ℕ) (broken : Bool) : Type 0 where
  pub start : Stand
  pub unspoken : IsUnspoken start
  pub client : List (List ℕ)
  pub first : Stand
  pub cut_client : Cuts to start client first
  pub server : List (List ℕ)
  pub second : Stand
  pub cut_server : Cuts from first server second
  pub new : Stand
  pub woven : Woven at second (record { client = client; server = server }) new
  pub verdict : broken ≡ new.broken

-- Whether something breaks the protocol in the two files that readers give.
abbrev pub LooksTwo : Option ℕ → Option (List ℕ) → Option (List ℕ) → Bool → Type 0
LooksTwo at to from broken = (x y : List ℕ) × IsInput to x × IsInput from y × LooksAtTwo at x y broken
