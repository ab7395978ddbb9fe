-- A conversation so far, of which frames come one after the other (docs/looking.md).
use Rattle.std.specs.Prelude.{◌≡◌, ℕ, ◌+◌, ◌||◌, not, nat_lt, Bool, true, false, Option, Some, None, List, [], ◌∷◌, length}
use Rattle.look_pieces.specs.declared.piece.Side.{Side}
use Rattle.look_pieces.specs.Pieces.{other_side, capped}
use Rattle.look_books.specs.declared.books.Moment.{Moment}
use Rattle.look_books.specs.Ends.{Kept}
use Rattle.look_books.specs.After.{Are, unsaid}
use Rattle.rpc_look_lib.specs.declared.talk.Talk.{Talk}
use Rattle.rpc_look_lib.specs.declared.watch.Told.{Told}
use Rattle.rpc_look_lib.specs.Watching.{kept_by, IsSaid, IsJudged, behind, breaks}

-- What is kept of each end, whether something broke the protocol, and which message came last.
pub record Stand : Type 0 where
  pub kept : Side → Kept
  pub broken : Bool
  pub last : Moment

abbrev pub stand_of : Talk → Stand
stand_of t = record { kept = kept_by t.watch.books; broken = t.watch.is_broken; last = t.last }

-- Nothing was said.
pub record IsUnspoken (x : Stand) : Type 0 where
  pub kept : (s : Side) → x.kept s ≡ unsaid
  pub broken : x.broken ≡ false
  pub number : x.last.number ≡ 0

-- Something broke the protocol.
abbrev pub with_breach : Stand → Stand
with_breach x = record x { broken = true }

-- Whether the last message came that is asked for, if not all are.
abbrev pub is_done : Option ℕ → Stand → Bool
is_done None x = false
is_done (Some at) x = not (nat_lt x.last.number at)

-- When the next message comes: messages are counted from 1.
abbrev pub moment_of : Stand → Option ℕ → ℕ → Moment
moment_of x time size = record { number = capped (x.last.number + 1); time = time; size = size }

-- The next message comes, and was found to be that.
pub record ComesAs (old : Stand) (s : Side) (m : Moment) (told : Told) (new : Stand) : Type 0 where
  pub kept : Are (behind old.kept s m told) (new.kept s) (new.kept (other_side s))
  pub broken : new.broken ≡ (old.broken || breaks told)
  pub last : new.last ≡ m

-- The next frame comes: it is what it says, and all that is to be said of it was found by what was kept before it.
pub record Comes (old : Stand) (s : Side) (time : Option ℕ) (frame : List ℕ) (new : Stand) : Type 0 where
  pub told : Told
  pub said : IsSaid frame told
  pub judged : IsJudged old.kept s told
  pub comes : ComesAs old s (moment_of old time (length frame)) told new

-- Frames of an end come one after the other, up to the last message that is asked for.
abbrev pub AllCome : Option ℕ → Side → Option ℕ → Stand → List (List ℕ) → Stand → Type 0
AllCome at s time old [] new = new ≡ old
AllCome at s time old (frame ∷ frames) new = (is_done at old ≡ false) × (mid : Stand) × Comes old s time frame mid × AllCome at s time mid frames new
