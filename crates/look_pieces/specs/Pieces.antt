-- The pieces that the lines of a log tell (docs/looking.md).
use Rattle.std.specs.Prelude.{◌≡◌, ℕ, ◌+◌, ◌-◌, ◌^◌, ◌==◌, ◌++◌, min, nat_lt, if◌then◌else◌, Option, Some, None, List, [], length, Result, Ok, Err}
use Rattle.look_pieces.specs.declared.piece.Piece.{Piece}
use Rattle.look_pieces.specs.declared.piece.Side.{Side}
use Rattle.look_pieces.specs.declared.piece.Side.TheVariants as side
use Rattle.look_pieces.specs.declared.line.Head.{Head}
use Rattle.look_pieces.specs.declared.log.Day.{Day}
use Rattle.look_pieces.specs.declared.log.Place.{Place}
use Rattle.look_pieces.specs.declared.fault.LogFault.{LogFault}
use Rattle.look_pieces.specs.declared.fault.LogFault.TheVariants as fault
use Rattle.look_pieces.specs.declared.fault.LogError.{LogError}
use Rattle.look_pieces.specs.declared.fault.LogError.TheVariants as error
use Rattle.look_pieces.specs.Lines.{head_of, bytes_of}

abbrev pub other_side : Side → Side
other_side side.Client = side.Server
other_side side.Server = side.Client

abbrev pub capped : ℕ → ℕ
capped n = min n (2 ^ 64 - 1)

-- ---- time

-- A clock that reads more than half a day less than before has passed midnight.
abbrev pub passed_at : Day → ℕ → ℕ
passed_at d clock = if nat_lt (capped (clock + 43200000000)) d.last then capped (d.passed + 86400000000) else d.passed

abbrev pub day_at : Option Day → ℕ → Day
day_at None clock = record { first = clock; last = clock; passed = 0 }
day_at (Some d) clock = record { first = d.first; last = clock; passed = passed_at d clock }

-- microseconds since the first piece
abbrev pub elapsed : Day → ℕ
elapsed d = capped (d.passed + d.last) - d.first

-- ---- lines

-- How many bytes an end sent so far.
abbrev pub sent_by : Side → Place → ℕ
sent_by side.Client p = p.client
sent_by side.Server p = p.server

abbrev pub sent_to : Head → ℕ
sent_to h = capped (h.from + h.length)

abbrev pub if_client : Side → ℕ → ℕ → ℕ
if_client side.Client x y = x
if_client side.Server x y = y

abbrev pub after_piece : Head → Place → Place
after_piece h p = record {
  begun = None;
  client = (if_client h.side (sent_to h) p.client);
  server = (if_client h.side p.server (sent_to h));
  day = Some (day_at p.day h.clock);
  lines = p.lines;
}

abbrev pub counted : Place → Place
counted p = record p { lines = capped (p.lines + 1) }

-- What a reader is: where it stands, and the bytes of the piece that has begun.
abbrev pub State : Type 0
State = Place × List ℕ

-- What a line does: the piece that it ends, if it ends one, and the reader behind it; or why the lines are no log.
abbrev pub Told : Type 0
Told = Result (Option (Head × (ℕ × List ℕ)) × State) LogFault

-- a line between pieces: a head begins a piece where that end's bytes ended, and what is no head is passed over
abbrev pub between : Place → List ℕ → Option Head → Told
between p held None = Ok (None, (p, held))
between p held (Some h) =
    if h.from == sent_by h.side p then Ok (None, (record p { begun = Some h }, []))
    else Err (fault.Gap p.lines h.from (sent_by h.side p))

-- a line of bytes in a piece: more of it, all of it, or too many
abbrev pub more_of : Place → Head → List ℕ → Told
more_of p h came =
    if nat_lt (length came) h.length then Ok (None, (p, came))
    else if length came == h.length then Ok (Some (h, (elapsed (day_at p.day h.clock), came)), (after_piece h p, []))
    else Err (fault.TooMany p.lines (length came) h.length)

abbrev pub inside : Place → Head → List ℕ → Option (List ℕ) → Option Head → Told
inside p h held (Some bytes) head = more_of p h (held ++ bytes)
inside p h held None (Some head) = Err (fault.TooFew p.lines h.length (length held))
inside p h held None None = Err (fault.NoBytes p.lines)

abbrev pub told_by : Place → Option Head → List ℕ → List ℕ → Told
told_by p None held line = between p held (head_of line)
told_by p (Some h) held line = inside p h held (bytes_of line) (head_of line)

abbrev pub told : State → List ℕ → Told
told s line = told_by (counted s.0) s.0.begun s.1 line

-- ---- the end

abbrev pub end_by : Option Head → List ℕ → Result (Unit {0}) LogFault
end_by None held = Ok tt
end_by (Some h) held = Err (fault.CutShort h.length (length held))

-- A log may end between pieces.
abbrev pub end_of : State → Result (Unit {0}) LogFault
end_of s = end_by s.0.begun s.1

-- ---- an answer

-- A line was taken as it tells, or memory was wanted, or the lines are no log; an error leaves the reader as it was.
abbrev pub IsPiece : Option (Head × (ℕ × List ℕ)) → Option Piece → Type 0
IsPiece None answer = answer ≡ None
IsPiece (Some (h, (time, bytes))) None = ⊥
IsPiece (Some (h, (time, bytes))) (Some p) = (p.side ≡ h.side) × (p.time ≡ time) × (p.bytes.items ≡ bytes)

abbrev pub IsTaken : Told → Option Piece → State → Type 0
IsTaken (Err f) answer new = ⊥
IsTaken (Ok (piece, s)) answer new = IsPiece piece answer × (new ≡ s)

abbrev pub TakesBy : Told → State → Result (Option Piece) LogError → State → Type 0
TakesBy t old (Ok answer) new = IsTaken t answer new
TakesBy t old (Err error.Memory) new = new ≡ old
TakesBy t old (Err (error.Fault f)) new = (t ≡ Err f) × (new ≡ old)

abbrev pub Takes : State → List ℕ → Result (Option Piece) LogError → State → Type 0
Takes old line answer new = TakesBy (told old line) old answer new
