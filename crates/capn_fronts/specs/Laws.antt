-- The law of readers.
use Rattle.std.specs.Prelude.{◌≡◌, ◌⊎◌, ℕ, ◌+◌, ◌*◌, ◌<◌, ◌≤◌, List, [], ◌∷◌, ◌++◌, length, take, sum, Option, Some, None, Ok, Err}
use Rattle.std.specs.List.{concat}
use Rattle.capn_trees.specs.Limits.{most_words}
use Rattle.capn_trees.specs.declared.faults.PayloadFault.{PayloadFault}
use Rattle.capn_reading.specs.Framing.{segment_count, sizes, table_words}
use Rattle.capn_stream.specs.declared.error.StreamError.TheVariants as error
use Rattle.capn_stream.specs.declared.front.Front.TheVariants as front
use Rattle.capn_fronts.specs.Parts.{Part, IsHeld, IsWhole, front_of, nothing, front_words}
use Rattle.capn_fronts.specs.Readers.{Pushed, Given}

-- These bytes came of a frame: those that are kept stand at their front, and the others were dropped.
abbrev pub Stands : List ℕ → Part → Type 0
Stands bytes p = (gone : List ℕ) × (bytes ≡ p.kept ++ gone) × (length gone ≡ p.dropped)

-- The bytes are one frame, and this is kept of it.
abbrev pub IsKept : List ℕ → Part → Type 0
IsKept frame p = Stands frame p × IsWhole p

abbrev pub AreKept : List (List ℕ) → List Part → Type 0
AreKept [] [] = Unit {0}
AreKept [] (p ∷ ps) = ⊥
AreKept (frame ∷ frames) [] = ⊥
AreKept (frame ∷ frames) (p ∷ ps) = IsKept frame p × AreKept frames ps

-- a call of a reader: a piece is handed to it, with what it answers, or a frame is asked for
pub data Call : Type 0 where
  Push : List ℕ → ℕ → Call
  Refused : List ℕ → Call
  Take : Option Part → Call

abbrev pub Answers : Part → Call → Part → Type 0
Answers old (Push piece taken) new = Pushed old piece (Ok taken) new
Answers old (Refused piece) new = Pushed old piece (Err error.Memory) new
Answers old (Take frame) new = Given old frame new

-- calls of a reader that met no fault, one after the other
abbrev pub Reads : Part → List Call → Part → Type 0
Reads old [] new = new ≡ old
Reads old (call ∷ calls) new = (mid : Part) × Answers old call mid × Reads mid calls new

-- the bytes that came in
abbrev pub came : List Call → List ℕ
came [] = []
came (Push piece taken ∷ calls) = take taken piece ++ came calls
came (Refused piece ∷ calls) = came calls
came (Take frame ∷ calls) = came calls

-- what went out
abbrev pub gave : List Call → List Part
gave [] = []
gave (Push piece taken ∷ calls) = gave calls
gave (Refused piece ∷ calls) = gave calls
gave (Take None ∷ calls) = gave calls
gave (Take (Some frame) ∷ calls) = frame ∷ gave calls

-- The bytes that came in are frames, each whole and in order, and a rest. What went out is what is to be kept of each, and of the rest
-- this is kept.
abbrev pub FrontsAreOfTheFrames : Type 0
FrontsAreOfTheFrames = (calls : List Call) (new : Part) → Reads nothing calls new
    → (frames : List (List ℕ)) × (rest : List ℕ) × (came calls ≡ concat frames ++ rest) × AreKept frames (gave calls) × Stands rest new

-- What is kept of a whole frame: all, or of one that has more words than a message may have the table and that many words.
abbrev pub KeepsTheFront : Type 0
KeepsTheFront = (p : Part) → IsWhole p
    → ((p.dropped ≡ 0) × (sum (sizes p.kept) ≤ most_words)) ⊎ ((0 < p.dropped) × (most_words < sum (sizes p.kept)) × (length p.kept ≡ 8 * (table_words (segment_count p.kept) + front_words)))

-- These bytes begin with no frame.
abbrev pub IsNone : List ℕ → PayloadFault → Type 0
IsNone bytes f = front_of (record { kept = bytes; dropped = 0 }) ≡ front.Fault f

-- A piece comes behind bytes of which a reader holds what is to be kept. What it holds then is of these bytes and of what it took; or
-- with the piece they begin with no frame, and so they do whatever follows.
pub record PiecesStand : Type 0 where
  pub taken : (bytes piece : List ℕ) (old new : Part) (n : ℕ) → Stands bytes old → IsHeld old → Pushed old piece (Ok n) new → Stands (bytes ++ take n piece) new × IsHeld new
  pub refused : (bytes piece : List ℕ) (old new : Part) (f : PayloadFault) → Stands bytes old → IsHeld old → Pushed old piece (Err (error.Fault f)) new → IsNone (bytes ++ piece) f
  pub stays : (bytes more : List ℕ) (f : PayloadFault) → IsNone bytes f → IsNone (bytes ++ more) f
