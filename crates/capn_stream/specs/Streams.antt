-- A stream: the bytes that come in, and the frames that go out.
use Rattle.std.specs.Prelude.{◌≡◌, ℕ, List, [], ◌∷◌, ◌++◌, take, Option, Some, None, Result, Ok, Err}
use Rattle.std.specs.List.{AllByRecursion, concat}
use Rattle.capn_stream.specs.declared.error.StreamError.{StreamError}
use Rattle.capn_stream.specs.declared.error.StreamError.TheVariants as error
use Rattle.capn_stream.specs.declared.front.Front.TheVariants as front
use Rattle.capn_stream.specs.Fronts.{front_of, IsFrame, IsHeld}
use Rattle.capn_stream.specs.Readers.{Reader, Pushed, Taken}

-- The bytes are these frames, each whole and in order, and then a rest.
pub record IsSplit (bytes : List ℕ) (frames : List (List ℕ)) (rest : List ℕ) : Type 0 where
  pub whole : AllByRecursion IsFrame frames
  pub joined : bytes ≡ concat frames ++ rest

-- what a reader holds of a stream of which these bytes are left: they wait in it, or they are why it failed
abbrev pub Stands : List ℕ → Reader → Type 0
Stands rest (Ok held) = (rest ≡ held) × IsHeld held
Stands rest (Err f) = front_of rest ≡ front.Fault f

-- a call of a reader: a piece is handed to it, with what it answers, or a frame is asked for
pub data Call : Type 0 where
  Push : List ℕ → Result ℕ StreamError → Call
  Take : Option (List ℕ) → Call

abbrev pub Answers : Reader → Call → Reader → Type 0
Answers old (Push piece result) new = Pushed old piece result new
Answers old (Take frame) new = Taken old frame new

-- calls of a reader, one after the other
abbrev pub Reads : Reader → List Call → Reader → Type 0
Reads old [] new = new ≡ old
Reads old (call ∷ calls) new = (mid : Reader) × Answers old call mid × Reads mid calls new

-- the bytes that a call takes: as many as it answers; none where memory is wanted; all where it fails
abbrev pub taken_of : List ℕ → Result ℕ StreamError → List ℕ
taken_of piece (Ok n) = take n piece
taken_of piece (Err error.Memory) = []
taken_of piece (Err (error.Fault f)) = piece

-- the bytes that came in
abbrev pub came : List Call → List ℕ
came [] = []
came (Push piece result ∷ calls) = taken_of piece result ++ came calls
came (Take frame ∷ calls) = came calls

-- the frames that went out
abbrev pub gave : List Call → List (List ℕ)
gave [] = []
gave (Push piece result ∷ calls) = gave calls
gave (Take None ∷ calls) = gave calls
gave (Take (Some frame) ∷ calls) = frame ∷ gave calls
