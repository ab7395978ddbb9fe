-- A reader of a stream: the bytes that wait in it, or the fault for which it failed.
use Rattle.std.specs.Prelude.{◌≡◌, ℕ, ◌-◌, List, [], ◌∷◌, ◌++◌, length, take, Option, Some, None, Result, Ok, Err, ◌⊎◌}
use Rattle.capn_trees.specs.declared.faults.PayloadFault.{PayloadFault}
use Rattle.capn_trees.specs.declared.faults.PayloadFault.TheVariants.{Short}
use Rattle.capn_stream.specs.declared.front.Front.{Front}
use Rattle.capn_stream.specs.declared.front.Front.TheVariants as front
use Rattle.capn_stream.specs.declared.error.StreamError.{StreamError}
use Rattle.capn_stream.specs.declared.error.StreamError.TheVariants as error
use Rattle.capn_stream.specs.Fronts.{front_of, IsShort}

abbrev pub Reader : Type 0
Reader = Result (List ℕ) PayloadFault

abbrev pub reader_of : List ℕ → Option PayloadFault → Reader
reader_of held None = Ok held
reader_of held (Some fault) = Err fault

abbrev pub FilledBy : List ℕ → List ℕ → Front → Result ℕ StreamError → List ℕ → Type 0
FilledBy held piece (front.Complete n) result new = (result ≡ Ok (n - length held)) × (new ≡ take n (held ++ piece))
FilledBy held piece (front.Need n) result new = (result ≡ Ok (length piece)) × (new ≡ held ++ piece)
FilledBy held piece (front.Fault f) result new = result ≡ Err (error.Fault f)

-- What waits is filled up from a piece, to the end of the frame at most; or memory is wanted, and it stays.
abbrev pub Filled : List ℕ → List ℕ → Result ℕ StreamError → List ℕ → Type 0
Filled held piece result new = FilledBy held piece (front_of (held ++ piece)) result new ⊎ ((result ≡ Err error.Memory) × (new ≡ held))

abbrev pub PushedBy : List ℕ → List ℕ → Front → Result ℕ StreamError → Reader → Type 0
PushedBy held piece (front.Complete n) result new = (result ≡ Ok (n - length held)) × (new ≡ Ok (take n (held ++ piece)))
PushedBy held piece (front.Need n) result new = (result ≡ Ok (length piece)) × (new ≡ Ok (held ++ piece))
PushedBy held piece (front.Fault f) result new = (result ≡ Err (error.Fault f)) × (new ≡ Err f)

-- A reader is handed a piece: how many of its bytes it takes, and what it is then. By what stands at the front of what
-- waits with the piece: up to the end of the frame where one is whole, and all where none is; a fault ends it. Or memory
-- is wanted, and it stays as it was.
abbrev pub Pushed : Reader → List ℕ → Result ℕ StreamError → Reader → Type 0
Pushed (Err f) piece result new = (result ≡ Err (error.Fault f)) × (new ≡ Err f)
Pushed (Ok held) piece result new = PushedBy held piece (front_of (held ++ piece)) result new ⊎ ((result ≡ Err error.Memory) × (new ≡ Ok held))

abbrev pub TakenBy : List ℕ → Front → Option (List ℕ) → Reader → Type 0
TakenBy held (front.Complete n) frame new = (frame ≡ Some held) × (new ≡ Ok [])
TakenBy held (front.Need n) frame new = (frame ≡ None) × (new ≡ Ok held)
TakenBy held (front.Fault f) frame new = (frame ≡ None) × (new ≡ Ok held)

-- a reader gives the frame that is whole
abbrev pub Taken : Reader → Option (List ℕ) → Reader → Type 0
Taken (Err f) frame new = (frame ≡ None) × (new ≡ Err f)
Taken (Ok held) frame new = TakenBy held (front_of held) frame new

abbrev pub end_at : List ℕ → Front → Result (Unit {0}) PayloadFault
end_at held (front.Complete n) = Ok tt
end_at [] (front.Need n) = Ok tt
end_at (b ∷ held) (front.Need n) = Err Short
end_at held (front.Fault f) = Err f

-- what it means that the stream ends here: a frame that isn't whole is cut short
abbrev pub end_of : Reader → Result (Unit {0}) PayloadFault
end_of (Err f) = Err f
end_of (Ok held) = end_at held (front_of held)

-- how many bytes wait
abbrev pub count_of : Reader → ℕ
count_of (Err f) = 0
count_of (Ok held) = length held

-- no whole frame waits to be taken
abbrev pub IsWaiting : Reader → Type 0
IsWaiting (Err f) = Unit {0}
IsWaiting (Ok held) = IsShort (front_of held)
