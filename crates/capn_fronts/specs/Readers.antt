-- A reader of a stream: what is kept of the frame that comes.
use Rattle.std.specs.Prelude.{◌≡◌, ◌⊎◌, ℕ, ◌+◌, ◌-◌, List, [], ◌∷◌, ◌++◌, length, take, Option, Some, None, Result, Ok, Err}
use Rattle.capn_trees.specs.declared.faults.PayloadFault.{PayloadFault}
use Rattle.capn_trees.specs.declared.faults.PayloadFault.TheVariants.{Short}
use Rattle.capn_stream.specs.declared.error.StreamError.{StreamError}
use Rattle.capn_stream.specs.declared.error.StreamError.TheVariants as error
use Rattle.capn_stream.specs.declared.front.Front.{Front}
use Rattle.capn_stream.specs.declared.front.Front.TheVariants as front
use Rattle.capn_fronts.specs.Parts.{Part, count_of, front_of, keeps_of, nothing}

-- More bytes of it came: they are kept as far as there is to be kept of it, and the others are dropped.
abbrev pub added_by : ℕ → Part → List ℕ → Part
added_by room p more = record { kept = p.kept ++ take room more; dropped = p.dropped + (length more - room) }

abbrev pub added : Part → List ℕ → Part
added p more = added_by (keeps_of p - length p.kept) p more

-- What comes of the bytes that were taken: their number, or a fault, and nothing is kept then.
abbrev pub TakesBy : Front → ℕ → Part → Result ℕ StreamError → Part → Type 0
TakesBy (front.Complete n) count grown result new = (result ≡ Ok count) × (new ≡ grown)
TakesBy (front.Need n) count grown result new = (result ≡ Ok count) × (new ≡ grown)
TakesBy (front.Fault f) count grown result new = (result ≡ Err (error.Fault f)) × (new ≡ nothing)

abbrev pub Takes : Part → List ℕ → Result ℕ StreamError → Part → Type 0
Takes old more result new = TakesBy (front_of (added old more)) (length more) (added old more) result new

abbrev pub PushedBy : Front → Part → List ℕ → Result ℕ StreamError → Part → Type 0
PushedBy (front.Complete n) old piece result new = (result ≡ Ok 0) × (new ≡ old)
PushedBy (front.Need n) old piece result new = Takes old (take (n - count_of old) piece) result new
PushedBy (front.Fault f) old piece result new = ⊥

-- A reader is handed a piece: it takes what it needs to go on, its table or all of the frame. Or memory is wanting, and it stays as it
-- was.
abbrev pub Pushed : Part → List ℕ → Result ℕ StreamError → Part → Type 0
Pushed old piece result new = PushedBy (front_of old) old piece result new ⊎ ((result ≡ Err error.Memory) × (new ≡ old))

abbrev pub GivenBy : Front → Part → Option Part → Part → Type 0
GivenBy (front.Complete n) old frame new = (frame ≡ Some old) × (new ≡ nothing)
GivenBy (front.Need n) old frame new = (frame ≡ None) × (new ≡ old)
GivenBy (front.Fault f) old frame new = ⊥

-- A reader gives the frame that is whole, if it is.
abbrev pub Given : Part → Option Part → Part → Type 0
Given old frame new = GivenBy (front_of old) old frame new

abbrev pub end_at : List ℕ → Front → Result (Unit {0}) PayloadFault
end_at [] f = Ok tt
end_at (b ∷ bytes) (front.Complete n) = Ok tt
end_at (b ∷ bytes) (front.Need n) = Err Short
end_at (b ∷ bytes) (front.Fault f) = Err Short

-- what it means that the stream ends here: a frame that is not whole is cut short
abbrev pub end_of : Part → Result (Unit {0}) PayloadFault
end_of p = end_at p.kept (front_of p)
