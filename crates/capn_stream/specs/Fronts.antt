-- What stands at the front of a stream: "Serialization Over a Stream" of the encoding specification, with the limits of
-- docs/encoding.md. It is judged by the number of segments as soon as four bytes are there, and by the words of all
-- segments as soon as the table is.
use Rattle.std.specs.Prelude.{◌≡◌, ℕ, ◌+◌, ◌*◌, if◌then◌else◌, nat_lt, List, length, sum}
use Rattle.capn_trees.specs.declared.faults.PayloadFault.TheVariants.{TooManySegments, TooLarge}
use Rattle.capn_trees.specs.Limits.{most_words}
use Rattle.capn_reading.specs.Framing.{segment_count, sizes, table_words}
use Rattle.capn_stream.specs.declared.front.Front.{Front}
use Rattle.capn_stream.specs.declared.front.Front.TheVariants.{Complete, Need, Fault}

-- with so many bytes there, of a frame of n segments with so many words together
abbrev pub front_at : ℕ → ℕ → ℕ → Front
front_at len n words =
    if nat_lt len 4 then Need 4
    else if nat_lt 16 n then Fault TooManySegments
    else if nat_lt len (8 * table_words n) then Need (8 * table_words n)
    else if nat_lt most_words words then Fault TooLarge
    else if nat_lt len (8 * (table_words n + words)) then Need (8 * (table_words n + words))
    else Complete (8 * (table_words n + words))

unfoldable pub front_of : List ℕ → Front
front_of bytes = front_at (length bytes) (segment_count bytes) (sum (sizes bytes))

-- the bytes are one frame, whole
abbrev pub IsFrame : List ℕ → Type 0
IsFrame bytes = front_of bytes ≡ Complete (length bytes)

abbrev pub IsHeldAt : ℕ → Front → Type 0
IsHeldAt len (Complete n) = n ≡ len
IsHeldAt len (Need n) = Unit {0}
IsHeldAt len (Fault f) = ⊥

-- a frame, whole or its beginning
abbrev pub IsHeld : List ℕ → Type 0
IsHeld bytes = IsHeldAt (length bytes) (front_of bytes)

-- no whole frame is at the front
abbrev pub IsShort : Front → Type 0
IsShort (Complete n) = ⊥
IsShort (Need n) = Unit {0}
IsShort (Fault f) = Unit {0}
