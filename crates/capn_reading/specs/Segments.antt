-- The segments of a message, each a list of words, and the words in their bytes.
use Rattle.std.specs.Prelude.{ℕ, zero, suc, ◌*◌, List, [], ◌∷◌, length, drop, slice_index, slice_index_or, nat_lt, if◌then◌else◌, Option, Some, None}
use Rattle.byteorder.specs.Endian.{little_number}

abbrev pub segment_of : List (List ℕ) → ℕ → List ℕ
segment_of m s = slice_index_or m s []

abbrev pub word_at : List (List ℕ) → ℕ → ℕ → ℕ
word_at m s i = slice_index (segment_of m s) i

-- a segment's size in words, if there is such a segment
abbrev pub size_of : List (List ℕ) → ℕ → Option ℕ
size_of m s = if nat_lt s (length m) then Some (length (segment_of m s)) else None

-- the first so many numbers of w bytes each
unfoldable pub little_numbers : ℕ → ℕ → List ℕ → List ℕ
little_numbers w zero bytes = []
little_numbers w (suc n) bytes = little_number w bytes ∷ little_numbers w n (drop w bytes)

abbrev pub words : ℕ → List ℕ → List ℕ
words n bytes = little_numbers 8 n bytes

abbrev pub numbers : ℕ → List ℕ → List ℕ
numbers n bytes = little_numbers 4 n bytes

-- segments of these sizes, one after the other
unfoldable pub segments_in : List ℕ → List ℕ → List (List ℕ)
segments_in [] bytes = []
segments_in (n ∷ ns) bytes = words n bytes ∷ segments_in ns (drop (8 * n) bytes)
