-- "Serialization Over a Stream" of the encoding specification: a number of segments less one, their sizes
-- in words, padding up to a word, and the segments. All numbers are little-endian.
use Rattle.std.specs.Prelude.{◌≡◌, ℕ, ◌+◌, ◌-◌, ◌*◌, ◌/◌, ◌%◌, ◌^◌, ◌<◌, ◌≤◌, ◌==◌, Bool, true, not, ◌||◌, if◌then◌else◌, nat_lt, List, [], ◌∷◌, ◌++◌, length, drop, map, sum, Result, Ok, Err}
use Rattle.std.specs.List.{flat_map, AllByRecursion}
use Rattle.byteorder.specs.Endian.{little_number, little_bytes}
use Rattle.capn_trees.specs.declared.faults.PayloadFault.{PayloadFault}
use Rattle.capn_trees.specs.declared.faults.PayloadFault.TheVariants.{Short, TooManySegments, TooLarge, Trailing}
use Rattle.capn_reading.specs.Segments.{numbers, segments_in}
use Rattle.capn_trees.specs.Limits.{most_words}

unfoldable pub segment_count : List ℕ → ℕ
segment_count bytes = little_number 4 bytes + 1

unfoldable pub sizes : List ℕ → List ℕ
sizes bytes = numbers (segment_count bytes) (drop 4 bytes)

-- the words that the table of n segments takes with its padding
abbrev pub table_words : ℕ → ℕ
table_words n = (n + 2) / 2

-- where there is padding, it is zero
abbrev pub is_padded : ℕ → List ℕ → Bool
is_padded n bytes = if n % 2 == 0 then little_number 4 (drop (4 + 4 * n) bytes) == 0 else true

-- the checks on n segments of these sizes, in their order, where a message may have so many words
abbrev pub framed_as : ℕ → ℕ → List ℕ → List ℕ → Result (List (List ℕ)) PayloadFault
framed_as most n ns bytes =
    if nat_lt most (sum ns) then Err TooLarge
    else if nat_lt (length bytes) (8 * (table_words n + sum ns)) then Err Short
    else if nat_lt (8 * (table_words n + sum ns)) (length bytes) || not (is_padded n bytes) then Err Trailing
    else Ok (segments_in ns (drop (8 * table_words n) bytes))

-- the segments of a message of at most so many words, or the first check that fails
abbrev pub framing_within : ℕ → List ℕ → Result (List (List ℕ)) PayloadFault
framing_within most bytes =
    if nat_lt (length bytes) 4 then Err Short
    else if nat_lt 16 (segment_count bytes) then Err TooManySegments
    else if nat_lt (length bytes) (8 * table_words (segment_count bytes)) then Err Short
    else framed_as most (segment_count bytes) (sizes bytes) bytes

-- the same within the limit of docs/encoding.md
unfoldable pub framing : List ℕ → Result (List (List ℕ)) PayloadFault
framing bytes = framing_within most_words bytes

-- all segments, word by word
abbrev pub body_of : List (List ℕ) → List ℕ
body_of m = flat_map (λ s. flat_map (little_bytes 8) s) m

-- four bytes after a table of an even number of sizes
abbrev pub padding_of : ℕ → List ℕ
padding_of n = if n % 2 == 0 then 0 ∷ 0 ∷ 0 ∷ 0 ∷ [] else []

-- The bytes are the size table, zero padding and the segments, and nothing else.
pub record IsFramed (bytes : List ℕ) (m : List (List ℕ)) : Type 0 where
  pub some : 0 < length m
  pub few : length m ≤ 16
  pub small : sum (map length m) ≤ most_words
  pub words : AllByRecursion (AllByRecursion (λ w. w < 2 ^ 64)) m
  pub whole : bytes ≡ little_bytes 4 (length m - 1) ++ (flat_map (little_bytes 4) (map length m) ++ (padding_of (length m) ++ body_of m))
