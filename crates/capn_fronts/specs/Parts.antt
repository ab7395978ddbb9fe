-- A frame of a stream as it comes. One with at most as many words as a message may have is kept whole; of a larger one the front is
-- kept, and what comes behind that is dropped ("Serialization Over a Stream" of the encoding specification, docs/encoding.md).
use Rattle.std.specs.Prelude.{◌≡◌, ◌⊎◌, ℕ, ◌+◌, ◌*◌, ◌≤◌, if◌then◌else◌, nat_lt, List, [], length, sum, refl}
use Rattle.std.specs.Coded.{Coded, code_by, coded×, coded_ℕ, coded_list}
use Rattle.capn_trees.specs.declared.faults.PayloadFault.TheVariants.{TooManySegments, TooLarge}
use Rattle.capn_trees.specs.Limits.{most_words}
use Rattle.capn_reading.specs.Framing.{segment_count, sizes, table_words}
use Rattle.capn_stream.specs.declared.front.Front.{Front}
use Rattle.capn_stream.specs.declared.front.Front.TheVariants.{Complete, Need, Fault}

-- The bytes that are kept of a frame, from its first one on, and how many came behind them and were dropped.
pub record Part : Type 0 where
  pub kept : List ℕ
  pub dropped : ℕ

abbrev pub part_code : Coded Part
part_code = code_by (List ℕ × ℕ) (coded× (coded_list coded_ℕ) coded_ℕ) (λ p. (p.kept, p.dropped)) (λ p. record { kept = p.0; dropped = p.1 }) (λ _. refl)

abbrev pub nothing : Part
nothing = record { kept = []; dropped = 0 }

-- how many bytes came
abbrev pub count_of : Part → ℕ
count_of p = length p.kept + p.dropped

-- the most words of a frame
abbrev pub most_frame_words : ℕ
most_frame_words = 8388608

-- the words of segments in the front of a large frame
abbrev pub front_words : ℕ
front_words = 1024

-- With so many bytes there, of a frame of n segments whose table is there: more have to come, or it is whole.
abbrev pub reach_at : ℕ → ℕ → ℕ → Front
reach_at len n words =
    if nat_lt most_frame_words words then Fault TooLarge
    else if nat_lt len (8 * (table_words n + words)) then Need (8 * (table_words n + words))
    else Complete (8 * (table_words n + words))

-- The same of a frame whose table may not be there.
abbrev pub front_at : ℕ → ℕ → ℕ → Front
front_at len n words =
    if nat_lt len 4 then Need 4
    else if nat_lt 16 n then Fault TooManySegments
    else if nat_lt len (8 * table_words n) then Need (8 * table_words n)
    else reach_at len n words

-- How many bytes are kept of a frame: all, or the table and the front of one that has more words than a message may have.
abbrev pub kept_at : ℕ → ℕ → ℕ
kept_at n words = if nat_lt most_words words then 8 * (table_words n + front_words) else 8 * (table_words n + words)

-- The same of a frame with so many bytes there: of its table at first.
abbrev pub keeps_at : ℕ → ℕ → ℕ → ℕ
keeps_at len n words =
    if nat_lt len 4 then 4
    else if nat_lt 16 n then 4
    else if nat_lt len (8 * table_words n) then 8 * table_words n
    else kept_at n words

unfoldable pub front_of : Part → Front
front_of p = front_at (count_of p) (segment_count p.kept) (sum (sizes p.kept))

unfoldable pub keeps_of : Part → ℕ
keeps_of p = keeps_at (count_of p) (segment_count p.kept) (sum (sizes p.kept))

abbrev pub IsHeldAt : ℕ → Front → Type 0
IsHeldAt len (Complete n) = n ≡ len
IsHeldAt len (Need n) = Unit {0}
IsHeldAt len (Fault f) = ⊥

-- A frame, whole or its beginning, of which no more is kept than is to be, and nothing dropped that is to be kept.
pub record IsHeld (p : Part) : Type 0 where
  pub held : IsHeldAt (count_of p) (front_of p)
  pub few : length p.kept ≤ keeps_of p
  pub full : (p.dropped ≡ 0) ⊎ (length p.kept ≡ keeps_of p)

-- It is whole.
pub record IsWhole (p : Part) : Type 0 where
  pub whole : front_of p ≡ Complete (count_of p)
  pub few : length p.kept ≤ keeps_of p
  pub full : (p.dropped ≡ 0) ⊎ (length p.kept ≡ keeps_of p)

-- It may be at fault, but else it is as that.
pub record IsGrown (p : Part) : Type 0 where
  pub exact : (n : ℕ) → front_of p ≡ Complete n → n ≡ count_of p
  pub few : length p.kept ≤ keeps_of p
  pub full : (p.dropped ≡ 0) ⊎ (length p.kept ≡ keeps_of p)
  pub table : (p.dropped ≡ 0) ⊎ (72 ≤ length p.kept)
  pub small : p.dropped ≤ 8 * 8388617

-- More of it has to come.
abbrev pub IsShort : Front → Type 0
IsShort (Complete n) = ⊥
IsShort (Need n) = Unit {0}
IsShort (Fault f) = ⊥
