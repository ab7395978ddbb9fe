-- Where a message's segments lie in its bytes.
use Rattle.std.specs.Prelude.{ℕ, ◌+◌, ◌*◌, ◌<◌, ◌≤◌, List, length, drop, take, map, get_or}
use Rattle.capn_reading.specs.declared.span.Span.{Span}
use Rattle.capn_reading.specs.Segments.{words}
use Rattle.capn_reading.specs.Following.{most_counted}

abbrev pub span_words : List ℕ → Span → List ℕ
span_words bytes span = words span.size (drop (8 * span.start) bytes)

-- the segments that the first n spans name
abbrev pub spanned : List ℕ → ℕ → List Span → List (List ℕ)
spanned bytes n spans = map (span_words bytes) (take n spans)

-- each of the first n spans begins at that word or behind it, and ends by the last word
abbrev pub LieBetween : ℕ → ℕ → ℕ → List Span → Type 0
LieBetween first last n spans =
    (k : ℕ) (d : Span) → k < n → (first ≤ (get_or spans k d).start) × ((get_or spans k d).start + (get_or spans k d).size ≤ last)

-- each of the first n spans lies in the bytes, and is not too long
pub record IsIndex (bytes : List ℕ) (n : ℕ) (spans : List Span) : Type 0 where
  pub few : n ≤ length spans
  pub inside : (k : ℕ) (d : Span) → k < n → 8 * ((get_or spans k d).start + (get_or spans k d).size) ≤ length bytes
  pub short : (k : ℕ) (d : Span) → k < n → (get_or spans k d).size ≤ most_counted
