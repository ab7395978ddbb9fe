-- What the index of a message says of its segments.
use Rattle.std.proofs.Common.{◌≡◌, ℕ, zero, suc, ◌+◌, ◌*◌, ◌<◌, ◌≤◌, List, [], ◌∷◌, length, take, drop, Option, Some, get_or, refl, ap, ◌∙◌, arith}
use Rattle.std.proofs.lemmas.Bool.{lt-ltb}
use Rattle.std.proofs.lemmas.List.{drop-drop, get_or-map, get_or-take, length-map, length-take}
use Rattle.byteorder.specs.Endian.{little_number}
use Rattle.capn_reading.specs.declared.span.Span.{Span}
use Rattle.capn_reading.specs.Segments.{segment_of, size_of, word_at, words, little_numbers}
use Rattle.capn_reading.specs.Following.{most_counted}
use Rattle.capn_reading.specs.Index.{span_words, spanned, LieBetween, IsIndex}

-- a size that is there
abbrev some : ℕ → Option ℕ
some n = Some n

pub length-words : (n : ℕ) (bytes : List ℕ) → length (words n bytes) ≡ n
unfolding little_numbers
length-words zero bytes = refl
length-words (suc n) bytes = ap suc (length-words n (drop 8 bytes))

pub get_or-words : (n i : ℕ) (bytes : List ℕ) → i < n → get_or (words n bytes) i 0 ≡ little_number 8 (drop (8 * i) bytes)
unfolding little_numbers
get_or-words zero i bytes lt = absurd (omega arith)
get_or-words (suc n) zero bytes lt = refl
get_or-words (suc n) (suc i) bytes lt =
    let place : 8 + 8 * i ≡ 8 * suc i = omega arith in
    get_or-words n i (drop 8 bytes) (omega arith) ∙ ap (little_number 8) (drop-drop (8 * i) 8 bytes ∙ ap (λ (k : ℕ). drop k bytes) place)

pub length-spanned : (bytes : List ℕ) (n : ℕ) (spans : List Span) → n ≤ length spans → length (spanned bytes n spans) ≡ n
length-spanned bytes n spans le = simp (length-map, length-take) (omega arith)

pub segment-spanned : (bytes : List ℕ) (n k : ℕ) (spans : List Span) (d : Span) → n ≤ length spans → k < n
    → segment_of (spanned bytes n spans) k ≡ span_words bytes (get_or spans k d)
segment-spanned bytes n k spans d le lt =
    let inside : k < length (take n spans) = omega (arith, length-take n spans) in
    get_or-map (span_words bytes) (take n spans) k d [] inside ∙ ap (span_words bytes) (get_or-take n spans k d lt)

pub size-spanned : (bytes : List ℕ) (n k : ℕ) (spans : List Span) (d : Span) → n ≤ length spans → k < n
    → length (segment_of (spanned bytes n spans) k) ≡ (get_or spans k d).size
size-spanned bytes n k spans d le lt =
    ap length (segment-spanned bytes n k spans d le lt) ∙ length-words (get_or spans k d).size (drop (8 * (get_or spans k d).start) bytes)

-- a place in a segment that is not there is none
pub is_there : (m : List (List ℕ)) (s i : ℕ) → i < length (segment_of m s) → s < length m
is_there [] s i lt = absurd (omega arith)
is_there (x ∷ m) zero i lt = omega arith
is_there (x ∷ m) (suc s) i lt = let h = is_there m s i lt in omega arith

pub word-spanned : (bytes : List ℕ) (n k i : ℕ) (spans : List Span) (d : Span) → n ≤ length spans → k < n → i < length (segment_of (spanned bytes n spans) k)
    → word_at (spanned bytes n spans) k i ≡ little_number 8 (drop (8 * ((get_or spans k d).start + i)) bytes)
word-spanned bytes n k i spans d le lt inside =
    let span = get_or spans k d in
    let below : i < span.size = omega (arith, size-spanned bytes n k spans d le lt) in
    let place : 8 * span.start + 8 * i ≡ 8 * (span.start + i) = omega arith in
    ap (λ (ws : List ℕ). get_or ws i 0) (segment-spanned bytes n k spans d le lt)
    ∙ get_or-words span.size i (drop (8 * span.start) bytes) below
    ∙ ap (little_number 8) (drop-drop (8 * i) (8 * span.start) bytes ∙ ap (λ (j : ℕ). drop j bytes) place)

pub IsIndex-made : (bytes : List ℕ) (n first last : ℕ) (spans : List Span) → n ≤ length spans → 8 * last ≤ length bytes → last ≤ first + most_counted → LieBetween first last n spans → IsIndex bytes n spans
IsIndex-made bytes n first last spans few within small ends = record {
  few = few;
  inside = λ k d lt. let h = ends k d lt in omega (arith, h.0, h.1);
  short = λ k d lt. let h = ends k d lt in omega (arith, h.0, h.1);
}

pub size_of-spanned : (bytes : List ℕ) (n k : ℕ) (spans : List Span) (d : Span) → n ≤ length spans → k < n
    → size_of (spanned bytes n spans) k ≡ Some (get_or spans k d).size
size_of-spanned bytes n k spans d le lt =
    let there : k < length (spanned bytes n spans) = omega (arith, length-spanned bytes n spans le) in
    rw (lt-ltb k (length (spanned bytes n spans)) there) (ap (λ (x : ℕ). some x) (size-spanned bytes n k spans d le lt))
