-- The bytes of words.
use Rattle.std.proofs.Common.{◌≡◌, ℕ, zero, suc, ◌+◌, ◌-◌, ◌*◌, ◌/◌, ◌%◌, ◌^◌, ◌<◌, ◌≤◌, List, [], length, take, drop, get_or, sym, ap, ◌∙◌, arith}
use Rattle.std.specs.Prelude.{slice_index}
use Rattle.std.proofs.lemmas.List.{get_or-drop, get_or-take, length-take-le, length-drop, ext_get_or}
use Rattle.std.proofs.lemmas.Nat.{shr-shr}
use Rattle.byteorder.specs.Endian.{little_from, little_number}
use Rattle.capn_reading.specs.Reading.{element, elements}
use Rattle.capn_reading.proofs.Building.{elements_counted, elements_get}

-- byte r of a number of n bytes
byte_of : (i n r : ℕ) (xs : List ℕ) → ((k : ℕ) → slice_index xs k < 256) → r < n → little_from i n xs / 2 ^ (8 * r) % 2 ^ 8 ≡ slice_index xs (i + r)
byte_of i zero r xs small lt = absurd (omega arith)
byte_of i (suc n) zero xs small lt =
    let here = small i in
    let place : i + 0 ≡ i = omega arith in
    let low : (slice_index xs i + 256 * little_from (suc i) n xs) % 256 ≡ slice_index xs i = omega arith in
    let whole : (slice_index xs i + 256 * little_from (suc i) n xs) / 1 ≡ slice_index xs i + 256 * little_from (suc i) n xs = omega arith in
    ap (λ (x : ℕ). x % 256) whole ∙ low ∙ ap (slice_index xs) (sym place)
byte_of i (suc n) (suc r) xs small lt =
    let here = small i in
    let w = slice_index xs i + 256 * little_from (suc i) n xs in
    let high : w / 256 ≡ little_from (suc i) n xs = omega arith in
    let more : 8 * suc r ≡ 8 + 8 * r = omega arith in
    let place : suc i + r ≡ i + suc r = omega arith in
    ap (λ (e : ℕ). w / 2 ^ e % 2 ^ 8) more ∙ ap (λ (x : ℕ). x % 2 ^ 8) (sym (shr-shr w 8 (8 * r))) ∙ ap (λ (x : ℕ). x / 2 ^ (8 * r) % 2 ^ 8) high
    ∙ byte_of (suc i) n r xs small (omega arith) ∙ ap (slice_index xs) place

-- words that stand in bytes from word w on have those bytes
module _ (bytes ws : List ℕ) (w count : ℕ) (small : (k : ℕ) → slice_index bytes k < 256) (stand : (k : ℕ) → k * 8 < count → slice_index ws k ≡ little_number 8 (drop (8 * (w + k)) bytes)) (room : 8 * w + count ≤ length bytes) where
  one : (j : ℕ) → j < count → element ws 8 j ≡ slice_index bytes (8 * w + j)
  one j lt =
      let k : j * 8 / 64 ≡ j / 8 = omega arith in
      let r : j * 8 % 64 ≡ 8 * (j % 8) = omega arith in
      let below : j % 8 < 8 = omega arith in
      let word = stand (j / 8) (omega arith) in
      let place : 8 * (w + j / 8) + (0 + j % 8) ≡ 8 * w + j = omega arith in
      ap (λ (x : ℕ). slice_index ws x / 2 ^ (j * 8 % 64) % 2 ^ 8) k ∙ ap (λ (x : ℕ). slice_index ws (j / 8) / 2 ^ x % 2 ^ 8) r ∙ ap (λ (x : ℕ). x / 2 ^ (8 * (j % 8)) % 2 ^ 8) word
      ∙ byte_of 0 8 (j % 8) (drop (8 * (w + j / 8)) bytes) (λ (i : ℕ). rw get_or-drop (small (8 * (w + j / 8) + i))) below
      ∙ get_or-drop (8 * (w + j / 8)) bytes (0 + j % 8) 0 ∙ ap (slice_index bytes) place

  pub bytes_of_words : take count (drop (8 * w) bytes) ≡ elements ws 8 0 count
  bytes_of_words =
      let long : length (drop (8 * w) bytes) ≡ length bytes - 8 * w = length-drop (8 * w) bytes in
      let taken : length (take count (drop (8 * w) bytes)) ≡ count = length-take-le count (drop (8 * w) bytes) (omega (arith, long)) in
      let counted = elements_counted ws 8 0 count in
      ext_get_or 0 (take count (drop (8 * w) bytes)) (elements ws 8 0 count) (taken ∙ sym counted) (λ j lt. each j (omega (arith, lt, taken)))
    where
      each : (j : ℕ) → j < count → get_or (take count (drop (8 * w) bytes)) j 0 ≡ get_or (elements ws 8 0 count) j 0
      each j lt =
          let first : j ≡ 0 + j = omega arith in
          get_or-take count (drop (8 * w) bytes) j 0 lt ∙ get_or-drop (8 * w) bytes j 0
          ∙ sym (elements_get ws 8 0 count j lt ∙ ap (element ws 8) (sym first) ∙ one j lt)

pub no_elements : (ws : List ℕ) (count : ℕ) → count ≡ 0 → elements ws 8 0 count ≡ []
unfolding elements
no_elements ws count none = ap (elements ws 8 0) none
