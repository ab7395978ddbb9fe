-- Elements that were packed are read again.
use Rattle.std.proofs.Common.{◌≡◌, ℕ, zero, suc, ◌+◌, ◌-◌, ◌*◌, ◌/◌, ◌%◌, ◌^◌, ◌<◌, ◌≤◌, List, [], ◌∷◌, ◌++◌, length, take, drop, get_or, refl, sym, ap, ◌∙◌, arith, inl, inr}
use Rattle.std.specs.Prelude.{replicate}
use Rattle.std.proofs.lemmas.List.{get_or-drop, get_or-take, get_or_past, length-take, length-drop}
use Rattle.std.proofs.lemmas.Nat.{shr-shr, shr_high, mod_low, pow_pos}
use Rattle.std.proofs.lemmas.Bool.{cases_lt}
use Rattle.std.proofs.Math.Nat.{mul-le-mul_right}
use Rattle.capn_trees.specs.declared.width.Width.{Width}
use Rattle.capn_trees.specs.declared.width.Width.TheVariants as width
use Rattle.capn_trees.specs.Widths.{AreOf, bits_of, packed_size}
use Rattle.capn_reading.specs.Reading.{element, elements}
use Rattle.capn_writing.specs.Placing.{joined, packed_words}
use Rattle.capn_reading.proofs.Building.{elements_void}
use Rattle.capn_writing.proofs.Filled.{are_drop, are_take}

digit : (b : ℕ) (xs : List ℕ) (k : ℕ) → AreOf b xs → k < length xs → joined b xs / 2 ^ (k * b) % 2 ^ b ≡ get_or xs k 0
digit b [] k fit lt = absurd (omega arith)
digit b (x ∷ xs) zero fit lt =
    let none : 0 * b ≡ 0 = omega arith in
    let one : (joined b xs * 2 ^ b + x) / 1 ≡ joined b xs * 2 ^ b + x = omega arith in
    ap (λ (n : ℕ). (joined b xs * 2 ^ b + x) / 2 ^ n % 2 ^ b) none ∙ ap (λ (n : ℕ). n % 2 ^ b) one ∙ mod_low (joined b xs) b x (fit 0)
digit b (x ∷ xs) (suc k) fit lt =
    let more : suc k * b ≡ b + k * b = omega arith in
    ap (λ (n : ℕ). (joined b xs * 2 ^ b + x) / 2 ^ n % 2 ^ b) more
    ∙ ap (λ (n : ℕ). n % 2 ^ b) (sym (shr-shr (joined b xs * 2 ^ b + x) b (k * b)))
    ∙ ap (λ (n : ℕ). n / 2 ^ (k * b) % 2 ^ b) (shr_high (joined b xs) b x (fit 0))
    ∙ digit b xs k (λ i. fit (suc i)) (omega arith)

module _ (b per : ℕ) (some : 0 < b) (whole : per * b ≡ 64) where
  low_place : (k : ℕ) → k < per → k * b < 64
  low_place k lt =
      let le : (k + 1) * b ≤ per * b = mul-le-mul_right b (omega arith) in
      let split : (k + 1) * b ≡ k * b + b = omega arith in
      omega arith

  first_word : (w : ℕ) (ws : List ℕ) (k : ℕ) → k < per → element (w ∷ ws) b k ≡ w / 2 ^ (k * b) % 2 ^ b
  first_word w ws k lt =
      let low = low_place k lt in
      let place : k * b / 64 ≡ 0 = omega arith in
      let shift : k * b % 64 ≡ k * b = omega arith in
      ap (λ (i : ℕ). get_or (w ∷ ws) i 0 / 2 ^ (k * b % 64) % 2 ^ b) place ∙ ap (λ (i : ℕ). w / 2 ^ i % 2 ^ b) shift

  later_word : (w : ℕ) (ws : List ℕ) (k : ℕ) → element (w ∷ ws) b (per + k) ≡ element ws b k
  later_word w ws k =
      let split : (per + k) * b ≡ per * b + k * b = omega arith in
      let place : (per + k) * b / 64 ≡ suc (k * b / 64) = omega (arith, split, whole) in
      let shift : (per + k) * b % 64 ≡ k * b % 64 = omega (arith, split, whole) in
      ap (λ (i : ℕ). get_or (w ∷ ws) i 0 / 2 ^ ((per + k) * b % 64) % 2 ^ b) place ∙ ap (λ (i : ℕ). get_or ws (k * b / 64) 0 / 2 ^ i % 2 ^ b) shift

  packed_element : (per ≡ 64 / b) → (n : ℕ) (xs back : List ℕ) (k : ℕ) → AreOf b xs → length xs * b ≤ 64 * n → k < length xs → element (packed_words b n xs ++ back) b k ≡ get_or xs k 0
  packed_element is_per zero xs back k fit le lt =
      let more : (k + 1) * b ≤ length xs * b = mul-le-mul_right b (omega arith) in
      let split : (k + 1) * b ≡ k * b + b = omega arith in
      absurd (omega arith)
  packed_element is_per (suc n) xs back k fit le lt =
      let w = joined b (take (64 / b) xs) in
      let ws = packed_words b n (drop (64 / b) xs) ++ back in
      elim (cases_lt k per) [
        | inl low ↦
            first_word w ws k low
            ∙ digit b (take (64 / b) xs) k (are_take b (64 / b) xs fit) (omega (arith, length-take (64 / b) xs, is_per))
            ∙ get_or-take (64 / b) xs k 0 (omega (arith, is_per))
        | inr high ↦
            let i = k - per in
            let is_k : k ≡ per + i = omega arith in
            let rest = packed_element is_per n (drop (64 / b) xs) back i (are_drop b (64 / b) xs fit) in
            let fewer : length (drop (64 / b) xs) ≡ length xs - per = omega (arith, length-drop (64 / b) xs, is_per) in
            let grown : length xs ≡ (length xs - per) + per = omega arith in
            let split : ((length xs - per) + per) * b ≡ (length xs - per) * b + per * b = omega arith in
            let size : length xs * b ≡ (length xs - per) * b + 64 = ap (λ (m : ℕ). m * b) grown ∙ split ∙ ap (λ (m : ℕ). (length xs - per) * b + m) whole in
            let same : length (drop (64 / b) xs) * b ≡ (length xs - per) * b = ap (λ (m : ℕ). m * b) fewer in
            ap (λ (j : ℕ). element (w ∷ ws) b j) is_k ∙ later_word w ws i
            ∙ rest (omega arith) (omega arith)
            ∙ get_or-drop (64 / b) xs i 0
            ∙ ap (λ (j : ℕ). get_or xs j 0) (let e : 64 / b + i ≡ k = omega (arith, is_per) in e)
      ]

elements_are : (ws : List ℕ) (b : ℕ) (xs : List ℕ) (k : ℕ) → ((j : ℕ) → j < length xs → element ws b (k + j) ≡ get_or xs j 0) → elements ws b k (length xs) ≡ xs
unfolding elements
elements_are ws b [] k h = refl
elements_are ws b (x ∷ xs) k h =
    let here : k + 0 ≡ k = omega arith in
    let first : element ws b k ≡ x = ap (λ (j : ℕ). element ws b j) (sym here) ∙ h 0 (omega arith) in
    ap (λ (y : ℕ). y ∷ elements ws b (k + 1) (length xs)) first
    ∙ ap (λ (l : List ℕ). x ∷ l) (elements_are ws b xs (k + 1) (λ j lt.
    let place : k + 1 + j ≡ k + suc j = omega arith in
    ap (λ (i : ℕ). element ws b i) place ∙ h (suc j) (omega arith)))

packed_elements : (b per : ℕ) → 0 < b → per * b ≡ 64 → per ≡ 64 / b → (n : ℕ) (xs back : List ℕ) → AreOf b xs → length xs * b ≤ 64 * n → elements (packed_words b n xs ++ back) b 0 (length xs) ≡ xs
packed_elements b per some whole is_per n xs back fit le =
    elements_are (packed_words b n xs ++ back) b xs 0 (λ j lt.
    let e : 0 + j ≡ j = omega arith in
    ap (λ (i : ℕ). element (packed_words b n xs ++ back) b i) e ∙ packed_element b per some whole is_per n xs back j fit le lt)

zeros : (xs : List ℕ) → AreOf 0 xs → replicate (length xs) 0 ≡ xs
zeros [] fit = refl
zeros (x ∷ xs) fit =
    let f = fit 0 in
    let none : 0 ≡ x = omega (arith, f) in
    ap (λ (y : ℕ). y ∷ replicate (length xs) 0) none ∙ ap (λ (l : List ℕ). x ∷ l) (zeros xs (λ i. fit (suc i)))

-- the elements of a list, by what it says of their bits
pub elements_again : (w : Width) (xs back : List ℕ) → AreOf (bits_of w) xs
    → elements (packed_words (bits_of w) (packed_size (bits_of w) (length xs)) xs ++ back) (bits_of w) 0 (length xs) ≡ xs
elements_again width.Void xs back fit = elements_void (packed_words 0 (packed_size 0 (length xs)) xs ++ back) 0 (length xs) ∙ zeros xs fit
elements_again width.Bit xs back fit = packed_elements 1 64 (omega arith) refl refl (packed_size 1 (length xs)) xs back fit (omega arith)
elements_again width.Byte xs back fit = packed_elements 8 8 (omega arith) refl refl (packed_size 8 (length xs)) xs back fit (omega arith)
elements_again width.TwoBytes xs back fit = packed_elements 16 4 (omega arith) refl refl (packed_size 16 (length xs)) xs back fit (omega arith)
elements_again width.FourBytes xs back fit = packed_elements 32 2 (omega arith) refl refl (packed_size 32 (length xs)) xs back fit (omega arith)
elements_again width.EightBytes xs back fit = packed_elements 64 1 (omega arith) refl refl (packed_size 64 (length xs)) xs back fit (omega arith)
