-- Bytes as words.
use Rattle.std.proofs.Common.{◌≡◌, ℕ, zero, suc, ◌+◌, ◌-◌, ◌*◌, ◌/◌, ◌≤◌, List, [], ◌∷◌, ◌++◌, length, map, take, drop, refl, sym, ap, ◌∙◌, append_assoc, arith}
use Rattle.std.specs.Prelude.{replicate}
use Rattle.std.proofs.lemmas.List.{drop-drop, take-append-le, drop-append-le, length-drop, length-append, length-replicate, length-take-le, take_at, take-append-drop, map-id}
use Rattle.byteorder.specs.Endian.{little_number, IsRead}
use Rattle.capn_trees.specs.Widths.{packed_size}
use Rattle.capn_writing.specs.Placing.{joined, packed_words}
use Rattle.capn_writing.proofs.Lengths.{length-packed}

-- eight bytes as one number
eight_bytes : (xs : List ℕ) → 8 ≤ length xs → little_number 8 xs ≡ joined 8 (take 8 xs)
eight_bytes [] le = absurd (omega arith)
eight_bytes (a ∷ []) le = absurd (omega arith)
eight_bytes (a ∷ b ∷ []) le = absurd (omega arith)
eight_bytes (a ∷ b ∷ c ∷ []) le = absurd (omega arith)
eight_bytes (a ∷ b ∷ c ∷ d ∷ []) le = absurd (omega arith)
eight_bytes (a ∷ b ∷ c ∷ d ∷ e ∷ []) le = absurd (omega arith)
eight_bytes (a ∷ b ∷ c ∷ d ∷ e ∷ f ∷ []) le = absurd (omega arith)
eight_bytes (a ∷ b ∷ c ∷ d ∷ e ∷ f ∷ g ∷ []) le = absurd (omega arith)
eight_bytes (a ∷ b ∷ c ∷ d ∷ e ∷ f ∷ g ∷ h ∷ xs) le = omega arith

-- numbers that stand in bytes one behind the other are their words
pub read_packed : (ws xs : List ℕ) → length xs ≡ 8 * length ws → IsRead little_number 8 xs ws → ws ≡ packed_words 8 (length ws) xs
read_packed [] xs e reads = refl
read_packed (w ∷ ws) xs e reads =
    let first : w ≡ joined 8 (take 8 xs) = reads 0 (omega arith) ∙ eight_bytes xs (omega arith) in
    let rest : IsRead little_number 8 (drop 8 xs) ws = λ k lt.
    let place : 8 * suc k ≡ 8 + 8 * k = omega arith in
    reads (suc k) (omega arith) ∙ ap (λ (n : ℕ). little_number 8 (drop n xs)) place ∙ ap (little_number 8) (sym (drop-drop (8 * k) 8 xs)) in
    let long = length-drop 8 xs in
    ap (λ (x : ℕ). x ∷ ws) first ∙ ap (λ (l : List ℕ). joined 8 (take 8 xs) ∷ l) (read_packed ws (drop 8 xs) (omega (arith, long)) rest)

-- bytes that fill words, and those behind them
pub packed_then : (q m n : ℕ) (xs ys : List ℕ) → length xs ≡ 8 * q → n ≡ q + m → packed_words 8 n (xs ++ ys) ≡ packed_words 8 q xs ++ packed_words 8 m ys
packed_then zero m n [] ys e is_n = ap (λ (k : ℕ). packed_words 8 k ys) (omega arith)
packed_then zero m n (x ∷ xs) ys e is_n = absurd (omega arith)
packed_then (suc q) m zero xs ys e is_n = absurd (omega arith)
packed_then (suc q) m (suc n) xs ys e is_n =
    let long = length-drop 8 xs in
    ap (λ (l : List ℕ). joined 8 l ∷ packed_words 8 n (drop 8 (xs ++ ys))) (take-append-le 8 xs ys (omega arith))
    ∙ ap (λ (l : List ℕ). joined 8 (take 8 xs) ∷ packed_words 8 n l) (drop-append-le 8 xs ys (omega arith))
    ∙ ap (λ (l : List ℕ). joined 8 (take 8 xs) ∷ l) (packed_then q m n (drop 8 xs) ys (omega (arith, long)) (omega arith))

-- Bytes laid down behind words: those that fill words are read into room that was made, and what is left of them comes
-- behind.
pub bytes_pushed : (bytes whole rest ws zs mid more new : List ℕ) (at next len : ℕ)
    → whole ≡ take at bytes → rest ≡ drop at bytes → at ≡ length bytes / 8 * 8 → next ≡ length ws → len ≡ length zs
    → zs ≡ ws ++ replicate (length whole / 8) 0 → mid ≡ take next zs ++ packed_words 8 (length zs - next) whole
    → new ≡ take len (mid ++ more) ++ packed_words 8 (packed_size 8 (length rest)) (map (λ (x : ℕ). x) rest)
    → new ≡ ws ++ packed_words 8 (packed_size 8 (length bytes)) bytes
bytes_pushed bytes whole rest ws zs mid more new at next len is_whole is_rest is_at is_next is_len is_zs is_mid is_new =
    let q = length whole / 8 in
    let m = packed_size 8 (length rest) in
    let cut : length whole ≡ at = ap length is_whole ∙ length-take-le at bytes (omega (arith, is_at)) in
    let full : length whole ≡ 8 * q = omega (arith, cut, is_at) in
    let left : length rest ≡ length bytes - at = ap length is_rest ∙ length-drop at bytes in
    let long : length zs ≡ length ws + q = ap length is_zs ∙ length-append ws (replicate q 0) ∙ ap (λ (i : ℕ). length ws + i) (length-replicate {A = ℕ} q 0) in
    let front : take next zs ≡ ws = ap (take next) is_zs ∙ take_at ws (replicate q 0) next (sym is_next) in
    let count : length zs - next ≡ q = omega (arith, long, is_next) in
    let laid : mid ≡ ws ++ packed_words 8 q whole = is_mid ∙ ap (λ (l : List ℕ). l ++ packed_words 8 (length zs - next) whole) front ∙ ap (λ (i : ℕ). ws ++ packed_words 8 i whole) count in
    let size : length mid ≡ length ws + q = ap length laid ∙ length-append ws (packed_words 8 q whole) ∙ ap (λ (i : ℕ). length ws + i) (length-packed 8 q whole) in
    let sum : packed_size 8 (length bytes) ≡ q + m = omega (arith, cut, left, is_at) in
    is_new ∙ ap (λ (l : List ℕ). l ++ packed_words 8 m (map (λ (x : ℕ). x) rest)) (take_at mid more len (omega (arith, size, long, is_len)) ∙ laid)
    ∙ ap (λ (l : List ℕ). (ws ++ packed_words 8 q whole) ++ packed_words 8 m l) (map-id rest)
    ∙ append_assoc ws (packed_words 8 q whole) (packed_words 8 m rest)
    ∙ ap (λ (l : List ℕ). ws ++ l) (sym (packed_then q m (packed_size 8 (length bytes)) whole rest full sum))
    ∙ ap (λ (l : List ℕ). ws ++ packed_words 8 (packed_size 8 (length bytes)) l)
    (ap (λ (l : List ℕ). l ++ rest) is_whole ∙ ap (λ (l : List ℕ). take at bytes ++ l) is_rest ∙ take-append-drop at bytes)
