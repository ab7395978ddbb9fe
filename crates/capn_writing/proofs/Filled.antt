-- Words that were put into their places.
use Rattle.std.proofs.Common.{◌≡◌, ℕ, zero, suc, ◌+◌, ◌-◌, ◌*◌, ◌/◌, ◌^◌, ◌<◌, ◌≤◌, min, List, [], ◌∷◌, ◌++◌, length, take, drop, set, get_or, refl, sym, ap, ◌∙◌, append_assoc, arith, inl, inr}
use Rattle.std.specs.Prelude.{replicate}
use Rattle.std.proofs.lemmas.List.{append-nil, length-append, length-take, length-take-le, length-drop, take_min, drop_min, take-append-drop, length-replicate, take_at, drop_at, take-append-le, drop-append-le, take_more_set, drop-set-lt, drop_more, drop-drop, drop_all, get_or-drop, get_or-take, get_or_past}
use Rattle.std.proofs.lemmas.Nat.{pow-add, pow_pos}
use Rattle.std.proofs.lemmas.Bool.{cases_lt}
use Rattle.std.proofs.Math.Nat.{pow-le-pow_right, mul-le-mul_right}
use Rattle.capn_writing.specs.Placing.{joined, packed_words}
use Rattle.capn_trees.specs.Widths.{AreOf}
use Rattle.capn_writing.specs.Laying.{filled}

pub are_drop : (b n : ℕ) (xs : List ℕ) → AreOf b xs → AreOf b (drop n xs)
are_drop b n xs fit i = rw get_or-drop (fit (n + i))

pub are_take : (b n : ℕ) (xs : List ℕ) → AreOf b xs → AreOf b (take n xs)
are_take b n xs fit i =
    elim (cases_lt i n) [
      | inl lt ↦ rw (get_or-take n xs i 0 lt) (fit i)
      | inr le ↦ rw (get_or_past (take n xs) i 0 (omega (arith, length-take n xs))) (pow_pos b)
    ]

-- elements of so many bits each, joined, have all their bits together
pub joined_below : (b : ℕ) (xs : List ℕ) → AreOf b xs → joined b xs < 2 ^ (length xs * b)
joined_below b [] fit = let none : 0 * b ≡ 0 = omega arith in rw none (omega arith)
joined_below b (x ∷ xs) fit =
    let rest = joined_below b xs (λ i. fit (suc i)) in
    let more : suc (length xs) * b ≡ length xs * b + b = omega arith in
    let split = pow-add 2 (length xs * b) b in
    let room : (joined b xs + 1) * 2 ^ b ≤ 2 ^ (length xs * b) * 2 ^ b = mul-le-mul_right (2 ^ b) (omega arith) in
    let apart : (joined b xs + 1) * 2 ^ b ≡ joined b xs * 2 ^ b + 2 ^ b = omega arith in
    let x_fits = fit 0 in
    rw more (rw split (omega arith))

-- a word, and what it leads to, where there were words before
pub filled_tree : (ws c P Q : List ℕ) (at w : ℕ) → at + 1 + length P ≤ length ws → filled (set (ws ++ c) at w) (at + 1) (P, Q) ≡ filled ws at (w ∷ P, c ++ Q)
filled_tree ws c P Q at w le =
    let long = length-append ws c in
    let front : take (at + 1) (set (ws ++ c) at w) ≡ take at ws ++ w ∷ [] = take_more_set (ws ++ c) at w (omega arith) ∙ ap (λ (l : List ℕ). l ++ w ∷ []) (take-append-le at ws c (omega arith)) in
    let back : drop (at + 1 + length P) (set (ws ++ c) at w) ≡ drop (at + 1 + length P) ws ++ c = drop-set-lt (at + 1 + length P) (ws ++ c) at w (omega arith) ∙ drop-append-le (at + 1 + length P) ws c le in
    let place : at + 1 + length P ≡ at + suc (length P) = omega arith in
    ap (λ (l : List ℕ). l ++ (P ++ (drop (at + 1 + length P) (set (ws ++ c) at w) ++ Q))) front
    ∙ ap (λ (l : List ℕ). (take at ws ++ w ∷ []) ++ (P ++ (l ++ Q))) back
    ∙ append_assoc (take at ws) (w ∷ []) (P ++ ((drop (at + 1 + length P) ws ++ c) ++ Q))
    ∙ ap (λ (l : List ℕ). take at ws ++ (w ∷ (P ++ l))) (append_assoc (drop (at + 1 + length P) ws) c Q)
    ∙ ap (λ (n : ℕ). take at ws ++ (w ∷ (P ++ (drop n ws ++ (c ++ Q))))) place

-- words before pointers
pub filled_put : (ws ds P Q : List ℕ) (at : ℕ) → at + length ds + length P ≤ length ws
    → filled (take at ws ++ (ds ++ drop (at + length ds) ws)) (at + length ds) (P, Q) ≡ filled ws at (ds ++ P, Q)
filled_put ws ds P Q at le =
    let short : length (take at ws) ≡ at = length-take-le at ws (omega arith) in
    let regrouped : take at ws ++ (ds ++ drop (at + length ds) ws) ≡ (take at ws ++ ds) ++ drop (at + length ds) ws = sym (append_assoc (take at ws) ds (drop (at + length ds) ws)) in
    let long : length (take at ws ++ ds) ≡ at + length ds = length-append (take at ws) ds ∙ omega (arith, short) in
    let front : take (at + length ds) ((take at ws ++ ds) ++ drop (at + length ds) ws) ≡ take at ws ++ ds = take_at (take at ws ++ ds) (drop (at + length ds) ws) (at + length ds) long in
    let back : drop (at + length ds + length P) ((take at ws ++ ds) ++ drop (at + length ds) ws) ≡ drop (at + length (ds ++ P)) ws =
    sym (drop-drop (length P) (at + length ds) ((take at ws ++ ds) ++ drop (at + length ds) ws))
    ∙ ap (drop (length P)) (drop_at (take at ws ++ ds) (drop (at + length ds) ws) (at + length ds) long)
    ∙ drop-drop (length P) (at + length ds) ws
    ∙ ap (λ (n : ℕ). drop n ws) (let all = length-append ds P in let e : at + length ds + length P ≡ at + length (ds ++ P) = omega (arith, all) in e) in
    ap (λ (l : List ℕ). filled l (at + length ds) (P, Q)) regrouped
    ∙ ap (λ (l : List ℕ). l ++ (P ++ (drop (at + length ds + length P) ((take at ws ++ ds) ++ drop (at + length ds) ws) ++ Q))) front
    ∙ ap (λ (l : List ℕ). (take at ws ++ ds) ++ (P ++ (l ++ Q))) back
    ∙ append_assoc (take at ws) ds (P ++ (drop (at + length (ds ++ P)) ws ++ Q))
    ∙ ap (λ (l : List ℕ). take at ws ++ l) (sym (append_assoc ds P (drop (at + length (ds ++ P)) ws ++ Q)))

-- a place that was filled, and the next
pub filled_next : (ws A B P Q : List ℕ) (at : ℕ) → at + length A + length P ≤ length ws
    → filled (filled ws at (A, B)) (at + length A) (P, Q) ≡ filled ws at (A ++ P, B ++ Q)
filled_next ws A B P Q at le =
    let tail = drop (at + length A) ws in
    let short : length (take at ws) ≡ at = length-take-le at ws (omega arith) in
    let regrouped : filled ws at (A, B) ≡ (take at ws ++ A) ++ (tail ++ B) = sym (append_assoc (take at ws) A (tail ++ B)) in
    let long : length (take at ws ++ A) ≡ at + length A = length-append (take at ws) A ∙ omega (arith, short) in
    let rest : length tail ≡ length ws - (at + length A) = length-drop (at + length A) ws in
    let front : take (at + length A) ((take at ws ++ A) ++ (tail ++ B)) ≡ take at ws ++ A = take_at (take at ws ++ A) (tail ++ B) (at + length A) long in
    let back : drop (at + length A + length P) ((take at ws ++ A) ++ (tail ++ B)) ≡ drop (at + length (A ++ P)) ws ++ B =
    sym (drop-drop (length P) (at + length A) ((take at ws ++ A) ++ (tail ++ B)))
    ∙ ap (drop (length P)) (drop_at (take at ws ++ A) (tail ++ B) (at + length A) long)
    ∙ drop-append-le (length P) tail B (omega (arith, rest))
    ∙ ap (λ (l : List ℕ). l ++ B) (drop-drop (length P) (at + length A) ws ∙ ap (λ (n : ℕ). drop n ws) (let all = length-append A P in let e : at + length A + length P ≡ at + length (A ++ P) = omega (arith, all) in e)) in
    ap (λ (l : List ℕ). filled l (at + length A) (P, Q)) regrouped
    ∙ ap (λ (l : List ℕ). l ++ (P ++ (drop (at + length A + length P) ((take at ws ++ A) ++ (tail ++ B)) ++ Q))) front
    ∙ ap (λ (l : List ℕ). (take at ws ++ A) ++ (P ++ (l ++ Q))) back
    ∙ append_assoc (take at ws) A (P ++ ((drop (at + length (A ++ P)) ws ++ B) ++ Q))
    ∙ ap (λ (l : List ℕ). take at ws ++ (A ++ (P ++ l))) (append_assoc (drop (at + length (A ++ P)) ws) B Q)
    ∙ ap (λ (l : List ℕ). take at ws ++ l) (sym (append_assoc A P (drop (at + length (A ++ P)) ws ++ (B ++ Q))))

-- room that was made behind all words is filled
pub filled_zeros : (ws P Q : List ℕ) (n : ℕ) → length P ≡ n → filled (ws ++ replicate n 0) (length ws) (P, Q) ≡ ws ++ (P ++ Q)
filled_zeros ws P Q n e =
    let front : take (length ws) (ws ++ replicate n 0) ≡ ws = take_at ws (replicate n 0) (length ws) refl in
    let a = length-append ws (replicate n 0) in
    let b = length-replicate {A = ℕ} n 0 in
    let back : drop (length ws + length P) (ws ++ replicate n 0) ≡ [] = drop_all (length ws + length P) (ws ++ replicate n 0) (omega (arith, a, b, e)) in
    ap (λ (l : List ℕ). l ++ (P ++ (drop (length ws + length P) (ws ++ replicate n 0) ++ Q))) front
    ∙ ap (λ (l : List ℕ). ws ++ (P ++ (l ++ Q))) back

-- nothing is filled
pub filled_none : (ws : List ℕ) (at : ℕ) → at ≤ length ws → filled ws at ([], []) ≡ ws
filled_none ws at le =
    let place : at + 0 ≡ at = omega arith in
    ap (λ (n : ℕ). take at ws ++ (drop n ws ++ [])) place ∙ ap (λ (l : List ℕ). take at ws ++ l) (append-nil (drop at ws)) ∙ take-append-drop at ws

-- one element more of n, from the last to the first
pub joined_more : (b : ℕ) (xs : List ℕ) (n k x word : ℕ) → length xs ≡ n → k < n → x ≡ get_or xs (n - 1 - k) 0 → word ≡ joined b (drop (n - k) xs) → word * 2 ^ b + x ≡ joined b (drop (n - (k + 1)) xs)
joined_more b xs n k x word is_n lt is_x is_word =
    let place : n - 1 - k ≡ n - (k + 1) = omega arith in
    let next : n - (k + 1) + 1 ≡ n - k = omega arith in
    let first : get_or xs (n - (k + 1)) 0 ≡ x = ap (λ (i : ℕ). get_or xs i 0) (sym place) ∙ sym is_x in
    sym (ap (joined b) (drop_more xs (n - (k + 1)) 0 (omega (arith, is_n)))
    ∙ ap (λ (i : ℕ). joined b (drop i xs) * 2 ^ b + get_or xs (n - (k + 1)) 0) next
    ∙ ap (λ (w : ℕ). w * 2 ^ b + get_or xs (n - (k + 1)) 0) (sym is_word)
    ∙ ap (λ (y : ℕ). word * 2 ^ b + y) first)

-- which fits a word
pub joined_fits : (b : ℕ) (xs : List ℕ) (n k x word : ℕ) → length xs ≡ n → AreOf b xs → n * b ≤ 64 → k < n → x ≡ get_or xs (n - 1 - k) 0 → word ≡ joined b (drop (n - k) xs) → word * 2 ^ b + x < 2 ^ 64
joined_fits b xs n k x word is_n fit few lt is_x is_word =
    let left = drop (n - (k + 1)) xs in
    let below = joined_below b left (are_drop b (n - (k + 1)) xs fit) in
    let same = joined_more b xs n k x word is_n lt is_x is_word in
    let short : length left ≤ n = omega (arith, is_n, length-drop (n - (k + 1)) xs) in
    let less : length left * b ≤ n * b = mul-le-mul_right b short in
    let wide : 2 ^ (length left * b) ≤ 2 ^ 64 = pow-le-pow_right {n = 2} (omega arith) {i = length left * b} {j = 64} (omega arith) in
    omega (arith, same, below, wide)

-- m elements that fill a word, or are all that are left, are laid down
pub packed_more : (b per n k m : ℕ) (front rest chunk behind total : List ℕ) → per ≡ 64 / b → k < n → m ≡ min per (length rest) → chunk ≡ take m rest → behind ≡ drop m rest
    → front ++ packed_words b (n - k) rest ≡ total → (front ++ joined b chunk ∷ []) ++ packed_words b (n - (k + 1)) behind ≡ total
packed_more b per n k m front rest chunk behind total is_per lt is_m is_chunk is_behind so_far =
    let one : n - k ≡ suc (n - (k + 1)) = omega arith in
    let first : chunk ≡ take (64 / b) rest = is_chunk ∙ ap (λ (i : ℕ). take i rest) is_m ∙ take_min per rest ∙ ap (λ (i : ℕ). take i rest) is_per in
    let later : behind ≡ drop (64 / b) rest = is_behind ∙ ap (λ (i : ℕ). drop i rest) is_m ∙ drop_min per rest ∙ ap (λ (i : ℕ). drop i rest) is_per in
    append_assoc front (joined b chunk ∷ []) (packed_words b (n - (k + 1)) behind)
    ∙ ap (λ (l : List ℕ). front ++ (joined b l ∷ packed_words b (n - (k + 1)) behind)) first
    ∙ ap (λ (l : List ℕ). front ++ (joined b (take (64 / b) rest) ∷ packed_words b (n - (k + 1)) l)) later
    ∙ ap (λ (i : ℕ). front ++ packed_words b i rest) (sym one) ∙ so_far

pub packed_done : (b n k : ℕ) (front rest total : List ℕ) → n ≤ k → front ++ packed_words b (n - k) rest ≡ total → front ≡ total
packed_done b n k front rest total le so_far =
    let none : n - k ≡ 0 = omega arith in
    sym (append-nil front) ∙ ap (λ (m : ℕ). front ++ packed_words b m rest) (sym none) ∙ so_far

pub eights_whole : (n : ℕ) (xs : List ℕ) → length xs ≡ n → packed_words 64 n xs ≡ xs
eights_whole zero [] e = refl
eights_whole zero (x ∷ xs) e = absurd (omega arith)
eights_whole (suc n) [] e = absurd (omega arith)
eights_whole (suc n) (x ∷ xs) e =
    let first : joined 64 (take (64 / 64) (x ∷ xs)) ≡ x = omega arith in
    ap (λ (y : ℕ). y ∷ packed_words 64 n xs) first ∙ ap (λ (l : List ℕ). x ∷ l) (eights_whole n xs (omega arith))

pub zeros_fit : (n : ℕ) → AreOf 0 (replicate n 0)
zeros_fit zero i = omega arith
zeros_fit (suc n) zero = omega arith
zeros_fit (suc n) (suc i) = zeros_fit n i

pub length-put : (ws done ds : List ℕ) (at : ℕ) → done ≡ take at ws ++ (ds ++ drop (at + length ds) ws) → at + length ds ≤ length ws → length done ≡ length ws
length-put ws done ds at is le =
    let a = length-append (take at ws) (ds ++ drop (at + length ds) ws) in
    let b = length-append ds (drop (at + length ds) ws) in
    let d = length-drop (at + length ds) ws in
    let e = length-take-le at ws (omega arith) in
    let f = ap length is in
    omega (arith, a, b, d, e, f)

pub length-filled : (ws P Q : List ℕ) (at : ℕ) → at + length P ≤ length ws → length (filled ws at (P, Q)) ≡ length ws + length Q
length-filled ws P Q at le =
    let a = length-append (take at ws) (P ++ (drop (at + length P) ws ++ Q)) in
    let b = length-append P (drop (at + length P) ws ++ Q) in
    let c = length-append (drop (at + length P) ws) Q in
    let d = length-drop (at + length P) ws in
    let e = length-take-le at ws (omega arith) in
    omega (arith, a, b, c, d, e)
