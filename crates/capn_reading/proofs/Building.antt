-- One more element, one more tree.
use Rattle.std.proofs.Common.{◌≡◌, ℕ, zero, suc, ◌+◌, ◌-◌, ◌*◌, ◌/◌, ◌%◌, ◌^◌, ◌<◌, ◌≤◌, List, [], ◌∷◌, ◌++◌, get_or, take, drop, refl, sym, ap, ◌∙◌, append_assoc, arith, length}
use Rattle.std.proofs.lemmas.List.{append-nil, length-drop, get_or-drop, take_more}
use Rattle.std.proofs.Math.Nat.{mul-le-mul_right, mod-one}
use Rattle.std.specs.Prelude.{replicate}
use Rattle.capn_reading.specs.Reading.{element, elements}

pub words_more : (ws front : List ℕ) (start k x : ℕ) → front ≡ take k (drop start ws) → start + k < length ws → x ≡ get_or ws (start + k) 0 → front ++ x ∷ [] ≡ take (k + 1) (drop start ws)
words_more ws front start k x so_far lt is_x =
    let left = length-drop start ws in
    ap (λ (l : List ℕ). l ++ x ∷ []) so_far ∙ ap (λ (y : ℕ). take k (drop start ws) ++ y ∷ []) (is_x ∙ sym (get_or-drop start ws k 0))
    ∙ sym (take_more (drop start ws) k 0 (omega (arith, left)))

pub elements_more : (ws front : List ℕ) (bits k n x : ℕ) (total : List ℕ) → k < n → x ≡ element ws bits k → front ++ elements ws bits k (n - k) ≡ total
    → (front ++ x ∷ []) ++ elements ws bits (k + 1) (n - (k + 1)) ≡ total
unfolding elements
elements_more ws front bits k n x total lt is_x so_far =
    let one : n - k ≡ suc (n - (k + 1)) = omega arith in
    append_assoc front (x ∷ []) (elements ws bits (k + 1) (n - (k + 1)))
    ∙ ap (λ (y : ℕ). front ++ (y ∷ elements ws bits (k + 1) (n - (k + 1)))) is_x
    ∙ ap (λ (m : ℕ). front ++ elements ws bits k m) (sym one) ∙ so_far

pub elements_done : (ws front : List ℕ) (bits k n : ℕ) (total : List ℕ) → n ≤ k → front ++ elements ws bits k (n - k) ≡ total → front ≡ total
unfolding elements
elements_done ws front bits k n total le so_far =
    let none : n - k ≡ 0 = omega arith in
    sym (append-nil front) ∙ ap (λ (m : ℕ). front ++ elements ws bits k m) (sym none) ∙ so_far

pub element_inside : (bits k n : ℕ) → 0 < bits → k < n → k * bits / 64 < (n * bits + 63) / 64
element_inside bits k n some lt =
    let more : (k + 1) * bits ≤ n * bits = mul-le-mul_right bits (omega arith) in
    let split : (k + 1) * bits ≡ k * bits + bits = omega arith in
    omega arith

pub elements_void : (ws : List ℕ) (k n : ℕ) → elements ws 0 k n ≡ replicate n 0
unfolding elements
elements_void ws k zero = refl
elements_void ws k (suc n) =
    let none : element ws 0 k ≡ 0 = mod-one (get_or ws (k * 0 / 64) 0 / 2 ^ (k * 0 % 64)) in
    rw (none, elements_void ws (k + 1) n) refl

-- how many elements there are, and each
pub elements_counted : (ws : List ℕ) (bits k n : ℕ) → length (elements ws bits k n) ≡ n
unfolding elements
elements_counted ws bits k zero = refl
elements_counted ws bits k (suc n) = ap suc (elements_counted ws bits (k + 1) n)

pub elements_get : (ws : List ℕ) (bits k n j : ℕ) → j < n → get_or (elements ws bits k n) j 0 ≡ element ws bits (k + j)
unfolding elements
elements_get ws bits k zero j lt = absurd (omega arith)
elements_get ws bits k (suc n) zero lt = ap (element ws bits) (let e : k ≡ k + 0 = omega arith in e)
elements_get ws bits k (suc n) (suc j) lt = elements_get ws bits (k + 1) n j (omega arith) ∙ ap (element ws bits) (let e : k + 1 + j ≡ k + suc j = omega arith in e)
