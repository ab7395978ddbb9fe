-- Bits of a word are replaced.
use Rattle.std.proofs.Common.{◌≡◌, ℕ, ◌+◌, ◌-◌, ◌*◌, ◌/◌, ◌%◌, ◌^◌, ◌<◌, ◌≤◌, sym, ap, ◌∙◌, arith, one-mul, mod-eq_of_lt, le_trans, mul-le-mul_right, div-mul-le_self, add_comm, div-one}
use Rattle.std.proofs.Math.Nat.{add-mod_right, mod-add-mod, mod-le}
use Rattle.std.proofs.lemmas.Nat.{pow_below}

-- so many bits fit in a word where they are less than it
pub whole : (bits : ℕ) → bits < 64 → 1 * 2 ^ bits % 2 ^ 64 ≡ 2 ^ bits
whole bits lt = ap (λ (n : ℕ). n % 2 ^ 64) (one-mul (2 ^ bits)) ∙ mod-eq_of_lt (pow_below bits 64 lt)

-- all bits of a word
pub all_bits : (word from bits : ℕ) → word < 2 ^ 64 → from + bits ≤ 64 → bits ≡ 64 → word ≡ word / 2 ^ from % 2 ^ bits
all_bits word from bits lt inside all =
    let none : from ≡ 0 = omega (arith, inside, all) in
    sym (
    ap (λ (f : ℕ). word / 2 ^ f % 2 ^ bits) none ∙ ap (λ (b : ℕ). word / 2 ^ 0 % 2 ^ b) all ∙ ap (λ (w : ℕ). w % 2 ^ 64) (div-one word) ∙ mod-eq_of_lt lt
    )

-- one part of a word is taken off, and another put in its place
exchanged : (w x y : ℕ) → x ≤ w → w < 2 ^ 64 → ((w + (2 ^ 64 - x % 2 ^ 64)) % 2 ^ 64 + y % 2 ^ 64) % 2 ^ 64 ≡ (w - x + y) % 2 ^ 64
exchanged w x y le lt =
    let a : x % 2 ^ 64 ≡ x = mod-eq_of_lt (omega (arith, le, lt)) in
    let b : w + (2 ^ 64 - x) ≡ w - x + 2 ^ 64 = omega (arith, le, lt) in
    let d : (w - x) % 2 ^ 64 ≡ w - x = mod-eq_of_lt (omega (arith, le, lt)) in
    let taken : (w + (2 ^ 64 - x % 2 ^ 64)) % 2 ^ 64 ≡ w - x =
    ap (λ (z : ℕ). (w + (2 ^ 64 - z)) % 2 ^ 64) a ∙ ap (λ (z : ℕ). z % 2 ^ 64) b ∙ add-mod_right (w - x) (2 ^ 64) ∙ d in
    ap (λ (z : ℕ). (z + y % 2 ^ 64) % 2 ^ 64) taken ∙ ap (λ (z : ℕ). z % 2 ^ 64) (add_comm (w - x) (y % 2 ^ 64)) ∙ mod-add-mod y (2 ^ 64) (w - x)
    ∙ ap (λ (z : ℕ). z % 2 ^ 64) (add_comm y (w - x))

pub replaced_is : (w from bits old n : ℕ) → old ≡ w / 2 ^ from % 2 ^ bits → w < 2 ^ 64
    → ((w + (2 ^ 64 - old * 2 ^ from % 2 ^ 64)) % 2 ^ 64 + n * 2 ^ from % 2 ^ 64) % 2 ^ 64 ≡ (w - w / 2 ^ from % 2 ^ bits * 2 ^ from + n * 2 ^ from) % 2 ^ 64
replaced_is w from bits old n is lt =
    let part : w / 2 ^ from % 2 ^ bits * 2 ^ from ≤ w = le_trans (mul-le-mul_right (2 ^ from) (mod-le (w / 2 ^ from) (2 ^ bits))) (div-mul-le_self w (2 ^ from)) in
    ap (λ (o : ℕ). ((w + (2 ^ 64 - o * 2 ^ from % 2 ^ 64)) % 2 ^ 64 + n * 2 ^ from % 2 ^ 64) % 2 ^ 64) is
    ∙ exchanged w (w / 2 ^ from % 2 ^ bits * 2 ^ from) (n * 2 ^ from) part lt
