use Rattle.std.proofs.Common.{◌≡◌, ℕ, ◌+◌, ◌*◌, ◌/◌, ◌%◌, ◌^◌, ◌<◌, ◌≤◌, List, drop, refl, sym, ap, subst, ◌∙◌, arith, inl, inr, one-mul, mod-lt, mod-eq_of_lt, div-le_self, eq-or-lt_of_le, lt_of_le_of_lt}
use Rattle.std.specs.Prelude.{slice_index}
use Rattle.std.proofs.lemmas.List.{get_or-drop}
use Rattle.std.proofs.lemmas.Nat.{pow_below, pow_pos}
use Rattle.capn_reading.specs.Segments.{segment_of, word_at}
use Rattle.capn_reading.specs.Reading.{element}
use Rattle.capn_reading.proofs.build.element_at.Goals as goal

-- so many bits fit in a word where they are less than it
whole : (bits : ℕ) → bits ≤ 64 → (bits ≡ 64 → ⊥) → 1 * 2 ^ bits % 2 ^ 64 ≡ 2 ^ bits
whole bits most few =
    elim (eq-or-lt_of_le most) [
      | inl e ↦ absurd (few e)
      | inr lt ↦ ap (λ (n : ℕ). n % 2 ^ 64) (one-mul (2 ^ bits)) ∙ mod-eq_of_lt (pow_below bits 64 lt)
    ]

-- the bits from an element's first on
module _ (m : List (List ℕ)) (s start word place number bits : ℕ) (is_place : place ≡ number * bits) (is_word : word ≡ word_at m s (start + place / 64)) where
  from_first : word / 2 ^ (place % 64) ≡ slice_index (drop start (segment_of m s)) (number * bits / 64) / 2 ^ (number * bits % 64)
  from_first =
      ap (λ (w : ℕ). w / 2 ^ (place % 64)) (is_word ∙ sym (get_or-drop start (segment_of m s) (place / 64) 0))
      ∙ ap (λ (p : ℕ). slice_index (drop start (segment_of m s)) (p / 64) / 2 ^ (p % 64)) is_place

  some_bits : bits ≤ 64 → (bits ≡ 64 → ⊥) → word / 2 ^ (place % 64) % (1 * 2 ^ bits % 2 ^ 64) ≡ element (drop start (segment_of m s)) bits number
  some_bits most few = ap (λ (d : ℕ). word / 2 ^ (place % 64) % d) (whole bits most few) ∙ ap (λ (n : ℕ). n % 2 ^ bits) from_first

  all_bits : word < 2 ^ 64 → bits ≡ 64 → word / 2 ^ (place % 64) ≡ element (drop start (segment_of m s)) bits number
  all_bits fits all =
      let below : word / 2 ^ (place % 64) < 2 ^ 64 = lt_of_le_of_lt (div-le_self word (2 ^ (place % 64))) fits in
      sym (mod-eq_of_lt below) ∙ ap (λ (b : ℕ). word / 2 ^ (place % 64) % 2 ^ b) (sym all) ∙ ap (λ (n : ℕ). n % 2 ^ bits) from_first

pub overflow_mul-place : goal.overflow_mul-place
overflow_mul-place c =
    let place : c.from.result * c.from-2.result ≡ c.args.number * c.args.bits = rw (c.from.ensures, c.from-2.ensures) refl in
    let small = c.requires.small in
    omega (arith, place, small)

pub overflow_cast-place : goal.overflow_cast-place
overflow_cast-place c =
    let place : c.from.result * c.from-2.result ≡ c.args.number * c.args.bits = rw (c.from.ensures, c.from-2.ensures) refl in
    let small = c.requires.small in
    omega (arith, place, small)

pub overflow_add-start : goal.overflow_add-start
overflow_add-start c =
    let place : c.from.result * c.from-2.result ≡ c.args.number * c.args.bits = rw (c.from.ensures, c.from-2.ensures) refl in
    let small = c.requires.small in
    omega (arith, place, small)

pub word-word-requires : goal.word-word-requires
word-word-requires c =
    let place : c.from.result * c.from-2.result ≡ c.args.number * c.args.bits = rw (c.from.ensures, c.from-2.ensures) refl in
    let inside = c.requires.inside in
    omega (arith, place, inside)

pub overflow_shr-from : goal.overflow_shr-from
overflow_shr-from c = omega arith

pub overflow_shl-result : goal.overflow_shl-result
overflow_shl-result c =
    elim (eq-or-lt_of_le c.requires.bits) [
      | inl e ↦ absurd (c.if-bits-eq64.false e)
      | inr lt ↦ lt
    ]

pub nonzero_rem-result : goal.nonzero_rem-result
nonzero_rem-result c =
    let some = pow_pos c.args.bits in
    let all = whole c.args.bits c.requires.bits c.if-bits-eq64.false in
    omega (arith, some, all)

pub returns-then-bits-eq64 : goal.returns-then-bits-eq64
returns-then-bits-eq64 c =
    let place : c.from.result * c.from-2.result ≡ c.args.number * c.args.bits = rw (c.from.ensures, c.from-2.ensures) refl in
    record {
      same = all_bits c.args.message.now c.args.segment c.args.start c.word-word.result (c.from.result * c.from-2.result) c.args.number c.args.bits place c.word-word.ensures c.word-word.type_inv c.if-bits-eq64.true;
      fits = rw c.if-bits-eq64.true (lt_of_le_of_lt (div-le_self c.word-word.result (2 ^ (c.from.result * c.from-2.result % 64))) c.word-word.type_inv);
    }

pub returns-else-bits-eq64 : goal.returns-else-bits-eq64
returns-else-bits-eq64 c =
    let place : c.from.result * c.from-2.result ≡ c.args.number * c.args.bits = rw (c.from.ensures, c.from-2.ensures) refl in
    record {
      same = some_bits c.args.message.now c.args.segment c.args.start c.word-word.result (c.from.result * c.from-2.result) c.args.number c.args.bits place c.word-word.ensures c.requires.bits c.if-bits-eq64.false;
      fits = subst (λ (d : ℕ). c.word-word.result / 2 ^ (c.from.result * c.from-2.result % 64) % d < 2 ^ c.args.bits) (sym (whole c.args.bits c.requires.bits c.if-bits-eq64.false)) (mod-lt _ (pow_pos c.args.bits));
    }
