use Rattle.std.proofs.Common.{ℕ, ◌/◌, ◌%◌, ◌^◌, ◌≤◌, ap, arith, inl, inr, eq-or-lt_of_le}
use Rattle.std.proofs.lemmas.Nat.{pow_pos}
use Rattle.lovendak_c_trees.proofs.Bits.{all_bits, whole}
use Rattle.lovendak_c_trees.proofs.numbers.bits_of.Goals as goal

pub overflow_shl-result : goal.overflow_shl-result
overflow_shl-result c =
    let few = c.if-bits-eq64.false in
    let inside = c.requires.inside in
    let le : c.args.bits ≤ 64 = omega (arith, inside) in
    elim (eq-or-lt_of_le le) [
      | inl e ↦ absurd (few e)
      | inr lt ↦ lt
    ]

pub nonzero_rem-result : goal.nonzero_rem-result
nonzero_rem-result c =
    let some = pow_pos c.args.bits in
    let all = whole c.args.bits (overflow_shl-result c) in
    omega (arith, some, all)

pub returns-then-bits-eq64 : goal.returns-then-bits-eq64
returns-then-bits-eq64 c = all_bits c.args.word c.args.from c.args.bits c.ranges.word.fits c.requires.inside c.if-bits-eq64.true

pub returns : goal.returns
returns c = ap (λ (d : ℕ). c.args.word / 2 ^ c.args.from % d) (whole c.args.bits (omega arith))
