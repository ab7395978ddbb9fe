use Rattle.std.proofs.Common.{◌≡◌, ◌∙◌, drop, List, ℕ, [], sym, ap, arith}
use Rattle.std.specs.Str.Parse.{digits_value, digits_value_after}
use Rattle.std.proofs.lemmas.List.{drop_all}
use Rattle.look_pieces.proofs.Numbers.{fitting, fits, grown, digit_of}
use Rattle.look_pieces.proofs.digits.number.Goals as goal

pub returns-in_default : goal.returns-in_default
returns-in_default c =
    grown c.loop-digit.number c.loop-digit.digit-index c.args.digits.now c.loop-digit-test.true c.loop-digit.invariant.value (omega (arith, c.in_default.ensures))

pub returns-in-None : goal.returns-in-None
returns-in-None c =
    let digit = digit_of c.loop-digit.digit-index c.args.digits.now c.loop-digit-test.true c.loop-digit.invariant.digits in
    let tens = c.in-Some.ensures.1 in
    grown c.loop-digit.number c.loop-digit.digit-index c.args.digits.now c.loop-digit-test.true c.loop-digit.invariant.value (omega (arith, c.in-None.ensures, tens, c.from.ensures, digit))

pub returns : goal.returns
returns c =
    let end : drop c.loop-digit.digit-index c.args.digits.now ≡ [] = drop_all c.loop-digit.digit-index c.args.digits.now c.loop-digit-test.false in
    let value : c.loop-digit.number ≡ digits_value 10 c.args.digits.now = sym (ap (λ (ds : List ℕ). digits_value_after 10 c.loop-digit.number ds) end) ∙ c.loop-digit.invariant.value in
    fits c.loop-digit.number c.loop-digit.invariant.small ∙ ap fitting value
