use Rattle.std.proofs.Common.{◌<◌, ◌-◌, length, ap, subst, ◌∙◌, arith}
use Rattle.std.proofs.lemmas.List.{get_or_default}
use Rattle.rising_table.proofs.RisingPlaces.{above_last, absent_above}
use Rattle.rising_table.proofs.rising.position.Goals as goal

pub returns-in_err-behind : goal.returns-in_err-behind
returns-in_err-behind g c =
    let item = c.in_ok-last.ensures.item in
    let below = above_last c.args.places.now c.args.number (length c.args.places.now - 1) c.requires (omega (arith, item.3.0))
    (λ d. subst (λ place. place.0 < c.args.number) (item.4 (omega arith) d) (grind (arith, c.in_err-behind.ensures))) in
    rw c.from_residual-in_err-behind.ensures (absent_above _ _ below)

pub returns-then-places-guess : goal.returns-then-places-guess
returns-then-places-guess g c =
    let item = c.in_ok-last.ensures.item in
    let in_range : length c.args.places.now - 1 - c.in_ok-behind.behind < length c.args.places.now = omega (arith, item.3.0) in
    record { in_range = in_range; has_number = λ d. ap (λ place. place.0) (get_or_default c.args.places.now _ d _ in_range) ∙ c.if-places-guess.true }
