use Rattle.std.proofs.Common.{◌<◌, ◌-◌, length, subst, arith}
use Rattle.rising_table.proofs.RisingPlaces.{above_last}
use Rattle.rising_table.proofs.rising.is_below.Goals as goal

pub returns-in-Some : goal.returns-in-Some
returns-in-Some g c = λ below.
    let item = c.in-Some.ensures.item in
    above_last c.args.places.now c.args.number (length c.args.places.now - 1) c.requires (omega (arith, item.3.0))
    (λ d. subst (λ place. place.0 < c.args.number) (item.4 (omega arith) d) (grind (arith, below)))
