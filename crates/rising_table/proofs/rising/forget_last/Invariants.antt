use Rattle.std.proofs.Common.{◌≡◌, ◌≤◌}
use Rattle.rising_table.specs.Rising.{IsRising, present}
use Rattle.rising_table.proofs.rising.forget_last.Given as goal

abbrev pub invariant-loop-places : goal.invariant-loop-places
invariant-loop-places g l = IsRising l.places.items × (present l.places.items ≡ present l.initial.places.items) × (l.places.len ≤ l.initial.places.len) × (l.places.cap ≡ l.initial.places.cap)

abbrev pub decreases-loop-places : goal.decreases-loop-places
decreases-loop-places g l = l.places.len
