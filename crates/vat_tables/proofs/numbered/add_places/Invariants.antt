use Rattle.std.proofs.Common.{◌≤◌, ◌+◌, ◌-◌, vec_len, vec_capacity}
use Rattle.vat_tables.specs.Placed.{HasSamePlaces}
use Rattle.vat_tables.proofs.numbered.add_places.Given as goal

abbrev pub invariant-loop : goal.invariant-loop
invariant-loop g l = HasSamePlaces l.fn.places.items l.places.items × (vec_len l.places + (l.more - l.counter) ≤ vec_capacity l.places)
