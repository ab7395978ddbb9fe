use Rattle.std.proofs.Common.{◌≡◌, take}
use Rattle.vat_tables.proofs.keyed.as_ids.Given as goal

abbrev pub invariant-loop-at : goal.invariant-loop-at
invariant-loop-at l = l.ids.items ≡ take l.at l.numbers
