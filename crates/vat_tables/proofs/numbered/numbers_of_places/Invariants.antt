use Rattle.std.proofs.Common.{◌≡◌, take}
use Rattle.std.specs.Map.{keys_of}
use Rattle.slab.specs.Slab.{entries_from}
use Rattle.vat_tables.proofs.numbered.numbers_of_places.Given as goal

abbrev pub invariant-loop-number : goal.invariant-loop-number
invariant-loop-number g l = l.numbers.items ≡ keys_of (entries_from 0 (take l.number l.places))
