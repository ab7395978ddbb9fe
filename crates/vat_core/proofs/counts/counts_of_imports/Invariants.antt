use Rattle.std.proofs.Common.{◌≡◌, ◌++◌}
use Rattle.std.specs.Vec.Iter.{into_iter_items}
use Rattle.rpc_machine.specs.Lists.{of_map}
use Rattle.rpc_machine.specs.Queries.{import_counts}
use Rattle.vat_core.proofs.Countable.{counted}
use Rattle.vat_core.proofs.counts.counts_of_imports.Given as goal

abbrev pub invariant-loop-id : goal.invariant-loop-id
invariant-loop-id l = l.counts.items ++ counted l.imports.entries (into_iter_items l.id-iterator) ≡ of_map import_counts l.imports.entries
