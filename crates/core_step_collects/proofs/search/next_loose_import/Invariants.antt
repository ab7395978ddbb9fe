use Rattle.std.proofs.Common.{◌≡◌, length}
use Rattle.core_store.specs.Holding.{IsSound}
use Rattle.core_store.specs.Noted.{noted_of}
use Rattle.core_step_collects.proofs.search.next_loose_import.Given as goal

abbrev pub invariant-loop-id : goal.invariant-loop-id
invariant-loop-id l = record {
  same : l.store ≡ record (l.fn.store) { names = l.store.names };
  sound : IsSound l.store;
  noted : noted_of l.store.names ≡ record (noted_of l.fn.store.names) { imports = l.store.names.imports.noted };
}

abbrev pub decreases-loop-id : goal.decreases-loop-id
decreases-loop-id l = length l.store.names.imports.noted
