use Rattle.std.proofs.Common.{◌≡◌, length}
use Rattle.core_store.specs.Holding.{IsSound}
use Rattle.core_store.specs.Noted.{noted_of}
use Rattle.core_step_collects.proofs.search.next_loose_outcome.Given as goal

abbrev pub invariant-loop-key : goal.invariant-loop-key
invariant-loop-key l = record {
  same : l.store ≡ record (l.fn.store) { names = l.store.names };
  sound : IsSound l.store;
  noted : noted_of l.store.names ≡ record (noted_of l.fn.store.names) { outcomes = l.store.names.outcomes.noted };
}

abbrev pub decreases-loop-key : goal.decreases-loop-key
decreases-loop-key l = length l.store.names.outcomes.noted
