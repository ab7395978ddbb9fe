use Rattle.std.proofs.Common.{◌≡◌}
use Rattle.core_store_waits.proofs.outcomes.shorten_caps.Given as goal

abbrev pub invariant-loop-index : goal.invariant-loop-index
invariant-loop-index l = l.store ≡ l.fn.store
