use Rattle.std.proofs.Common.{◌≡◌}
use Rattle.core_store.proofs.walk.shorten_all.Given as goal

abbrev pub invariant-loop-node : goal.invariant-loop-node
invariant-loop-node l = l.store ≡ l.fn.store
