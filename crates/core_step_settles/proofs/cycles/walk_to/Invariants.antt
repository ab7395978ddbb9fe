use Rattle.std.proofs.Common.{◌≡◌}
use Rattle.core_store.specs.Holding.{state_of}
use Rattle.core_step_settles.specs.Ends.{is_in, Walked}
use Rattle.core_step_settles.proofs.cycles.walk_to.Given as goal

abbrev pub invariant-loop-there : goal.invariant-loop-there
invariant-loop-there l = record {
  there : l.there ≡ is_in l.key l.walked;
  walked : Walked (state_of l.store) l.key l.fn.node l.walked;
}

abbrev pub decreases-loop-there : goal.decreases-loop-there
decreases-loop-there l = l.left
