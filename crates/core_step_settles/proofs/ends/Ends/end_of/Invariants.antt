use Rattle.std.proofs.Common.{suc}
use Rattle.core_step_settles.specs.Ends.{Falls, KeepsEnds, ComesTo}
use Rattle.core_step_settles.proofs.ends.Ends.end_of.Given as goal

abbrev pub invariant-loop-found : goal.invariant-loop-found
invariant-loop-found l = record {
  comes : ComesTo (suc l.at) l.fn.self l.index l.found;
  known : KeepsEnds (suc l.at) l.fn.self l.self;
  falls : Falls l.self;
}

abbrev pub decreases-loop-found : goal.decreases-loop-found
decreases-loop-found l = l.found
