use Rattle.std.proofs.Common.{length}
use Rattle.core_step_sweeps.specs.Listed.{AreListed}
use Rattle.core_step_sweeps.proofs.tally.Tally.clear.Given as goal

abbrev pub invariant-loop-key : goal.invariant-loop-key
invariant-loop-key l = AreListed l.self-inside.numbers.entries l.self-inside.keys.items

abbrev pub decreases-loop-key : goal.decreases-loop-key
decreases-loop-key l = length l.self-inside.keys.items
