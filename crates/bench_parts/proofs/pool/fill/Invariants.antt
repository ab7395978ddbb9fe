use Rattle.bench_parts.specs.Turns.{AreThere}
use Rattle.bench_parts.proofs.pool.fill.Given as goal

abbrev pub invariant-loop-call : goal.invariant-loop-call
invariant-loop-call l = AreThere l.lists l.pool.lists
