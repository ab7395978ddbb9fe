use Rattle.bench_parts.proofs.Filling.{turn_there}
use Rattle.bench_parts.proofs.pool.fill.Goals as goal

pub push-requires : goal.push-requires
push-requires c = turn_there _ _ _ c.loop-call.invariant c.turn.ensures
