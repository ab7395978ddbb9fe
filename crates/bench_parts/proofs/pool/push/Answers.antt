use Rattle.bench_parts.proofs.Filling.{pushed}
use Rattle.bench_parts.proofs.pool.push.Goals as goal

pub returns-in-Ok : goal.returns-in-Ok
returns-in-Ok c = pushed _ _ _ _ c.requires c.in-Ok.ensures.ok
