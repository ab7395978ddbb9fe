use Rattle.bench_parts.proofs.Filling.{inserted, others_stay}
use Rattle.bench_parts.proofs.pool.start.Goals as goal

pub returns-in-Ok-clause-there : goal.returns-in-Ok-clause-there
returns-in-Ok-clause-there c = inserted _ _ _ _ c.in-Ok.ensures.ok

pub returns-in-Ok-clause-others : goal.returns-in-Ok-clause-others
returns-in-Ok-clause-others c = others_stay _ _ _ _ c.in-Ok.ensures.ok
