use Rattle.laws_routes.proofs.MidwayDrained.{drained}
use Rattle.laws_routes.proofs.midway.drains_keep_it.Goals as goal

pub returns : goal.returns
returns c = drained
