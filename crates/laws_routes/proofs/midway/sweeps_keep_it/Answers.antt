use Rattle.laws_routes.proofs.MidwaySwept.{swept}
use Rattle.laws_routes.proofs.midway.sweeps_keep_it.Goals as goal

pub returns : goal.returns
returns c = swept
