use Rattle.laws_routes.proofs.MidwayGone.{collected}
use Rattle.laws_routes.proofs.midway.collecting_keeps_it.Goals as goal

pub returns : goal.returns
returns c = λ w d new h g. collected w new d h g
