use Rattle.laws_routes.proofs.MidwaySaid.{all_may_send}
use Rattle.laws_routes.proofs.midway.resolves_keep_it.Goals as goal

pub returns : goal.returns
returns c = all_may_send
