use Rattle.laws_routes.proofs.ResolvesSent.{resolves_sent}
use Rattle.laws_routes.proofs.messages.resolves_are_sent.Goals as goal

pub returns : goal.returns
returns c = resolves_sent
