use Rattle.vat_connections.proofs.Released.{not_served}
use Rattle.vat_connections.proofs.laws.released_are_not_served.Goals as goal

pub returns : goal.returns
returns c = not_served c.hosts_serve_what_is_given.ensures c.released_are_not_served.ensures
