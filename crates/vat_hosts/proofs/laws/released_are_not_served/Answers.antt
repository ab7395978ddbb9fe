use Rattle.vat_hosts.proofs.Released.{not_served}
use Rattle.vat_hosts.proofs.laws.released_are_not_served.Goals as goal

pub returns : goal.returns
returns c = not_served c.released_stays.ensures.stays
