use Rattle.vat_connections.proofs.Served.{served_rightly}
use Rattle.vat_connections.proofs.laws.connections_serve_what_is_given.Goals as goal

pub returns : goal.returns
returns c = served_rightly c.hosts_serve_what_is_given.ensures
