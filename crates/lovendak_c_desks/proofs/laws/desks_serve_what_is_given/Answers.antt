use Rattle.lovendak_c_desks.proofs.Served.{served_rightly}
use Rattle.lovendak_c_desks.proofs.laws.desks_serve_what_is_given.Goals as goal

pub returns : goal.returns
returns c = served_rightly c.connections_serve_what_is_given.ensures
