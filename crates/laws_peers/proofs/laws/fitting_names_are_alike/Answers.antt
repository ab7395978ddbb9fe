use Rattle.laws_peers.proofs.Alike.{alike}
use Rattle.laws_peers.proofs.laws.fitting_names_are_alike.Goals as goal

pub returns : goal.returns
returns c = alike
