use Rattle.peer_kinds.specs.Kinds.{comes}
use Rattle.peer_kinds.specs.Standings.{standings_in}
use Rattle.laws_peers.proofs.Fitting.{heard_fits}
use Rattle.laws_peers.proofs.laws.heard_kinds_fit.Goals as goal

pub returns : goal.returns
returns c = λ s w. heard_fits s (comes (standings_in s) w) (c.hears_alike.ensures (standings_in s) w)
