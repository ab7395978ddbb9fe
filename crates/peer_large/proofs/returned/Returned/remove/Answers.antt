use Rattle.finite_maps.proofs.Trees.{seen-remove}
use Rattle.peer_large.proofs.returned.Returned.remove.Goals as goal

pub returns : goal.returns
returns c = seen-remove c.self.inside.by_id c.remove.new.self _ _ c.self.view_is c.remove.ensures.updates
