use Rattle.finite_maps.proofs.Trees.{seen-insert}
use Rattle.peer_large.proofs.returned.Returned.put.Goals as goal

pub returns-clause-ok : goal.returns-clause-ok
returns-clause-ok c = seen-insert c.self.inside.by_id c.insert.new.self _ _ _ c.self.view_is c.in_ok-insert.ensures.updates
