use Rattle.finite_maps.proofs.Trees.{seen-insert}
use Rattle.peer_kinds.proofs.firsts.Firsts.put.Goals as goal

pub returns : goal.returns
returns c = seen-insert c.self.inside.by_id c.insert.new.self _ _ _ c.self.view_is c.in_ok-insert.ensures.updates
