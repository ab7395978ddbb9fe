use Rattle.finite_maps.proofs.Trees.{seen-insert}
use Rattle.peer_tail_calls.proofs.tails.Tails.put.Goals as goal

pub returns-in-Ok-clause-ok : goal.returns-in-Ok-clause-ok
returns-in-Ok-clause-ok c = seen-insert c.self.inside.by_id c.insert.new.self _ _ _ c.self.view_is c.in-Ok.ensures.updates
