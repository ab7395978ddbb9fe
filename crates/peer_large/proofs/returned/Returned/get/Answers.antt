use Rattle.std.proofs.Common.{◌∙◌}
use Rattle.finite_maps.proofs.Trees.{seen-get}
use Rattle.peer_large.proofs.returned.Returned.get.Goals as goal

pub returns : goal.returns
returns c = c.get.ensures.value ∙ seen-get c.self.inside.by_id _ c.self.view_is c.args.id.0
