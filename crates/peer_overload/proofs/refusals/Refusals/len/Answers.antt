use Rattle.std.proofs.Common.{◌∙◌}
use Rattle.finite_maps.proofs.Trees.{seen-len}
use Rattle.peer_overload.proofs.refusals.Refusals.len.Goals as goal

pub returns : goal.returns
returns c = c.len.ensures.len ∙ seen-len c.self.inside.by_id _ c.self.view_is c.len.ensures.ordered
