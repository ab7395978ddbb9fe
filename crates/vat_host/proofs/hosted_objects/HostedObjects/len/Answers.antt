use Rattle.std.proofs.Common.{◌∙◌}
use Rattle.finite_maps.proofs.Trees.{seen-len}
use Rattle.vat_host.proofs.hosted_objects.HostedObjects.len.Goals as goal

pub returns : goal.returns
returns c = c.len.ensures.len ∙ seen-len c.self.inside.by_number _ c.self.view_is c.len.ensures.ordered
