use Rattle.finite_maps.proofs.Trees.{seen-remove}
use Rattle.vat_host.proofs.hosted_objects.HostedObjects.take.Goals as goal

pub returns : goal.returns
returns c = seen-remove c.self.inside.by_number c.remove.new.self _ _ c.self.view_is c.remove.ensures.updates
