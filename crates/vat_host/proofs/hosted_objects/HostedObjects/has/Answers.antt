use Rattle.std.proofs.Common.{◌≡◌, Bor, Option, None, Some, option_copied, is_some, refl, ap, ◌∙◌}
use Rattle.finite_maps.proofs.Trees.{seen-get}
use Rattle.vat_host.proofs.hosted_objects.HostedObjects.has.Goals as goal

is_there : (o : Option (Bor (Unit {0}))) → is_some o ≡ is_some (option_copied o)
is_there None = refl
is_there (Some x) = refl

pub returns : goal.returns
returns c = c.is_some.ensures ∙ is_there c.get.result ∙ ap (λ (o : Option (Unit {0})). is_some o) (c.get.ensures.value ∙ seen-get c.self.inside.by_number _ c.self.view_is c.args.object.0)
