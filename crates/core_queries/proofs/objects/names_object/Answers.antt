use Rattle.std.proofs.Common.{nat_lt, ap, ◌∙◌}
use Rattle.core_queries.proofs.Counted.{object_counted}
use Rattle.core_queries.proofs.objects.names_object.Goals as goal

pub returns : goal.returns
returns c = ap (λ n. nat_lt 0 n) (c.of_object.ensures ∙ object_counted c.args.store.now c.args.object.0 c.requires.none_taken c.requires.sound)
