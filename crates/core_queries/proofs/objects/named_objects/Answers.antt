use Rattle.std.proofs.Common.{◌∙◌}
use Rattle.core_queries.proofs.Counted.{objects_counted}
use Rattle.core_queries.proofs.objects.named_objects.Goals as goal

pub returns : goal.returns
returns c = c.objects.ensures.value ∙ objects_counted c.args.store.now c.objects.ensures.each c.requires.none_taken c.requires.sound
