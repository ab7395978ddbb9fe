use Rattle.capn_trees.specs.Views.{held}
use Rattle.script_language.proofs.Carrying.{caps_more}
use Rattle.script_language.proofs.carried.caps_tree.Goals as goal

pub loop-index-preserved : goal.loop-index-preserved
loop-index-preserved c = caps_more (held c.loop-index.pointers) (held c.push.new.self) c.capability.result c.loop-index.index c.in-Ok.ensures.pushed c.capability.ensures c.loop-index.invariant
