use Rattle.script_language.proofs.Carrying.{carried}
use Rattle.script_language.proofs.carried.carry.Goals as goal

pub returns : goal.returns
returns c = carried c.write.result c.in_ok-tree.tree c.args.caps c.write.ensures c.in_ok-tree.ensures c.requires
