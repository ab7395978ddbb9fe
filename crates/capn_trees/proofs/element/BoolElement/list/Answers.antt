use Rattle.capn_trees.proofs.Viewed.{view_bits}
use Rattle.capn_trees.proofs.element.BoolElement.list.Goals as goal

pub returns : goal.returns
returns c = view_bits c.args.elements
