use Rattle.std.proofs.Common.{sym, ap, ◌∙◌}
use Rattle.std.proofs.lemmas.List.{map-id}
use Rattle.capn_trees.specs.Trees.{packed}
use Rattle.capn_trees.proofs.Viewed.{view_fours}
use Rattle.capn_trees.proofs.element.U32Element.list.Goals as goal

pub returns : goal.returns
returns c = view_fours c.args.elements ∙ ap (packed 32) (sym (map-id c.args.elements.items))
