use Rattle.std.proofs.Common.{sym, ap, ◌∙◌}
use Rattle.std.proofs.lemmas.List.{map-id}
use Rattle.capn_trees.specs.Trees.{packed}
use Rattle.capn_trees.proofs.Viewed.{view_eights}
use Rattle.capn_trees.proofs.element.U64Element.list.Goals as goal

pub returns : goal.returns
returns c = view_eights c.args.elements ∙ ap (packed 64) (sym (map-id c.args.elements.items))
