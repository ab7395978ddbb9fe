use Rattle.std.proofs.Common.{sym, ap, ◌∙◌}
use Rattle.std.proofs.lemmas.List.{map-id}
use Rattle.capn_trees.specs.Trees.{packed}
use Rattle.capn_trees.proofs.Viewed.{view_bytes}
use Rattle.capn_trees.proofs.element.U8Element.list.Goals as goal

pub returns : goal.returns
returns c = view_bytes c.args.elements ∙ ap (packed 8) (sym (map-id c.args.elements.items))
