use Rattle.std.proofs.Common.{map, ap, ◌∙◌}
use Rattle.capn_trees.specs.Trees.{list, packed}
use Rattle.capn_trees.proofs.Viewed.{view_list}
use Rattle.peer_tail_calls.proofs.nulls.copy_elements.Goals as goal

pub returns : goal.returns
returns g c = view_list c.list.result ∙ ap list (c.list.ensures ∙ ap (packed g.E.Element.BITS) (ap (map g.E.Element.said) c.in_ok-copy.ensures.items))
