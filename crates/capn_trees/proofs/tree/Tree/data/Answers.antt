use Rattle.std.proofs.Common.{ap, ◌∙◌}
use Rattle.std.proofs.lemmas.Result.{err_from_is_err_and}
use Rattle.capn_trees.specs.Trees.{list, packed}
use Rattle.capn_trees.proofs.Viewed.{view_list, view_bytes}
use Rattle.capn_trees.proofs.tree.Tree.data.Goals as goal

pub returns-in_err-bytes : goal.returns-in_err-bytes
returns-in_err-bytes c = rw (err_from_is_err_and c.from_residual.result c.from_residual.ensures.1).1 tt

pub returns : goal.returns
returns c = view_list _ ∙ ap list (view_bytes _ ∙ ap (packed 8) c.in_ok-bytes.ensures.items)
