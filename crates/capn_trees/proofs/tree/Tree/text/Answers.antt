use Rattle.std.proofs.Common.{ℕ, List, [], ◌∷◌, ◌++◌, ap, ◌∙◌}
use Rattle.std.proofs.lemmas.Result.{err_from_is_err_and}
use Rattle.capn_trees.specs.Trees.{list, packed}
use Rattle.capn_trees.proofs.Viewed.{view_list, view_bytes}
use Rattle.capn_trees.proofs.tree.Tree.text.Goals as goal

pub returns : goal.returns
returns c =
    view_list _ ∙ ap list (view_bytes _ ∙ ap (packed 8) (c.in_ok-push.ensures.items ∙ ap (λ (bytes : List ℕ). bytes ++ 0 ∷ []) (c.in_ok-bytes.ensures.items ∙ c.as_bytes.ensures.value)))

pub returns-in_err-bytes : goal.returns-in_err-bytes
returns-in_err-bytes c = rw (err_from_is_err_and c.from_residual.result c.from_residual.ensures.1).1 tt

pub returns-in_err-push : goal.returns-in_err-push
returns-in_err-push c = rw (err_from_is_err_and c.from_residual-in_err-push.result c.from_residual-in_err-push.ensures.1).1 tt
