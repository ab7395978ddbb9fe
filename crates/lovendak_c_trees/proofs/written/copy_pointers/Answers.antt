use Rattle.std.proofs.lemmas.Result.{err_from_is_err_and}
use Rattle.std.proofs.Common.{◌∙◌}
use Rattle.lovendak_c_trees.proofs.Copied.{push_failed}
use Rattle.lovendak_c_trees.proofs.written.copy_pointers.Goals as goal

pub returns-in_err-push : goal.returns-in_err-push
returns-in_err-push c =
    rw (err_from_is_err_and c.from_residual-in_err-push.result c.from_residual-in_err-push.ensures.1).1
    (push_failed (err_from_is_err_and c.from_residual-in_err-push.result c.from_residual-in_err-push.ensures.1).0 c.in_ok-copy.field-0 c.tree-item.result c.args.trees.now c.loop-tree.tree-index
    ((err_from_is_err_and c.from_residual-in_err-push.result c.from_residual-in_err-push.ensures.1).2 ∙ c.in_err-push.ensures.fault) c.in_ok-copy.ensures c.loop-tree-test.true c.tree-item.is)
