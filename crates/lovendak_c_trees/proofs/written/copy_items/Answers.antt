use Rattle.std.proofs.lemmas.Result.{err_from_is_err_and}
use Rattle.lovendak_c_trees.proofs.Copied.{item_failed}
use Rattle.lovendak_c_trees.proofs.written.copy_items.Goals as goal

pub returns-in_err-copy_item : goal.returns-in_err-copy_item
returns-in_err-copy_item c =
    rw (err_from_is_err_and c.from_residual-in_err-copy_item.result c.from_residual-in_err-copy_item.ensures.1).1
    (item_failed (err_from_is_err_and c.from_residual-in_err-copy_item.result c.from_residual-in_err-copy_item.ensures.1).0 c.in_err-copy_item.field-0.0 c.item-item.result c.args.items.now c.loop-item.item-index
    (err_from_is_err_and c.from_residual-in_err-copy_item.result c.from_residual-in_err-copy_item.ensures.1).2 c.in_err-copy_item.ensures c.loop-item-test.true c.item-item.is)
