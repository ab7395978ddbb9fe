use Rattle.std.proofs.Common.{◌++◌, ap, ◌∙◌}
use Rattle.std.specs.Vec.Iter.{into_iter_items}
use Rattle.vat_core.proofs.Countable.{counted, imports_counted}
use Rattle.vat_core.proofs.counts.counts_of_imports.Goals as goal

pub loop-id-init : goal.loop-id-init
loop-id-init c =
    ap (λ xs. xs ++ counted c.args.imports.now.entries (into_iter_items c.into_iter-id-iterator.result)) c.new-counts.ensures.items
    ∙ ap (counted c.args.imports.now.entries) (c.into_iter-id-iterator.ensures.into_iter_gives.0 ∙ c.in_ok-ids.ensures)
    ∙ imports_counted c.args.imports.now.entries
