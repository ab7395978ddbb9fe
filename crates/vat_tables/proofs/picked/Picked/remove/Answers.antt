use Rattle.std.proofs.Common.{sym, ◌∙◌}
use Rattle.vat_tables.proofs.SlabTable.{table-get, table-remove}
use Rattle.vat_tables.proofs.picked.Picked.remove.Goals as goal

pub returns-clause-value : goal.returns-clause-value
returns-clause-value g c = c.try_remove.ensures.value ∙ sym (table-get c.self.inside.slab _ c.self.view_is c.args.key)

pub returns-clause-removed : goal.returns-clause-removed
returns-clause-removed g c = table-remove c.self.inside.slab _ _ _ c.self.view_is c.try_remove.ensures.updates
