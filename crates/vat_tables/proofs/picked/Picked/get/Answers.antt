use Rattle.std.proofs.Common.{sym, ◌∙◌}
use Rattle.vat_tables.proofs.SlabTable.{table-get}
use Rattle.vat_tables.proofs.picked.Picked.get.Goals as goal

pub returns : goal.returns
returns g c = c.get.ensures ∙ sym (table-get c.self.inside.slab _ c.self.view_is c.args.key)
