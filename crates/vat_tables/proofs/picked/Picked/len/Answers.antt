use Rattle.std.proofs.Common.{sym, ◌∙◌}
use Rattle.vat_tables.proofs.SlabTable.{table-len}
use Rattle.vat_tables.proofs.picked.Picked.len.Goals as goal

pub returns : goal.returns
returns g c = c.len.ensures ∙ sym (table-len c.self.inside.slab _ c.self.view_is)
