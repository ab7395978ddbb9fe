use Rattle.std.proofs.Common.{◌==◌, ◌∙◌, ap, sym}
use Rattle.vat_tables.proofs.SlabTable.{table-len}
use Rattle.vat_tables.proofs.picked.Picked.is_empty.Goals as goal

pub returns : goal.returns
returns g c = c.is_empty.ensures ∙ ap (λ n. n == 0) (sym (table-len c.self.inside.slab _ c.self.view_is))
