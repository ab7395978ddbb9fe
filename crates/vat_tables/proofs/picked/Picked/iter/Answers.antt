use Rattle.std.proofs.Common.{sym, ◌∙◌}
use Rattle.vat_tables.proofs.SlabTable.{table-entries, ids_fit}
use Rattle.vat_tables.proofs.picked.Picked.iter.Goals as goal

pub returns-clause-entries : goal.returns-clause-entries
returns-clause-entries g c = c.iter.ensures.rest ∙ sym (table-entries c.self.inside.slab _ c.self.view_is)

pub returns-clause-keys : goal.returns-clause-keys
returns-clause-keys g c = rw c.iter.ensures.rest (ids_fit c.self.inside.slab c.self.invariant)
