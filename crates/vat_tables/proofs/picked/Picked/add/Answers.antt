use Rattle.std.proofs.Common.{sym, ◌∙◌, ap}
use Rattle.std.specs.FinMap as map
use Rattle.vat_tables.proofs.SlabTable.{table-get, table-insert}
use Rattle.vat_tables.proofs.picked.Picked.add.Goals as goal

pub returns-clause-free : goal.returns-clause-free
returns-clause-free g c =
    ap (λ m. map.get m c.insert_reserved.result) (sym c.reserve.ensures.same)
    ∙ table-get c.self.inside.slab _ c.self.view_is c.insert_reserved.result ∙ c.insert_reserved.ensures.was_vacant

pub returns-clause-ok : goal.returns-clause-ok
returns-clause-ok g c =
    table-insert c.self.inside.slab _ _ _ _ c.self.view_is c.insert_reserved.ensures.updates
    ∙ ap (λ m. map.insert m c.insert_reserved.result c.args.entry) c.reserve.ensures.same
