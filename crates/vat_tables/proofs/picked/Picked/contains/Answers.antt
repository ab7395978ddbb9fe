use Rattle.std.proofs.Common.{is_some, sym, ap, ◌∙◌}
use Rattle.vat_tables.proofs.SlabTable.{table-get}
use Rattle.vat_tables.proofs.picked.Picked.contains.Goals as goal

pub returns : goal.returns
returns g c =
    let same = ap is_some (table-get c.self.inside.slab _ c.self.view_is c.args.key) in
    (λ yes. same ∙ c.contains.ensures.0 yes, λ there. c.contains.ensures.1 (sym same ∙ there))
