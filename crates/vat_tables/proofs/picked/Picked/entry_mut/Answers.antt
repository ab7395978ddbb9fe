use Rattle.std.proofs.Common.{is_some, refl, sym, ap, ◌∙◌}
use Rattle.vat_tables.proofs.SlabTable.{table-get, table-with_value, kept-with_value}
use Rattle.vat_tables.proofs.picked.Picked.entry_mut.Goals as goal

pub index_mut-requires : goal.index_mut-requires
index_mut-requires g c = ap is_some (sym (table-get c.self.inside.slab _ c.self.view_is c.args.key)) ∙ c.requires

pub returns : goal.returns
returns g c =
    let present = ap is_some (sym (table-get c.self.inside.slab _ c.self.view_is c.args.key)) ∙ c.requires in (
      (refl, λ w. table-with_value c.self.inside.slab _ c.args.key w c.self.view_is present),
      record { writes_back = tt; value = table-get c.self.inside.slab _ c.self.view_is c.args.key ∙ c.index_mut.ensures.value },
    )

pub invariant_of-self-lent : goal.invariant_of-self-lent
invariant_of-self-lent g c w =
    let present = ap is_some (sym (table-get c.self.inside.slab _ c.self.view_is c.args.key)) ∙ c.requires in
    kept-with_value c.self.inside.slab c.args.key w c.self.invariant present
