use Rattle.std.proofs.Common.{refl, sym}
use Rattle.vat_tables.proofs.Options.{none_unless}
use Rattle.vat_tables.proofs.picked.Picked.get_mut.Goals as goal

pub returns-else-contains : goal.returns-else-contains
returns-else-contains g c = (
  refl,
  record {
    writes_back = tt;
    value = sym (none_unless _ _ c.contains.ensures.1 c.if-contains.false);
  },
)
