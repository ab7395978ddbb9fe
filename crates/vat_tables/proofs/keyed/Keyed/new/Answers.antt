use Rattle.std.proofs.Common.{sym, ap, subst, ◌∙◌, arith}
use Rattle.std.specs.Ordering.{nat_cmp}
use Rattle.std.specs.FinMap as map
use Rattle.vat_tables.specs.Placed.{UnderIds}
use Rattle.vat_tables.proofs.PlacedTable.{ids_empty}
use Rattle.vat_tables.proofs.keyed.Keyed.new.Goals as goal

pub invariant_of-result : goal.invariant_of-result
invariant_of-result g c = let e = ap map.len c.new.ensures ∙ map.len-empty nat_cmp g.row.T.Denot in (omega (arith, e), subst UnderIds (sym c.new.ensures) (ids_empty g.row.T.Denot))
