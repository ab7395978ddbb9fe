use Rattle.std.proofs.Common.{sym}
use Rattle.vat_tables.proofs.PlacedTable.{apart_empty, len_nothing}
use Rattle.vat_tables.proofs.numbered.Numbered.new.Goals as goal

pub invariant_of-result : goal.invariant_of-result
invariant_of-result g c = (apart_empty c.new.result.items c.new-2.result c.new-2.ensures.len, sym (len_nothing c.new.result.items c.new-2.result c.new.ensures.items c.new-2.ensures.empty))
