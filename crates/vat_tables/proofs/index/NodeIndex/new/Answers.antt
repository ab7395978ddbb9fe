use Rattle.std.proofs.Common.{ℕ, ap, ◌∙◌}
use Rattle.std.specs.FinMap as map
use Rattle.std.specs.Ordering.{nat_cmp}
use Rattle.vat_tables.specs.Index.{Numbers, number_of}
use Rattle.vat_tables.proofs.Indexing.{found_none}
use Rattle.vat_tables.proofs.index.NodeIndex.new.Goals as goal

pub returns-clause-none : goal.returns-clause-none
returns-clause-none c =
    found_none (record { objects = c.new.result; promises = c.new-2.result; imports = c.new-3.result; hashed = c.new-4.result; fields = c.new-5.result })
    c.new.ensures c.new-2.ensures c.new-3.ensures c.new-4.ensures.empty

pub returns-clause-no_fields : goal.returns-clause-no_fields
returns-clause-no_fields c = λ (outcome : ℕ). ap number_of (ap (λ (m : Numbers). map.get m outcome) c.new-5.ensures ∙ map.get-empty nat_cmp outcome)
