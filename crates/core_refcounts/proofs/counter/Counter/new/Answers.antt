use Rattle.std.proofs.Common.{◌∙◌, ap, arith, ℕ}
use Rattle.std.specs.Ordering.{nat_cmp}
use Rattle.std.specs.FinMap as map
use Rattle.core_refcounts.proofs.counter.Counter.new.Goals as goal

pub invariant_of-result : goal.invariant_of-result
invariant_of-result c =
    let none = ap map.len c.new.ensures ∙ map.len-empty nat_cmp ℕ in
    record { for_counts = omega arith; for_notes = omega (arith, none, c.new-2.ensures.len) }
