use Rattle.std.proofs.Common.{ap, ◌∙◌, ℕ, arith}
use Rattle.std.specs.Ordering.{nat_cmp}
use Rattle.std.specs.FinMap as map
use Rattle.finite_maps.specs.Tally.{Map}
use Rattle.core_refcounts.proofs.object_counts.ObjectCounts.new.Goals as goal

pub invariant_of-result : goal.invariant_of-result
invariant_of-result c = (omega arith, λ k is. let none = ap (λ (m : Map ℕ). map.get m k) c.new.ensures ∙ map.get-empty nat_cmp k in cc)
