use Rattle.std.proofs.Common.{◌-◌, sym, subst, ◌∙◌, arith}
use Rattle.std.specs.FinMap as map
use Rattle.finite_maps.specs.Tally.{Map}
use Rattle.core_refcounts.specs.Names.{HasNoZeros}
use Rattle.core_refcounts.proofs.Counting.{totals_last}
use Rattle.core_refcounts.proofs.Zeros.{no_zeros_set, no_zeros_gone, some_count}
use Rattle.core_refcounts.proofs.object_counts.ObjectCounts.lower.Goals as goal

pub invariant_of-self-then-count-gt1 : goal.invariant_of-self-then-count-gt1
invariant_of-self-then-count-gt1 c =
    (c.self.invariant.0, no_zeros_set c.self.inside.numbers.entries c.args.object (c.in-Some.count.now - 1) (omega (arith, c.if-count-gt1.true)) c.self.invariant.1)

pub invariant_of-self-2 : goal.invariant_of-self-2
invariant_of-self-2 c =
    let m = c.self.inside.numbers.entries in
    let some = some_count m c.args.object c.in-Some.count.now (sym c.in-Some.ensures.value) c.self.invariant.1 in
    let set = no_zeros_set m c.args.object c.in-Some.count.now some c.self.invariant.1 in (
      omega (arith, c.remove.ensures.room, c.self.invariant.0),
      subst (λ (n : Map _). HasNoZeros n) (sym c.remove.ensures.removed) (no_zeros_gone (map.insert m c.args.object c.in-Some.count.now) c.args.object set),
    )

pub returns : goal.returns
returns c =
    c.keep_lost.ensures
    ∙ rw (← c.self.view_is)
    (totals_last c.self.inside.numbers.entries c.remove.new.self.entries c.self.inside.room c.args.object c.in-Some.count.now (sym c.in-Some.ensures.value) c.if-count-gt1.false c.remove.ensures.removed)
