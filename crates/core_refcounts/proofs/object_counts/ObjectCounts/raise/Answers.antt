use Rattle.std.proofs.Common.{sym, ap, arith, ◌∙◌}
use Rattle.finite_maps.specs.Tally.{Map}
use Rattle.finite_maps.proofs.Gets.{insert_same}
use Rattle.core_refcounts.proofs.Counting.{totals_of}
use Rattle.core_refcounts.proofs.Zeros.{no_zeros_set, some_count}
use Rattle.core_refcounts.proofs.object_counts.ObjectCounts.raise.Goals as goal

pub invariant_of-self : goal.invariant_of-self
invariant_of-self c =
    let m = c.self.inside.numbers.entries in
    let some = some_count m c.args.object c.in-Some.count.now (sym c.in-Some.ensures.value) c.self.invariant.1 in
    (c.self.invariant.0, no_zeros_set m c.args.object c.in-Some.count.now some c.self.invariant.1)

pub returns-in_default-checked_add-clause-err : goal.returns-in_default-checked_add-clause-err
returns-in_default-checked_add-clause-err c =
    ap (λ (m : Map _). totals_of m c.self.inside.room) (insert_same c.self.inside.numbers.entries c.args.object c.in-Some.count.now (sym c.in-Some.ensures.value))
    ∙ c.self.view_is

pub invariant_of-self-in-Some : goal.invariant_of-self-in-Some
invariant_of-self-in-Some c =
    let m = c.self.inside.numbers.entries in
    let some = some_count m c.args.object c.in-Some.count.now (sym c.in-Some.ensures.value) c.self.invariant.1 in
    (c.self.invariant.0, no_zeros_set m c.args.object c.in-Some-checked_add.more (omega (arith, some)) c.self.invariant.1)
