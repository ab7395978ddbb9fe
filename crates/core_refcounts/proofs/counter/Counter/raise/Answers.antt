use Rattle.std.proofs.Common.{sym, ap, arith, ◌∙◌}
use Rattle.finite_maps.specs.Tally.{Map}
use Rattle.finite_maps.proofs.Gets.{insert_same}
use Rattle.finite_maps.proofs.Lens.{len_same}
use Rattle.core_refcounts.proofs.Counting.{counted_of}
use Rattle.core_refcounts.proofs.counter.Counter.raise.Goals as goal

pub invariant_of-self : goal.invariant_of-self
invariant_of-self c =
    let same = len_same c.self.inside.numbers.entries c.args.key c.in-Some.count.now c.in-Some.count.now (sym c.in-Some.ensures.value) in
    record { for_counts = c.self.invariant.for_counts; for_notes = omega (arith, same, c.self.invariant.for_notes) }

pub returns-in_default-checked_add-clause-err : goal.returns-in_default-checked_add-clause-err
returns-in_default-checked_add-clause-err c =
    ap (λ (m : Map _). counted_of m c.self.inside.noted.items c.self.inside.spare c.self.inside.room) (insert_same c.self.inside.numbers.entries c.args.key c.in-Some.count.now (sym c.in-Some.ensures.value))
    ∙ c.self.view_is

pub invariant_of-self-in-Some : goal.invariant_of-self-in-Some
invariant_of-self-in-Some c =
    let same = len_same c.self.inside.numbers.entries c.args.key c.in-Some.count.now c.in-Some-checked_add.more (sym c.in-Some.ensures.value) in
    record { for_counts = c.self.invariant.for_counts; for_notes = omega (arith, same, c.self.invariant.for_notes) }
