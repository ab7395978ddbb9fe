use Rattle.std.proofs.Common.{sym, subst, ap, arith}
use Rattle.finite_maps.specs.Tally.{Map}
use Rattle.core_refcounts.specs.Names.{Totals, HasNoZeros}
use Rattle.core_refcounts.proofs.Zeros.{no_zeros_set}
use Rattle.core_refcounts.proofs.object_counts.ObjectCounts.count_first.Goals as goal

pub invariant_of-self : goal.invariant_of-self
invariant_of-self c =
    let room = ap (λ (t : Totals). t.room) c.self.view_is in (
      omega (arith, room, c.requires.room, c.add.ensures.room, c.self.invariant.0),
      subst (λ (m : Map _). HasNoZeros m) (sym c.in-Ok.ensures.ok) (no_zeros_set c.self.inside.numbers.entries c.args.object 1 (omega arith) c.self.invariant.1),
    )
