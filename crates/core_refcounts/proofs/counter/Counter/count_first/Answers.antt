use Rattle.std.proofs.Common.{◌∙◌, ap, arith}
use Rattle.std.specs.FinMap as map
use Rattle.finite_maps.proofs.Lens.{len_new}
use Rattle.core_refcounts.specs.Names.{Counted}
use Rattle.core_refcounts.proofs.counter.Counter.count_first.Goals as goal

pub invariant_of-self : goal.invariant_of-self
invariant_of-self c =
    let more = len_new c.self.inside.numbers.entries c.args.key 1 (ap (λ (t : Counted). map.get t.counts c.args.key) c.self.view_is ∙ c.requires.free) in
    let now = ap map.len c.in-Ok.ensures.ok in
    let room = ap (λ (t : Counted). t.room) c.self.view_is in record {
      for_counts = omega (arith, c.add.ensures.room, c.self.invariant.for_counts);
      for_notes = omega (arith, more, now, room, c.requires.room, c.self.invariant.for_notes);
    }
