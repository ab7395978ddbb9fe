use Rattle.std.proofs.Common.{◌-◌, sym, ap, arith}
use Rattle.std.specs.FinMap as map
use Rattle.finite_maps.proofs.Gets.{get-insert_same}
use Rattle.finite_maps.proofs.Lens.{len_same, len_gone}
use Rattle.core_refcounts.proofs.Counting.{lowers_last}
use Rattle.core_refcounts.proofs.counter.Counter.lower.Goals as goal

pub invariant_of-self-then-count-gt1 : goal.invariant_of-self-then-count-gt1
invariant_of-self-then-count-gt1 c =
    let same = len_same c.self.inside.numbers.entries c.args.key c.in-Some.count.now (c.in-Some.count.now - 1) (sym c.in-Some.ensures.value) in
    record { for_counts = c.self.invariant.for_counts; for_notes = omega (arith, same, c.self.invariant.for_notes) }

pub unreachable-requires : goal.unreachable-requires
unreachable-requires c =
    let same = len_same c.self.inside.numbers.entries c.args.key c.in-Some.count.now c.in-Some.count.now (sym c.in-Some.ensures.value) in
    let gone = len_gone (map.insert c.self.inside.numbers.entries c.args.key c.in-Some.count.now) c.args.key _ (get-insert_same c.self.inside.numbers.entries c.args.key c.in-Some.count.now) in
    omega (arith, same, gone, c.self.invariant.for_notes, c.in_default-push.ensures.full)

pub invariant_of-self-2 : goal.invariant_of-self-2
invariant_of-self-2 c =
    let same = len_same c.self.inside.numbers.entries c.args.key c.in-Some.count.now c.in-Some.count.now (sym c.in-Some.ensures.value) in
    let gone = len_gone (map.insert c.self.inside.numbers.entries c.args.key c.in-Some.count.now) c.args.key _ (get-insert_same c.self.inside.numbers.entries c.args.key c.in-Some.count.now) in
    let now = ap map.len c.remove.ensures.removed in record {
      for_counts = omega (arith, c.remove.ensures.room, c.self.invariant.for_counts);
      for_notes = omega (arith, same, gone, now, c.self.invariant.for_notes, c.in-Ok.ensures.len, c.in-Ok.ensures.capacity);
    }

pub returns : goal.returns
returns c =
    rw (← c.self.view_is)
    (lowers_last c.self.inside.numbers.entries c.remove.new.self.entries c.self.inside.noted.items c.push.new.self.items c.self.inside.spare c.self.inside.room c.args.key c.in-Some.count.now (sym c.in-Some.ensures.value)
    c.if-count-gt1.false c.remove.ensures.removed c.in-Ok.ensures.items)
