use Rattle.std.proofs.Common.{◌+◌, ap, drop, map, ◌∙◌, arith}
use Rattle.std.proofs.lemmas.List.{map_push}
use Rattle.capn_trees.specs.Trees.{packed}
use Rattle.capn_reading.specs.Segments.{segment_of}
use Rattle.capn_reading.proofs.Building.{elements_more, elements_done, element_inside}
use Rattle.capn_reading.proofs.build.elements_at.Goals as goal

pub loop-k-preserved : goal.loop-k-preserved
loop-k-preserved g c =
    record {
      same = rw (c.push_reserved.ensures.items, map_push) (elements_more (drop c.args.start (segment_of c.args.message.now c.args.segment)) (map g.E.Element.said c.loop-k.values.items) g.E.Element.BITS c.loop-k.k c.args.count (g.E.Element.said c.of_number.result) _ c.loop-k-test.true (c.of_number.ensures ∙ (rw c.BITS.ensures at c.element_at-number.ensures.same)) c.loop-k.invariant.same);
      count = c.push_reserved.ensures.len ∙ ap (λ n. n + 1) c.loop-k.invariant.count;
      room = c.push_reserved.ensures.capacity ∙ c.loop-k.invariant.room;
    }

pub push_reserved-requires : goal.push_reserved-requires
push_reserved-requires g c =
    let count = c.loop-k.invariant.count in
    let room = c.loop-k.invariant.room in
    let test = c.loop-k-test.true in
    omega (arith, count, room, test)

pub returns : goal.returns
returns g c =
    c.list.ensures
    ∙ ap (packed g.E.Element.BITS) (elements_done (drop c.args.start (segment_of c.args.message.now c.args.segment)) (map g.E.Element.said c.loop-k.values.items) g.E.Element.BITS c.loop-k.k c.args.count _ c.loop-k-test.false c.loop-k.invariant.same)

pub element_at-number-requires-clause-inside : goal.element_at-number-requires-clause-inside
element_at-number-requires-clause-inside g c =
    let before = element_inside g.E.Element.BITS c.loop-k.k c.args.count c.requires.some c.loop-k-test.true in
    let inside = c.requires.within.inside in
    rw c.BITS.ensures (omega (arith, before, inside))

pub element_at-number-requires-clause-small : goal.element_at-number-requires-clause-small
element_at-number-requires-clause-small g c =
    let before = element_inside g.E.Element.BITS c.loop-k.k c.args.count c.requires.some c.loop-k-test.true in
    let small = c.requires.within.small in
    rw c.BITS.ensures (omega (arith, before, small))

pub element_at-number-requires-clause-bits : goal.element_at-number-requires-clause-bits
element_at-number-requires-clause-bits g c =
    let is = c.BITS.ensures in
    let bits = c.requires.bits in
    omega (arith, is, bits)

pub of_number-requires : goal.of_number-requires
of_number-requires g c =
    rw c.BITS.ensures at c.element_at-number.ensures.fits
