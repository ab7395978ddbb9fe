use Rattle.std.proofs.Common.{◌≡◌, ℕ, ◌*◌, ◌/◌, ◌≤◌, length, map, take, drop, min, sym, ap, subst, ◌∙◌, arith}
use Rattle.std.proofs.lemmas.List.{length-map, length-take, take-map, drop-map}
use Rattle.std.proofs.Math.Nat.{mul-le-mul_right}
use Rattle.capn_trees.specs.Widths.{AreOf, packed_size}
use Rattle.capn_writing.proofs.Filled.{are_take, are_drop, packed_more, packed_done}
use Rattle.capn_writing.proofs.place.push_packed.Goals as goal

pub joined_word-requires-clause-fit : goal.joined_word-requires-clause-fit
joined_word-requires-clause-fit g c =
    let said = map g.E.Element.said in
    let front : said c.split_at.result.0.now ≡ take c.min.result (said c.loop.rest.now) = ap said c.split_at.ensures.front ∙ sym (take-map g.E.Element.said c.min.result c.loop.rest.now) in
    subst (AreOf g.E.Element.BITS) (sym front) (are_take g.E.Element.BITS c.min.result (said c.loop.rest.now) c.loop.invariant.fit)

pub loop-preserved : goal.loop-preserved
loop-preserved g c =
    let bits = g.E.Element.BITS in
    let said = map g.E.Element.said in
    let rest = said c.loop.rest.now in
    let front : said c.split_at.result.0.now ≡ take c.min.result rest = ap said c.split_at.ensures.front ∙ sym (take-map g.E.Element.said c.min.result c.loop.rest.now) in
    let back : said c.split_at.result.1.now ≡ drop c.min.result rest = ap said c.split_at.ensures.back ∙ sym (drop-map g.E.Element.said c.min.result c.loop.rest.now) in
    let product : length c.args.elements.now * c.from.result ≡ length c.args.elements.now * bits = ap (λ (b : ℕ). length c.args.elements.now * b) (c.from.ensures ∙ c.BITS-2.ensures) in
    let same_len = length-map c.loop.rest.now g.E.Element.said in
    let fills : 64 / c.from-per.result ≡ 64 / bits = ap (λ (b : ℕ). 64 / b) (c.from-per.ensures ∙ c.BITS.ensures) in
    let count = c.loop.invariant.count in
    let more = c.push_reserved.ensures.len in
    let at_min : c.min.result ≡ min (64 / c.from-per.result) (length rest) = rw same_len c.min.ensures in
    record {
      fit = subst (AreOf bits) (sym back) (are_drop bits c.min.result rest c.loop.invariant.fit);
      same = rw (c.push_reserved.ensures.items, c.joined_word.ensures)
          (packed_more bits (64 / c.from-per.result) (packed_size bits (length c.args.elements.now)) c.loop.counter c.min.result c.loop.words.items rest (said c.split_at.result.0.now) (said c.split_at.result.1.now) _ fills (omega (arith, product)) at_min front back c.loop.invariant.same);
      count = omega (arith, count, more);
      capacity = c.push_reserved.ensures.capacity ∙ c.loop.invariant.capacity;
    }

pub push_reserved-requires : goal.push_reserved-requires
push_reserved-requires g c =
    let product : length c.args.elements.now * c.from.result ≡ length c.args.elements.now * g.E.Element.BITS = ap (λ (b : ℕ). length c.args.elements.now * b) (c.from.ensures ∙ c.BITS-2.ensures) in
    let spare = c.requires.spare in
    let count = c.loop.invariant.count in
    let capacity = c.loop.invariant.capacity in
    omega (arith, product, spare, count, capacity)

pub joined_word-requires-clause-few : goal.joined_word-requires-clause-few
joined_word-requires-clause-few g c =
    let bits = g.E.Element.BITS in
    let fills : 64 / c.from-per.result ≡ 64 / bits = ap (λ (b : ℕ). 64 / b) (c.from-per.ensures ∙ c.BITS.ensures) in
    let front = ap length c.split_at.ensures.front ∙ length-take c.min.result c.loop.rest.now in
    let most = c.min.ensures in
    let few : length c.split_at.result.0.now ≤ 64 / bits = omega (arith, fills, front, most) in
    let whole = c.requires.fill.whole in
    let room = mul-le-mul_right bits few in
    omega (arith, room, whole)

pub returns-clause-items : goal.returns-clause-items
returns-clause-items g c =
    let bits = g.E.Element.BITS in
    let product : length c.args.elements.now * c.from.result ≡ length c.args.elements.now * bits = ap (λ (b : ℕ). length c.args.elements.now * b) (c.from.ensures ∙ c.BITS-2.ensures) in
    packed_done bits (packed_size bits (length c.args.elements.now)) c.loop.counter c.loop.words.items (map g.E.Element.said c.loop.rest.now) _ (omega (arith, product)) c.loop.invariant.same

pub joined_word-requires-clause-some : goal.joined_word-requires-clause-some
joined_word-requires-clause-some g c = c.requires.fill.most

pub split_at-requires : goal.split_at-requires
split_at-requires g c =
    let least = c.min.ensures in
    omega (arith, least)

pub returns-clause-capacity : goal.returns-clause-capacity
returns-clause-capacity g c =
    let same = c.loop.invariant.capacity in
    omega (arith, same)

pub returns-clause-fit : goal.returns-clause-fit
returns-clause-fit g c = c.fit.ensures
