use Rattle.std.proofs.Common.{◌-◌, length, map, get_or, refl, sym, ap, ◌∙◌, arith}
use Rattle.std.proofs.lemmas.Nat.{one_shl}
use Rattle.std.proofs.lemmas.List.{length-map, get_or-map}
use Rattle.capn_writing.proofs.Filled.{joined_more, joined_fits}
use Rattle.capn_writing.proofs.place.joined_word.Goals as goal

pub overflow_mul-word : goal.overflow_mul-word
overflow_mul-word g c =
    let es = c.args.elements.now in
    let n = length-map es g.E.Element.said in
    let f = joined_fits g.E.Element.BITS (map g.E.Element.said es) (length es) c.loop-k.k (get_or (map g.E.Element.said es) (length es - 1 - c.loop-k.k) 0) c.loop-k.word n c.requires.fit c.requires.few c.loop-k-test.true refl c.loop-k.invariant in
    rw (c.BITS.ensures, one_shl g.E.Element.BITS 64 c.requires.some) (omega (arith, f))

pub overflow_add-word : goal.overflow_add-word
overflow_add-word g c =
    let es = c.args.elements.now in
    let n = length-map es g.E.Element.said in
    let said = c.number.ensures ∙ ap g.E.Element.said c.index-elements-elements.is ∙ sym (get_or-map g.E.Element.said es (length es - 1 - c.loop-k.k) c.index-elements-elements.result 0 (omega arith)) in
    let f = joined_fits g.E.Element.BITS (map g.E.Element.said es) (length es) c.loop-k.k c.number.result c.loop-k.word n c.requires.fit c.requires.few c.loop-k-test.true said c.loop-k.invariant in
    rw (c.BITS.ensures, one_shl g.E.Element.BITS 64 c.requires.some) (omega (arith, f))

pub loop-k-preserved : goal.loop-k-preserved
loop-k-preserved g c =
    let es = c.args.elements.now in
    let n = length-map es g.E.Element.said in
    let said = c.number.ensures ∙ ap g.E.Element.said c.index-elements-elements.is ∙ sym (get_or-map g.E.Element.said es (length es - 1 - c.loop-k.k) c.index-elements-elements.result 0 (omega arith)) in
    rw (c.BITS.ensures, one_shl g.E.Element.BITS 64 c.requires.some) (joined_more g.E.Element.BITS (map g.E.Element.said es) (length es) c.loop-k.k c.number.result c.loop-k.word n c.loop-k-test.true said c.loop-k.invariant)
