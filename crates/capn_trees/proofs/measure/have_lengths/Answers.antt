use Rattle.std.proofs.Common.{arith}
use Rattle.capn_trees.proofs.Counts.{even_more, even_stops, words_stop}
use Rattle.capn_trees.proofs.measure.have_lengths.Goals as goal

pub loop-item-preserved : goal.loop-item-preserved
loop-item-preserved c =
    even_more c.args.data_words c.args.pointer_words c.args.items.now c.loop-item.item-index c.item-item.result _ c.loop-item-test.true c.item-item.is (omega arith) (omega arith) c.loop-item.invariant

pub returns-then-len-from-2 : goal.returns-then-len-from-2
returns-then-len-from-2 c =
    even_stops c.args.data_words c.args.pointer_words c.args.items.now c.loop-item.item-index c.item-item.result _ c.loop-item-test.true c.item-item.is (λ e. c.if-len-from-2.true (omega arith)) c.loop-item.invariant

pub returns-then-len-from : goal.returns-then-len-from
returns-then-len-from c =
    words_stop c.args.data_words c.args.pointer_words c.args.items.now c.loop-item.item-index c.item-item.result _ c.loop-item-test.true c.item-item.is (λ e. c.if-len-from.true (omega arith)) c.loop-item.invariant
