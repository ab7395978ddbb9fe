use Rattle.std.proofs.Common.{arith, rules}
use Rattle.capn_reading.specs.Segments.{segment_of}
use Rattle.rpc_codec.proofs.OneSegment.{take_same, all_same}
use Rattle.rpc_codec.proofs.bare.are_words.Goals as goal

pub loop-k-preserved : goal.loop-k-preserved
loop-k-preserved c =
    let here = c.requires.here in
    let there = c.requires.there in
    take_same (segment_of c.args.message.now 0) c.args.words.now c.loop-k.k (omega (arith, there)) (omega (arith, here)) (search rules) c.loop-k.invariant

pub returns : goal.returns
returns c = λ yes.
    let here = c.requires.here in
    let there = c.requires.there in
    all_same (segment_of c.args.message.now 0) c.args.words.now c.loop-k.k (omega (arith, there)) (omega (arith, here)) c.loop-k.invariant
