use Rattle.std.proofs.Common.{[], arith}
use Rattle.capn_reading.proofs.Tables.{end_more, end_done}
use Rattle.capn_fronts.proofs.extent.words_of.Goals as goal

pub loop-k-preserved : goal.loop-k-preserved
loop-k-preserved c =
    let lt = c.loop-k-test.true in
    rw c.from-words.ensures record {
      total = end_more c.args.bytes.now c.args.count c.loop-k.k c.loop-k.words c.u32_at.result [] _ lt c.u32_at.ensures c.loop-k.invariant.total;
      small = omega arith;
    }

pub returns : goal.returns
returns c = end_done c.args.bytes.now c.args.count c.loop-k.k c.loop-k.words 0 [] _ c.loop-k-test.false c.loop-k.invariant.total
