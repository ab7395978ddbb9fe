use Rattle.std.proofs.Common.{◌+◌, arith, length-set}
use Rattle.capn_reading.specs.Framing.{table_words}
use Rattle.capn_reading.proofs.Tables.{segments_more, end_more, segments_done, end_done, LieBetween_next}
use Rattle.capn_reading.proofs.span.spans_of.Goals as goal

pub loop-k-preserved : goal.loop-k-preserved
loop-k-preserved c =
    let is_size = c.u32_at-size.ensures in
    let lt = c.loop-k-test.true in
    rw c.from-start.ensures record {
      segments = segments_more c.args.bytes.now c.args.count c.loop-k.k c.loop-k.start c.u32_at-size.result c.loop-k.spans _ lt (omega arith) is_size c.loop-k.invariant.segments;
      end = end_more c.args.bytes.now c.args.count c.loop-k.k c.loop-k.start c.u32_at-size.result c.loop-k.spans _ lt is_size c.loop-k.invariant.end;
      small = omega arith;
      places = simp length-set c.loop-k.invariant.places;
      first = let first = c.loop-k.invariant.first in omega (arith, first);
      inside = LieBetween_next (table_words c.args.count) c.loop-k.k c.loop-k.start (c.loop-k.start + c.u32_at-size.result) c.loop-k.spans _ (omega arith) (omega arith) c.loop-k.invariant.first (omega arith) c.loop-k.invariant.inside;
    }

pub returns-clause-segments : goal.returns-clause-segments
returns-clause-segments c = segments_done c.args.bytes.now c.args.count c.loop-k.k c.loop-k.start 0 c.loop-k.spans _ c.loop-k-test.false (omega arith) c.loop-k.invariant.segments

pub returns-clause-end : goal.returns-clause-end
returns-clause-end c = end_done c.args.bytes.now c.args.count c.loop-k.k c.loop-k.start 0 c.loop-k.spans _ c.loop-k-test.false c.loop-k.invariant.end
