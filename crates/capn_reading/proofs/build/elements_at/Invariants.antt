use Rattle.std.proofs.Common.{◌≡◌, ◌-◌, ◌++◌, drop, map}
use Rattle.std.specs.Vec.{vec_len, vec_capacity}
use Rattle.capn_reading.specs.Segments.{segment_of}
use Rattle.capn_reading.specs.Reading.{elements}
use Rattle.capn_reading.proofs.build.elements_at.Given as goal

-- the elements so far, and those that are left
abbrev pub invariant-loop-k : goal.invariant-loop-k
invariant-loop-k g l = record {
  same : map g.E.Element.said l.values.items ++ elements (drop l.start (segment_of l.message l.segment)) g.E.Element.BITS l.k (l.count - l.k)
      ≡ elements (drop l.start (segment_of l.message l.segment)) g.E.Element.BITS 0 l.count;
  count : vec_len l.values ≡ l.k;
  room : vec_capacity l.values ≡ l.count;
}
