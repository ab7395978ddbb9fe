use Rattle.std.proofs.Common.{◌≡◌, drop, take}
use Rattle.std.specs.Vec.{vec_len, vec_capacity}
use Rattle.capn_reading.specs.Segments.{segment_of}
use Rattle.capn_reading.proofs.build.words_at.Given as goal

abbrev pub invariant-loop-k : goal.invariant-loop-k
invariant-loop-k l = record {
  same : l.words.items ≡ take l.k (drop l.start (segment_of l.message l.segment));
  count : vec_len l.words ≡ l.k;
  room : vec_capacity l.words ≡ l.count;
}
