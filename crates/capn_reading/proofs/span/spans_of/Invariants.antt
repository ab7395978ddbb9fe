use Rattle.std.proofs.Common.{◌≡◌, ◌+◌, ◌*◌, ◌^◌, ◌≤◌, ◌++◌, length, drop, sum, ◌-◌}
use Rattle.capn_reading.specs.Segments.{numbers, segments_in}
use Rattle.capn_reading.specs.Framing.{table_words}
use Rattle.capn_reading.specs.Index.{spanned, LieBetween}
use Rattle.capn_reading.proofs.span.spans_of.Given as goal

-- the segments so far, and those that the rest of the table says
abbrev pub invariant-loop-k : goal.invariant-loop-k
invariant-loop-k l = record {
  segments : spanned l.bytes l.k l.spans ++ segments_in (numbers (l.count - l.k) (drop (4 + 4 * l.k) l.bytes)) (drop (8 * l.start) l.bytes)
      ≡ segments_in (numbers l.count (drop 4 l.bytes)) (drop (8 * table_words l.count) l.bytes);
  end : l.start + sum (numbers (l.count - l.k) (drop (4 + 4 * l.k) l.bytes)) ≡ table_words l.count + sum (numbers l.count (drop 4 l.bytes));
  small : l.start ≤ 9 + l.k * 2 ^ 32;
  first : table_words l.count ≤ l.start;
  inside : LieBetween (table_words l.count) l.start l.k l.spans;
  places : length l.spans ≡ 16;
}
