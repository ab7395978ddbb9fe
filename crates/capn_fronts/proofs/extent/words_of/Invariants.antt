use Rattle.std.proofs.Common.{◌≡◌, ◌+◌, ◌*◌, ◌-◌, ◌^◌, ◌≤◌, drop, sum}
use Rattle.capn_reading.specs.Segments.{numbers}
use Rattle.capn_fronts.proofs.extent.words_of.Given as goal

-- the sizes so far, and those that the rest of the table says
abbrev pub invariant-loop-k : goal.invariant-loop-k
invariant-loop-k l = record {
  total : l.words + sum (numbers (l.count - l.k) (drop (4 + 4 * l.k) l.bytes)) ≡ sum (numbers l.count (drop 4 l.bytes));
  small : l.words ≤ l.k * 2 ^ 32;
}
