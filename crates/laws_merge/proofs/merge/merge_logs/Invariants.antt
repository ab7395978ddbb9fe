use Rattle.std.proofs.Common.{◌≡◌, ◌+◌, ◌-◌, ◌*◌, ◌^◌, ◌≤◌, ◌++◌, drop, length}
use Rattle.laws_merge.specs.Merge.{merge}
use Rattle.laws_merge.proofs.merge.merge_logs.Given as goal

abbrev pub invariant-loop-i : goal.invariant-loop-i
invariant-loop-i g l = record {
  so_far : l.entries.items ++ merge g.P.Logged.waits g.Q.Logged.makes l.made (drop l.i l.first) (drop l.j l.second) ≡ merge g.P.Logged.waits g.Q.Logged.makes 0 l.fn.first l.fn.second;
  within_first : l.i ≤ length l.first;
  within_second : l.j ≤ length l.second;
  fits : l.made ≤ l.j * 2 ^ 64;
}

abbrev pub decreases-loop-i : goal.decreases-loop-i
decreases-loop-i g l = (length l.first - l.i) + (length l.second - l.j)
