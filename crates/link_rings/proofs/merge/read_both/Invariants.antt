use Rattle.std.proofs.Common.{◌+◌, ◌-◌, ◌*◌, ◌^◌, ◌≤◌, drop, length}
use Rattle.laws_merge.specs.Merge.{merge}
use Rattle.link_rings.specs.Gather.{waits, makes, order, ReadsAll}
use Rattle.link_rings.proofs.merge.read_both.Given as goal

abbrev pub invariant-loop-i : goal.invariant-loop-i
invariant-loop-i g l = record {
  -- who reads the rest has read all
  so_far : (new : _)
      → ReadsAll g.V.Reads.reads l.reader (merge (waits g.P.Party.input) (makes g.P.Party.sends) l.made (drop l.i l.first) (drop l.j l.second)) new
      → ReadsAll g.V.Reads.reads l.fn.reader (order g.P.Party.input g.P.Party.sends l.fn.first l.fn.second) new;
  within_first : l.i ≤ length l.first;
  within_second : l.j ≤ length l.second;
  fits : l.made ≤ l.j * 2 ^ 64;
}

abbrev pub decreases-loop-i : goal.decreases-loop-i
decreases-loop-i g l = (length l.first - l.i) + (length l.second - l.j)
