use Rattle.std.proofs.Common.{map, take}
use Rattle.trace_file.proofs.Going.{HasRead}
use Rattle.trace_file.proofs.follower.follow_entries.Given as goal

abbrev pub invariant-loop-i : goal.invariant-loop-i
invariant-loop-i g l = HasRead g.F.Follower.takes l.version (take l.i (map (λ line. line.now) l.lines)) l.fn.follower l.follower
