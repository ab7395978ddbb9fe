use Rattle.std.proofs.Common.{◌≡◌, ◌≤◌, ◌++◌, drop, length}
use Rattle.link_logs.specs.Pieces.{pieced}
use Rattle.link_logs.proofs.pieces.pieced.Given as goal

abbrev pub invariant-loop-next : goal.invariant-loop-next
invariant-loop-next l = (l.journal.items ++ pieced (drop l.next-index l.pieces) (drop l.at.a l.a) (drop l.at.b l.b) ≡ pieced l.pieces l.a l.b) × (l.at.a ≤ length l.a) × (l.at.b ≤ length l.b)
