use Rattle.std.proofs.Common.{◌≤◌, length}
use Rattle.tests_capn.proofs.tests.stream.feed.Given as goal

abbrev pub invariant-loop : goal.invariant-loop
invariant-loop l = l.at ≤ length l.piece
