use Rattle.link_rings.specs.Ends.{IsSameEnd}
use Rattle.tests_link.proofs.tests.need.play.Given as goal

abbrev pub invariant-loop-number : goal.invariant-loop-number
invariant-loop-number l = IsSameEnd l.fn.a l.a × IsSameEnd l.fn.b l.b
