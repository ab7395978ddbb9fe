use Rattle.link_rings.specs.Ends.{IsSameEnd}
use Rattle.tests_link.proofs.tests.ends.work_all.Given as goal

abbrev pub invariant-loop-step : goal.invariant-loop-step
invariant-loop-step l = IsSameEnd l.fn.a l.a × IsSameEnd l.fn.b l.b
