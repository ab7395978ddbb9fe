use Rattle.link_rings.specs.Ends.{IsSameEnd}
use Rattle.tests_link_driver.proofs.tests.need.play.Given as goal

abbrev pub invariant-acts : goal.invariant-acts
invariant-acts l = IsSameEnd l.fn.a.end l.a.end × IsSameEnd l.fn.b.end l.b.end
