use Rattle.std.proofs.Common.{◌≡◌}
use Rattle.tests_link.proofs.tests.toy.ToyPairEnd.flush.Given as goal

abbrev pub invariant-loop : goal.invariant-loop
invariant-loop l = (l.self.vat ≡ l.fn.self.vat) × (l.self.fallen ≡ l.fn.self.fallen)
