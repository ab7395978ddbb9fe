use Rattle.std.proofs.Common.{◌≡◌}
use Rattle.vat_host.proofs.host.Host.released_of_noted.Given as goal

abbrev pub invariant-loop : goal.invariant-loop
invariant-loop l = l.self ≡ l.fn.self
