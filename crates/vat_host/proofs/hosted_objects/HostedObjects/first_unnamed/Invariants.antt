use Rattle.vat_host.proofs.Looking.{IsLeft}
use Rattle.vat_host.proofs.hosted_objects.HostedObjects.first_unnamed.Given as goal

abbrev pub invariant-loop-number : goal.invariant-loop-number
invariant-loop-number l = IsLeft l.core l.self l.root l.number-iterator
