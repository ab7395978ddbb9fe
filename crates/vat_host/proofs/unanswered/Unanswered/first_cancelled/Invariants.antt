use Rattle.vat_host.proofs.Over.{IsLeft}
use Rattle.vat_host.proofs.unanswered.Unanswered.first_cancelled.Given as goal

abbrev pub invariant-loop-number : goal.invariant-loop-number
invariant-loop-number l = IsLeft l.core l.self l.number-iterator
