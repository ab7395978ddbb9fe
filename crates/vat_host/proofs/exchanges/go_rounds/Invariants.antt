use Rattle.vat_host.specs.Hosting.{Hosted}
use Rattle.vat_host.specs.Exchanging.{Exchanges}
use Rattle.vat_host.proofs.exchanges.go_rounds.Given as goal

abbrev pub invariant-loop-left : goal.invariant-loop-left
invariant-loop-left l = (a b : Hosted) → Exchanges l.left l.a l.b a b → Exchanges l.rounds l.fn.a l.fn.b a b

abbrev pub decreases-loop-left : goal.decreases-loop-left
decreases-loop-left l = l.left
