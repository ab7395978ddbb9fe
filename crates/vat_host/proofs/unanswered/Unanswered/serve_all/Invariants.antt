use Rattle.std.proofs.Common.{◌≡◌, drop}
use Rattle.vat_host.specs.Unanswered.{served}
use Rattle.vat_host.proofs.unanswered.Unanswered.serve_all.Given as goal

abbrev pub invariant-loop-delivery : goal.invariant-loop-delivery
invariant-loop-delivery l = served l.core (drop l.delivery-index l.deliveries) l.self ≡ served l.core l.deliveries l.fn.self
