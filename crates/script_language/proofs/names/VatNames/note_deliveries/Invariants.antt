use Rattle.std.proofs.Common.{◌≡◌, drop}
use Rattle.script_language.specs.Bindings.{with_tasks}
use Rattle.script_language.proofs.names.VatNames.note_deliveries.Given as goal

-- with those that are left, all are kept
abbrev pub invariant-loop-delivery : goal.invariant-loop-delivery
invariant-loop-delivery l = with_tasks l.self (drop l.delivery-index l.deliveries) ≡ with_tasks l.fn.self l.deliveries
