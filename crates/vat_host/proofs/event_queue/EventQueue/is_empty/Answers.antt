use Rattle.std.proofs.Common.{◌∙◌, ◌==◌, ℕ, sym, ap}
use Rattle.vat_host.proofs.Waiting.{none_left}
use Rattle.vat_host.proofs.event_queue.EventQueue.is_empty.Goals as goal

pub returns : goal.returns
returns c = rw (← c.self.view_is, c.is_empty-3.ensures)
    (none_left c.self.inside.deliveries.items c.self.inside.ended.items c.self.inside.known c.self.inside.later.items _
    (ap (λ (k : ℕ). k == 0) (sym c.self.inside.deliveries.ok.0) ∙ sym c.if-not-is_empty.ensures)
    (ap (λ (k : ℕ). k == 0) (sym c.self.inside.ended.ok.0) ∙ sym c.if-not-is_empty-2.ensures)
    (sym c.is_some.ensures ∙ c.if-is_some.false)
    c.self.inside.later.ok.0 c.self.invariant)
