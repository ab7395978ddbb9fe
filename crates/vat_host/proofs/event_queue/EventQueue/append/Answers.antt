use Rattle.std.proofs.Common.{◌∙◌, sym}
use Rattle.vat_host.proofs.Waiting.{one_more_tells}
use Rattle.vat_host.proofs.event_queue.EventQueue.append.Goals as goal

pub invariant_of-self : goal.invariant_of-self
invariant_of-self c = rw c.push_back_reserved.ensures.items (one_more_tells c.self.inside.later.items _ c.self.invariant (sym c.tells_nothing.ensures ∙ c.if-tells_nothing.false))
