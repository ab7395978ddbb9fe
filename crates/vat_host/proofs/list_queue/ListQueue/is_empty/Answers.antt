use Rattle.std.proofs.Common.{◌∙◌, sym, true-eqb}
use Rattle.vat_host.proofs.Waiting.{nothing_left}
use Rattle.vat_host.proofs.list_queue.ListQueue.is_empty.Goals as goal

pub returns-then-is_empty : goal.returns-then-is_empty
returns-then-is_empty g c = rw (← c.self.view_is, c.is_empty-then-is_empty.ensures) (nothing_left c.self.inside.oldest.items c.self.inside.later.items _ (sym c.self.inside.oldest.ok.0 ∙ true-eqb _ _ c.if-is_empty.ensures) c.self.inside.later.ok.0 c.self.invariant)
