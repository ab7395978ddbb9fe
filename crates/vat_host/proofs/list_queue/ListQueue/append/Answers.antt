use Rattle.std.proofs.Common.{◌∙◌, sym}
use Rattle.vat_host.proofs.Waiting.{one_more}
use Rattle.vat_host.proofs.list_queue.ListQueue.append.Goals as goal

pub invariant_of-self : goal.invariant_of-self
invariant_of-self g c = rw c.push_back_reserved.ensures.items (one_more c.self.inside.later.items c.args.list c.self.invariant (sym c.is_empty.ensures ∙ c.if-is_empty.false))
