use Rattle.std.proofs.Common.{sym, ap, ◌∙◌}
use Rattle.core_outbox.specs.Outgoing.{Outgoing}
use Rattle.core_outbox.proofs.Messages.{all_said}
use Rattle.core_outbox.proofs.outbox.Outbox.say_ends.Goals as goal

pub returns-then-is_empty-2 : goal.returns-then-is_empty-2
returns-then-is_empty-2 c = all_said c.args.self.now
    (sym (ap (λ (o : Outgoing). o.finishes) c.self.view_is) ∙ c.is_empty.ensures c.if-is_empty.true)
    (sym (ap (λ (o : Outgoing). o.releases) c.self.view_is) ∙ c.is_empty-then-is_empty.ensures c.if-is_empty-2.true)
