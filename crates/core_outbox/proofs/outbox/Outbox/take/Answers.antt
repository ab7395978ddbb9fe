use Rattle.std.proofs.Common.{sym, ap, ◌∙◌}
use Rattle.core_outbox.specs.Outgoing.{Outgoing}
use Rattle.core_outbox.proofs.Messages.{releases_said}
use Rattle.core_outbox.proofs.outbox.Outbox.take.Goals as goal

pub returns-clause-effects : goal.returns-clause-effects
returns-clause-effects c = c.take_said.ensures.effects ∙ ap (λ (o : Outgoing). o.said) c.say_ends.ensures

pub returns-clause-releases : goal.returns-clause-releases
returns-clause-releases c = λ d effects released. releases_said c.args.self.now d effects released ∙ sym (returns-clause-effects c)
