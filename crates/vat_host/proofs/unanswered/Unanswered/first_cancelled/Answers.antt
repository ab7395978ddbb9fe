use Rattle.std.proofs.Common.{ap, ◌∙◌}
use Rattle.vat_host.specs.Unanswered.{Unanswered}
use Rattle.vat_host.proofs.Over.{all_left}
use Rattle.vat_host.proofs.unanswered.Unanswered.first_cancelled.Goals as goal

pub loop-number-init : goal.loop-number-init
loop-number-init c =
    all_left c.args.core.now c.args.self.now c.self.inside.over.entries _ (ap (λ (u : Unanswered). u.over) c.self.view_is)
    (c.into_iter-number-iterator.ensures.into_iter_gives ∙ c.iter-number-items.ensures.rest)
