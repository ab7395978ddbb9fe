use Rattle.std.proofs.Common.{ap}
use Rattle.finite_maps.proofs.Trees.{seen-remove}
use Rattle.vat_host.specs.Unanswered.{Unanswered}
use Rattle.vat_host.proofs.Over.{alike}
use Rattle.vat_host.proofs.unanswered.Unanswered.tell.Goals as goal

pub returns : goal.returns
returns c =
    alike _ _ _ _ (ap (λ (u : Unanswered). u.tasks) c.self.view_is)
    (seen-remove c.self.inside.over c.remove.new.self c.args.self.now.over c.args.number (ap (λ (u : Unanswered). u.over) c.self.view_is) c.remove.ensures.updates)
