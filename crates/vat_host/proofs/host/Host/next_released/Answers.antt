use Rattle.std.proofs.Common.{sym, subst, ◌∙◌}
use Rattle.laws_released.specs.Known.{KnowsAll}
use Rattle.vat_host.specs.Hosting.{Hosted, IsReleased}
use Rattle.vat_host.specs.Objects.{Objects}
use Rattle.vat_host.proofs.Doing.{hosted}
use Rattle.vat_host.proofs.Knowing.{by_release}
use Rattle.vat_host.proofs.host.Host.next_released.Goals as goal

pub invariant_of-self : goal.invariant_of-self
invariant_of-self c =
    let is : IsReleased (hosted c.self.inside.core c.self.inside.kept.messages.0 c.self.inside.kept.events.0 c.self.inside.objects c.self.inside.unanswered c.self.inside.down_notice) c.in_ok-object.object =
    subst (λ (h : Hosted). IsReleased h c.in_ok-object.object) (sym (c.self.view_is ∙ c.released.ensures.same)) c.in_ok-object.ensures.some in (
      c.self.invariant.0,
      subst (λ (m : Objects). KnowsAll c.self.inside.core m) (sym c.take.ensures)
          (by_release c.self.inside.core c.in_ok-object.object c.self.inside.objects c.self.invariant.1 is.unnamed is.other),
    )
