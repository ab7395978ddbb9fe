use Rattle.std.proofs.Common.{ℕ, Option, MatchBool, is_some, ap, sym, subst, ◌∙◌}
use Rattle.vat_host.specs.Hosting.{HasCancelled, Hosted}
use Rattle.vat_host.proofs.Over.{has_some, is_up}
use Rattle.vat_host.proofs.host.Host.has_cancelled.Goals as goal

pub returns : goal.returns
returns c =
    subst (λ (h : Hosted). MatchBool c.is_some-2.result (HasCancelled h) (¬ (HasCancelled h))) c.self.view_is
    (has_some c.self.inside.core c.self.inside.unanswered c.first_cancelled.result c.is_some-2.result c.is_some-2.ensures
    (is_up c.self.inside.core.down (ap (λ (d : Option ℕ). is_some d) (sym c.down.ensures) ∙ sym c.is_some.ensures ∙ c.if-is_some.false))
    c.first_cancelled.ensures.some c.first_cancelled.ensures.none)
