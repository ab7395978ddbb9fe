use Rattle.std.proofs.Common.{◌≡◌, ℕ, Option, true, is_some, refl, sym, ap, subst, ◌∙◌, option_copied}
use Rattle.vat_host.specs.Hosting.{Hosted, reason_of}
use Rattle.vat_host.proofs.Reasons.{kept_down, kept_none}
use Rattle.vat_host.proofs.host.Host.note_reason.Goals as goal

pub returns-then-is_some : goal.returns-then-is_some
returns-then-is_some c =
    let down : is_some c.args.self.now.core.down ≡ true =
    subst (λ (h : Hosted). is_some h.core.down ≡ true) c.self.view_is (subst (λ (o : Option ℕ). is_some o ≡ true) c.down.ensures (sym c.is_some.ensures ∙ c.if-is_some.true)) in
    (c.args.self.now.down_notice.reason, kept_down c.args.self.now.core.down (reason_of c.args.message.now) c.args.self.now.down_notice.reason down, refl)

pub returns-in_default : goal.returns-in_default
returns-in_default c = (
  c.args.self.now.down_notice.reason,
  kept_none c.args.self.now.core.down (reason_of c.args.message.now) c.args.self.now.down_notice.reason (sym c.reason_of.ensures ∙ ap option_copied c.in_default.is),
  refl,
)
