use Rattle.std.proofs.Common.{◌≡◌, false, inl, refl, sym, ap, subst}
use Rattle.rpc_machine.specs.State.{State}
use Rattle.laws_places.specs.Wanted.{lacks_places}
use Rattle.vat_host.specs.Hosting.{Hosted, Does, Refuses}
use Rattle.vat_connection.specs.Speaking.{Speaking}
use Rattle.vat_connection.proofs.speaker.Speaker.command.Goals as goal

pub returns-in-Ok-clause-done : goal.returns-in-Ok-clause-done
returns-in-Ok-clause-done c = (
  subst (λ (host : Hosted). Does host c.args.command c.in-Ok.granted c.command.new.self) (ap (λ (s : Speaking). s.host) c.self.view_is) c.in-Ok.ensures,
  (
    c.if-not-fits_envelope.ensures.carried refl,
    subst (λ (host : Hosted). lacks_places host.core c.args.command ≡ false) (ap (λ (s : Speaking). s.host) c.self.view_is)
        (subst (λ (s : State). lacks_places s c.args.command ≡ false) c.core.ensures (sym c.if-lacks_places.ensures)),
  ),
)

pub returns-in-Err-clause-refused : goal.returns-in-Err-clause-refused
returns-in-Err-clause-refused c =
    inl (subst (λ (host : Hosted). Refuses host c.args.command c.in-Err.refused.refusal c.command.new.self) (ap (λ (s : Speaking). s.host) c.self.view_is) c.in-Err.ensures.0)
