use Rattle.std.proofs.Common.{refl, sym, subst, ◌∙◌}
use Rattle.vat_connection.specs.Connecting.{Connected, Receives}
use Rattle.vat_connection.proofs.Following.{none_of, up_hears}
use Rattle.vat_connection.proofs.connection.Connection.received.Goals as goal

pub returns : goal.returns
returns c =
    subst (λ (o : Connected). Receives o c.args.bytes.now (record { speaker = c.receive.new.speaker; inflow = c.receive.new.inflow; limits = c.self.inside.limits; open_calls = c.self.inside.open_calls.0 })) c.self.view_is (
      up_hears c.self.inside.limits c.self.inside.speaker c.receive.new.speaker c.self.inside.inflow c.receive.new.inflow c.args.bytes.now (none_of c.self.inside.speaker.host.core.down (sym c.is_down.ensures ∙ c.if-is_down.false))
          (none_of c.self.inside.inflow.over (sym c.is_over.ensures ∙ c.if-is_over.false)) c.receive.ensures,
      refl,
    )
