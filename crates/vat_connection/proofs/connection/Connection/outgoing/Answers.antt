use Rattle.std.proofs.Common.{◌≡◌, ap, subst, ◌∙◌}
use Rattle.vat_connection.specs.Speaking.{Speaking, given}
use Rattle.vat_connection.specs.Connecting.{Connected}
use Rattle.vat_connection.proofs.connection.Connection.outgoing.Goals as goal

pub returns : goal.returns
returns c =
    let now : Speaking → Connected = λ s. record { speaker = s; inflow = c.self.inside.inflow; limits = c.self.inside.limits; open_calls = c.self.inside.open_calls.0 } in (
      c.work_on.new.self,
      c.work_on.ensures,
      c.take_bytes.ensures.taken ∙ ap (λ (o : Connected). o.speaker.out.bytes) c.self.view_is,
      subst (λ (o : Connected). now c.take_bytes.new.self ≡ record o { speaker = given o.speaker }) c.self.view_is (ap now c.take_bytes.ensures.left),
    )
