use Rattle.std.proofs.Common.{refl, subst}
use Rattle.vat_connection.specs.Connecting.{Connected, WorksOn}
use Rattle.vat_connection.proofs.connection.Connection.work_on.Goals as goal

pub returns : goal.returns
returns c =
    subst (λ (o : Connected). WorksOn o (record { speaker = c.say.new.self; inflow = c.proceed.new.inflow; limits = c.self.inside.limits; open_calls = c.self.inside.open_calls.0 })) c.self.view_is
    (c.proceed.new.speaker, c.proceed.new.inflow, c.proceed.ensures, (c.say.new.self, c.say.ensures, refl))
