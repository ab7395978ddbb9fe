use Rattle.std.proofs.Common.{Ok, Err, refl, ap, ◌∙◌}
use Rattle.rpc_machine.specs.declared.command.Command.TheVariants as command
use Rattle.rpc_machine.specs.declared.command.Granted.TheVariants as granted
use Rattle.vat_connection.specs.declared.connection.Connection.TheInside.{Inside}
use Rattle.vat_connection.proofs.Calling.{asks_as, connection}
use Rattle.vat_connection.proofs.connection.Connection.finish.Goals as goal

pub returns-in-Ok : goal.returns-in-Ok
returns-in-Ok c =
    asks_as c.self-inside.inside.0.0.host c.finish.new.self c.self-inside.inside.0.0.out c.self-inside.inside.0.0.adapter c.self-inside.inside.0.0.heard c.self-inside.inside.0.1.0 c.self-inside.inside.0.1.1.0 c.self-inside.inside.0.1.1.1.0.0 c.args.self.now (command.Finish c.args.id) (ap (λ (i : Inside). connection i.speaker i.inflow i.limits i.open_calls.0) c.self-inside.view_is ∙ c.self.view_is)
    (Ok granted.Done) c.remove.new.self.0 c.remove.ensures c.in-Ok.ensures.done

pub returns-in-Err : goal.returns-in-Err
returns-in-Err c =
    asks_as c.self-inside.inside.0.0.host c.finish.new.self c.self-inside.inside.0.0.out c.self-inside.inside.0.0.adapter c.self-inside.inside.0.0.heard c.self-inside.inside.0.1.0 c.self-inside.inside.0.1.1.0 c.self-inside.inside.0.1.1.1.0.0 c.args.self.now (command.Finish c.args.id) (ap (λ (i : Inside). connection i.speaker i.inflow i.limits i.open_calls.0) c.self-inside.view_is ∙ c.self.view_is)
    (Err c.in-Err.refusal) c.self-inside.inside.0.1.1.1.0.0 refl c.in-Err.ensures.refused
