use Rattle.std.proofs.Common.{refl, ap, ◌∙◌}
use Rattle.rpc_machine.specs.declared.command.Command.TheVariants as command
use Rattle.rpc_machine.specs.declared.command.Granted.TheVariants as granted
use Rattle.vat_connection.specs.declared.connection.Connection.TheInside.{Inside}
use Rattle.vat_connection.proofs.Calling.{asks, connection}
use Rattle.vat_connection.proofs.connection.Connection.host.Goals as goal

pub returns : goal.returns
returns c =
    asks c.self-inside.inside.0.0.host c.host.new.self c.self-inside.inside.0.0.out c.self-inside.inside.0.0.adapter c.self-inside.inside.0.0.heard c.self-inside.inside.0.1.0 c.self-inside.inside.0.1.1.0 c.self-inside.inside.0.1.1.1.0.0 c.args.self.now (command.Host c.args.object) (ap (λ (i : Inside). connection i.speaker i.inflow i.limits i.open_calls.0) c.self-inside.view_is ∙ c.self.view_is)
    c.host.result granted.Reference (λ r. r) (λ _. refl) c.host.ensures.done c.host.ensures.refused
