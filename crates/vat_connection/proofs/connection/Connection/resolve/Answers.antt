use Rattle.std.proofs.Common.{Ok, Err, refl}
use Rattle.rpc_machine.specs.declared.command.Command.TheVariants as command
use Rattle.rpc_machine.specs.declared.command.Granted.TheVariants as granted
use Rattle.vat_connection.proofs.Calling.{spoken_to_fit}
use Rattle.vat_connection.proofs.Giving.{gives_nothing}
use Rattle.vat_connection.proofs.connection.Connection.resolve.Goals as goal

pub returns-in-Ok : goal.returns-in-Ok
returns-in-Ok c =
    spoken_to_fit c.self.inside.speaker c.command.new.self c.self.inside.inflow c.self.inside.limits c.self.inside.open_calls.0 c.args.self.now (command.Resolve c.args.promise c.args.reference) c.self.view_is c.command.ensures.rest (Ok granted.Done) c.self.inside.open_calls.0 refl
    (gives_nothing c.self.inside.speaker.host c.command.new.self.host (command.Resolve c.args.promise c.args.reference) c.in-Ok._granted tt c.in-Ok.ensures.done.0, c.in-Ok.ensures.done.1)

pub returns-in-Err : goal.returns-in-Err
returns-in-Err c =
    spoken_to_fit c.self.inside.speaker c.command.new.self c.self.inside.inflow c.self.inside.limits c.self.inside.open_calls.0 c.args.self.now (command.Resolve c.args.promise c.args.reference) c.self.view_is c.command.ensures.rest (Err c.in-Err.refused.refusal) c.self.inside.open_calls.0 refl
    c.in-Err.ensures.refused
