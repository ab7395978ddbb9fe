use Rattle.std.proofs.Common.{◌≡◌, Ok, refl, sym, subst}
use Rattle.rpc_machine.specs.declared.command.Command.{Command}
use Rattle.rpc_machine.specs.declared.command.Granted.TheVariants as granted
use Rattle.vat_host.specs.Hosting.{Does}
use Rattle.vat_connection.specs.Calling.{FindsRoom}
use Rattle.vat_connection.specs.Connecting.{Connected}
use Rattle.vat_connection.specs.OwnCalls.{asked}
use Rattle.vat_connection.proofs.Calling.{leaves, shuts}
use Rattle.vat_connection.proofs.connection.Connection.command.Goals as goal

pub returns-in-Shut-clause-done : goal.returns-in-Shut-clause-done
returns-in-Shut-clause-done c = subst (λ (o : Connected). Does o.speaker.host c.args.command granted.Done c.fall.new.self.host × FindsRoom o.speaker.host c.args.command) c.self.view_is (shuts c.self.inside.speaker.host c.fall.new.self.host c.args.command c.in-Shut.number c.in-Shut.is c.fall.ensures.0)

pub returns-in-Shut-clause-rest : goal.returns-in-Shut-clause-rest
returns-in-Shut-clause-rest c =
    leaves c.self.inside.speaker c.fall.new.self c.self.inside.inflow c.self.inside.limits c.self.inside.open_calls.0 c.args.self.now c.args.command c.self.view_is c.fall.ensures.1 (Ok granted.Done) c.self.inside.open_calls.0
    (subst (λ (k : Command). c.self.inside.open_calls.0 ≡ asked c.self.inside.open_calls.0 k (Ok granted.Done)) (sym c.in-Shut.is) refl)
