use Rattle.std.proofs.Common.{◌≡◌, ◌⊎◌, Option, Some, Ok, Err, sym, subst, refl}
use Rattle.rpc_msg.specs.declared.exception.Exception.{Exception}
use Rattle.rpc_machine.specs.declared.command.Command.TheVariants as command
use Rattle.rpc_machine.specs.declared.command.Granted.TheVariants as granted
use Rattle.rpc_machine.specs.declared.command.Command.{Command}
use Rattle.rpc_machine.specs.declared.command.Refusal.{Refusal}
use Rattle.vat_host.specs.Hosting.{Refuses}
use Rattle.vat_connection.specs.Calling.{FindsNoRoom, exception_of}
use Rattle.vat_connection.proofs.Calling.{spoken_to_fit}
use Rattle.vat_connection.proofs.Giving.{gives_nothing}
use Rattle.vat_connection.proofs.connection.Connection.reject.Goals as goal

pub returns-in-Ok-clause-asks : goal.returns-in-Ok-clause-asks
returns-in-Ok-clause-asks c =
    spoken_to_fit c.self.inside.speaker c.command.new.self c.self.inside.inflow c.self.inside.limits c.self.inside.open_calls.0 c.args.self.now (command.Reject c.args.promise c.args.exception) c.self.view_is c.command.ensures.rest (Ok granted.Done) c.self.inside.open_calls.0 refl
    (gives_nothing c.self.inside.speaker.host c.command.new.self.host (command.Reject c.args.promise c.args.exception) c.in-Ok._granted tt c.in-Ok.ensures.done.0, c.in-Ok.ensures.done.1)

pub returns-in-Err-clause-asks : goal.returns-in-Err-clause-asks
returns-in-Err-clause-asks c =
    spoken_to_fit c.self.inside.speaker c.command.new.self c.self.inside.inflow c.self.inside.limits c.self.inside.open_calls.0 c.args.self.now (command.Reject c.args.promise c.args.exception) c.self.view_is c.command.ensures.rest (Err c.exception_back.result.refusal) c.self.inside.open_calls.0 refl
    (subst (λ (r : Refusal). Refuses c.self.inside.speaker.host (command.Reject c.args.promise c.args.exception) r c.command.new.self.host ⊎ FindsNoRoom c.self.inside.speaker.host (command.Reject c.args.promise c.args.exception) r c.command.new.self.host) (sym c.exception_back.ensures.refusal) c.in-Err.ensures.refused)

pub returns-in-Err-clause-handed_back : goal.returns-in-Err-clause-handed_back
returns-in-Err-clause-handed_back c =
    let e : ◌≡◌ {A = Option Exception} (Some c.args.exception) (Some c.exception_back.result.back) = subst (λ (k : Command). exception_of k ≡ Some c.exception_back.result.back) c.in-Err.ensures.handed_back c.exception_back.ensures.back in
    cc
