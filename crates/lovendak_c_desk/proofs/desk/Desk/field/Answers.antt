use Rattle.std.proofs.Common.{List, Ok, Err, refl, subst}
use Rattle.rpc_msg.specs.Op.{Op}
use Rattle.rpc_machine.specs.declared.command.Command.TheVariants as command
use Rattle.rpc_machine.specs.declared.command.Granted.TheVariants as granted
use Rattle.vat_connection.specs.Connecting.{Asks}
use Rattle.lovendak_c_desk.proofs.desk.Desk.field.Goals as goal

pub returns-in-Ok : goal.returns-in-Ok
returns-in-Ok c =
    (subst (λ (ops : List Op). Asks c.args.self.now.connection (command.Field (record { 0 = c.args.call }) ops) (Ok (granted.Reference c.in-Ok.made)) c.field.new.self) c.in_ok-path.ensures c.in-Ok.ensures.asks, refl)

pub returns-in-Err : goal.returns-in-Err
returns-in-Err c =
    (subst (λ (ops : List Op). Asks c.args.self.now.connection (command.Field (record { 0 = c.args.call }) ops) (Err c.in-Err.refused.refusal) c.field.new.self) c.in_ok-path.ensures c.in-Err.ensures.asks, refl)
