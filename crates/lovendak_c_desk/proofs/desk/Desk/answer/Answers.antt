use Rattle.std.proofs.Common.{List, Ok, Err, refl, subst}
use Rattle.rpc_msg.specs.Payloads.{Contents}
use Rattle.rpc_msg.specs.declared.ids.RefId.{RefId}
use Rattle.rpc_machine.specs.declared.command.Command.TheVariants as command
use Rattle.rpc_machine.specs.declared.command.Granted.TheVariants as granted
use Rattle.vat_connection.specs.Connecting.{AsksToFit}
use Rattle.lovendak_c_desk.specs.Given.{with_refs}
use Rattle.lovendak_c_desk.proofs.desk.Desk.answer.Goals as goal

pub returns-in-Ok : goal.returns-in-Ok
returns-in-Ok c = (
  subst (λ (rs : List RefId). AsksToFit c.args.self.now.connection (command.Answer (record { 0 = c.args.task }) (with_refs c.args.payload.now c.args.refs.now) rs) (Ok granted.Done) c.answer.new.self) c.in_ok-refs.ensures
      (subst (λ (p : Contents). AsksToFit c.args.self.now.connection (command.Answer (record { 0 = c.args.task }) p c.in_ok-refs.refs) (Ok granted.Done) c.answer.new.self) c.in_ok-payload.ensures.read.0 c.in-Ok.ensures.asks),
  refl,
)

pub returns-in-Err : goal.returns-in-Err
returns-in-Err c = (
  subst (λ (rs : List RefId). AsksToFit c.args.self.now.connection (command.Answer (record { 0 = c.args.task }) (with_refs c.args.payload.now c.args.refs.now) rs) (Err c.in-Err.refused.refusal) c.answer.new.self) c.in_ok-refs.ensures
      (subst (λ (p : Contents). AsksToFit c.args.self.now.connection (command.Answer (record { 0 = c.args.task }) p c.in_ok-refs.refs) (Err c.in-Err.refused.refusal) c.answer.new.self) c.in_ok-payload.ensures.read.0 c.in-Err.ensures.asks),
  refl,
)
