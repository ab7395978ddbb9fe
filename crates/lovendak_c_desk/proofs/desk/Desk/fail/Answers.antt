use Rattle.std.proofs.Common.{ℕ, List, Ok, Err, refl, subst}
use Rattle.rpc_machine.specs.declared.command.Command.TheVariants as command
use Rattle.rpc_machine.specs.declared.command.Granted.TheVariants as granted
use Rattle.vat_connection.specs.Connecting.{AsksToFit}
use Rattle.lovendak_c_desk.specs.Given.{kind_at}
use Rattle.lovendak_c_desk.specs.declared.not_done.NotDone.TheVariants as not_done
use Rattle.lovendak_c_desk.proofs.Known.{known}
use Rattle.lovendak_c_desk.proofs.Unfit.{of_kind}
use Rattle.lovendak_c_desk.proofs.desk.Desk.fail.Goals as goal

pub returns-in-Ok : goal.returns-in-Ok
returns-in-Ok c =
    of_kind (kind_at c.args.kind) c.in_ok-kind.kind c.args.self.now (record c.args.self.now { connection = c.fail.new.self }) (λ k. command.Fail (record { 0 = c.args.task }) (record { kind = k; reason = c.args.reason.now })) c.args.reason.now
    (Ok tt) (known not_done.NoSuchNumber (kind_at c.args.kind) c.in_ok-kind.kind c.in_ok-kind.ensures) (
      subst (λ (t : List ℕ). AsksToFit c.args.self.now.connection (command.Fail (record { 0 = c.args.task }) (record { kind = c.in_ok-kind.kind; reason = t })) (Ok granted.Done) c.fail.new.self)
          c.in_ok-reason.ensures.read c.in-Ok.ensures.asks,
      refl,
    )

pub returns-in-Err : goal.returns-in-Err
returns-in-Err c =
    of_kind (kind_at c.args.kind) c.in_ok-kind.kind c.args.self.now (record c.args.self.now { connection = c.fail.new.self }) (λ k. command.Fail (record { 0 = c.args.task }) (record { kind = k; reason = c.args.reason.now })) c.args.reason.now
    (Err (not_done.Refused c.in-Err.refused.refusal)) (known not_done.NoSuchNumber (kind_at c.args.kind) c.in_ok-kind.kind c.in_ok-kind.ensures) (
      subst (λ (t : List ℕ). AsksToFit c.args.self.now.connection (command.Fail (record { 0 = c.args.task }) (record { kind = c.in_ok-kind.kind; reason = t })) (Err c.in-Err.refused.refusal) c.fail.new.self)
          c.in_ok-reason.ensures.read c.in-Err.ensures.asks,
      refl,
    )
