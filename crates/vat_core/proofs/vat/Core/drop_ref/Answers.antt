use Rattle.std.proofs.Common.{Ok}
use Rattle.std.proofs.lemmas.Result.{err_from_is_err_and}
use Rattle.rpc_machine.specs.declared.command.Command.TheVariants as command
use Rattle.rpc_machine.specs.declared.command.Granted.TheVariants as granted
use Rattle.vat_core.proofs.Answering.{refuses_at, obeys_at}
use Rattle.vat_core.proofs.Reaching.{stands}
use Rattle.vat_core.proofs.vat.Core.drop_ref.Goals as goal

pub returns-in_err-check_drop_ref-clause-refused : goal.returns-in_err-check_drop_ref-clause-refused
returns-in_err-check_drop_ref-clause-refused c =
    let p = err_from_is_err_and c.from_residual.result c.from_residual.ensures.1 in
    rw (p.1, p.2) (refuses_at _ _ (command.DropRef c.args.id) c.in_err-check_drop_ref.field-0.0 c.self.view_is c.in_err-check_drop_ref.ensures.err)

pub invariant_of-self-2 : goal.invariant_of-self-2
invariant_of-self-2 c = stands c.self.inside.machine c.drop_ref.new.machine (command.DropRef c.args.id) _ _ c.drop_ref.ensures.obeys c.drop_ref.ensures.resting c.self.invariant

pub returns-clause-done : goal.returns-clause-done
returns-clause-done c = obeys_at _ _ _ (command.DropRef c.args.id) (Ok granted.Done) c.in-Ok.effects c.self.view_is c.in-Ok.ensures.obeys
