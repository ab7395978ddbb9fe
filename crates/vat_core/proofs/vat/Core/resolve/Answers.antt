use Rattle.std.proofs.Common.{Ok}
use Rattle.std.proofs.lemmas.Result.{err_from_is_err_and}
use Rattle.rpc_machine.specs.declared.command.Command.TheVariants as command
use Rattle.rpc_machine.specs.declared.command.Granted.TheVariants as granted
use Rattle.vat_core.proofs.Answering.{refuses_at, obeys_at}
use Rattle.vat_core.proofs.Reaching.{stands}
use Rattle.vat_core.proofs.vat.Core.resolve.Goals as goal

pub returns-in_err-check_resolve-clause-refused : goal.returns-in_err-check_resolve-clause-refused
returns-in_err-check_resolve-clause-refused c =
    let p = err_from_is_err_and c.from_residual.result c.from_residual.ensures.1 in
    rw (p.1, p.2) (refuses_at _ _ (command.Resolve c.args.promise c.args.reference) c.in_err-check_resolve.field-0.0 c.self.view_is c.in_err-check_resolve.ensures.err)

pub invariant_of-self : goal.invariant_of-self
invariant_of-self c = stands c.self.inside.machine c.resolve-effects.new.machine (command.Resolve c.args.promise c.args.reference) _ _ c.resolve-effects.ensures.obeys c.resolve-effects.ensures.resting c.self.invariant

pub returns-clause-done : goal.returns-clause-done
returns-clause-done c = obeys_at _ _ _ (command.Resolve c.args.promise c.args.reference) (Ok granted.Done) c.resolve-effects.result c.self.view_is c.resolve-effects.ensures.obeys
