use Rattle.std.proofs.Common.{Ok}
use Rattle.std.proofs.lemmas.Result.{err_from_is_err_and}
use Rattle.rpc_machine.specs.declared.command.Command.TheVariants as command
use Rattle.rpc_machine.specs.declared.command.Granted.TheVariants as granted
use Rattle.rpc_machine.specs.Progress.{quiet}
use Rattle.vat_core.proofs.Answering.{refuses_at, obeys_at}
use Rattle.vat_core.proofs.Reaching.{stands}
use Rattle.vat_core.proofs.vat.Core.promise.Goals as goal

pub returns-in_err-check_promise-clause-refused : goal.returns-in_err-check_promise-clause-refused
returns-in_err-check_promise-clause-refused c =
    let p = err_from_is_err_and c.from_residual.result c.from_residual.ensures.1 in
    rw (p.1, p.2) (refuses_at _ _ command.Promise c.in_err-check_promise.field-0.0 c.self.view_is c.in_err-check_promise.ensures.err)

pub invariant_of-self-2 : goal.invariant_of-self-2
invariant_of-self-2 c = stands c.self.inside.machine c.promise.new.machine command.Promise _ _ c.promise.ensures.obeys c.promise.ensures.resting c.self.invariant

pub returns-clause-done : goal.returns-clause-done
returns-clause-done c = obeys_at _ _ _ command.Promise (Ok (granted.Promise c.in-Ok.made.0 c.in-Ok.made.1)) quiet c.self.view_is c.in-Ok.ensures.obeys
