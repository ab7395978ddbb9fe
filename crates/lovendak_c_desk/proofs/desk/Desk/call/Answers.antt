use Rattle.std.proofs.Common.{◌⊎◌, inl, Ok, Err, refl, ap, subst}
use Rattle.std.proofs.lemmas.Result.{err_from_is_err_and}
use Rattle.rpc_machine.specs.declared.command.CallCommand.{CallCommand}
use Rattle.rpc_machine.specs.declared.command.Command.TheVariants as command
use Rattle.vat_connection.specs.Calling.{Calls, Fits, IsTooLarge}
use Rattle.vat_connection.specs.Connecting.{Connected}
use Rattle.lovendak_c_desk.specs.Commands.{call_of}
use Rattle.lovendak_c_desk.specs.Given.{lacks_memory, reference, references, with_refs}
use Rattle.lovendak_c_desk.proofs.Unfit.{not_called, same_call}
use Rattle.lovendak_c_desk.proofs.desk.Desk.call.Goals as goal

pub returns-in_err-payload : goal.returns-in_err-payload
returns-in_err-payload c =
    let p = err_from_is_err_and c.from_residual.result c.from_residual.ensures.1 in
    rw (p.1, p.2) (not_called c.args.self.now (call_of c.args.reference c.args.method.0 c.args.method.1 c.args.payload.now c.args.refs.now) _ c.in_err-payload.ensures.not_read)

pub returns-in_err-refs : goal.returns-in_err-refs
returns-in_err-refs c =
    let p = err_from_is_err_and c.from_residual-in_err-refs.result c.from_residual-in_err-refs.ensures.1 in
    rw (p.1, p.2) (not_called c.args.self.now (call_of c.args.reference c.args.method.0 c.args.method.1 c.args.payload.now c.args.refs.now) lacks_memory (inl refl))

pub returns-in-Ok : goal.returns-in-Ok
returns-in-Ok c =
    let old = c.args.self.now.connection in let new = c.call.new.self in
    let e = same_call (reference c.args.reference) c.args.method.0 c.args.method.1 c.in_ok-payload.payload (with_refs c.args.payload.now c.args.refs.now) c.in_ok-refs.refs (references c.args.refs.now) c.in_ok-payload.ensures.read.0 c.in_ok-refs.ensures in
    let d = subst (λ (k : CallCommand). Calls old.speaker.host k (Ok c.in-Ok.call) new.speaker.host × Fits (command.Call k)) e c.in-Ok.ensures.done in
    (d.0, d.1, ap (λ (k : Connected). record c.args.self.now { connection = k }) c.in-Ok.ensures.rest)

pub returns-in-Err : goal.returns-in-Err
returns-in-Err c =
    let old = c.args.self.now.connection in let new = c.call.new.self in
    let e = same_call (reference c.args.reference) c.args.method.0 c.args.method.1 c.in_ok-payload.payload (with_refs c.args.payload.now c.args.refs.now) c.in_ok-refs.refs (references c.args.refs.now) c.in_ok-payload.ensures.read.0 c.in_ok-refs.ensures in (
      subst (λ (k : CallCommand). Calls old.speaker.host k (Err c.in-Err.refused.refusal) new.speaker.host ⊎ IsTooLarge old.speaker.host (command.Call k) c.in-Err.refused.refusal new.speaker.host) e c.in-Err.ensures.refused,
      ap (λ (k : Connected). record c.args.self.now { connection = k }) c.in-Err.ensures.rest,
    )
