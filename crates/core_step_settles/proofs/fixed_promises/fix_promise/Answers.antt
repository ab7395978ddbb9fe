use Rattle.std.proofs.Common.{subst}
use Rattle.std.proofs.lemmas.Result.{on_ok_weaker}
use Rattle.std.specs.FinMap as map
use Rattle.rpc_machine.specs.Progress.{Progress}
use Rattle.rpc_machine.specs.Settling.{FixesPromise}
use Rattle.core_store.specs.Holding.{state_of}
use Rattle.core_step.specs.InProgress.{progress_of}
use Rattle.core_step_settles.proofs.Fixed.{fixes}
use Rattle.core_step_settles.proofs.fixed_promises.fix_promise.Goals as goal

pub returns-clause-fixed : goal.returns-clause-fixed
returns-clause-fixed c =
    let x = c.reserve.new.step in
    let s = c.fix.new.store in
    let new = progress_of c.resolve_promises.new.step in
    on_ok_weaker c.resolve_promises.result
    (λ h. subst (λ (p : Progress). FixesPromise p c.args.key c.args.to c.args.told new) c.reserve.ensures.same
    (fixes (progress_of x) c.args.key c.args.to c.args.told (map.get (state_of x.store).promises c.args.key) (state_of s) s.waits.taken (progress_of c.route_taken.new.step) new
    c.in_ok-fix.ensures.ok c.in_ok-route_taken.ensures.routed h))
    c.resolve_promises.ensures.sent
