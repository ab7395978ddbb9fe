use Rattle.std.proofs.Common.{ap, subst, ◌∙◌}
use Rattle.rpc_machine.specs.Progress.{Progress, with_state}
use Rattle.rpc_machine.specs.Settling.{Tells}
use Rattle.core_store.specs.Holding.{state_of}
use Rattle.core_step.specs.InProgress.{progress_of}
use Rattle.core_step_settles.proofs.Known.{settles}
use Rattle.core_step_settles.proofs.outcomes.settle_outcome.Goals as goal

pub returns-clause-settled : goal.returns-clause-settled
returns-clause-settled c =
    let d = progress_of c.args.step.now in
    let o = c.args.key in
    let who = c.in-Some.caller in
    let copy = c.in_ok-told.told in
    let knew = state_of c.make_known.new.step.store in
    let told = progress_of c.tells.new.step in
    let routed = progress_of c.route_waiting.new.step in
    let waited = c.in_ok-route_waiting.ensures.routed in
    settles d o c.args.value c.in_ok-fitted.fitted (state_of c.fit.new.step.store) knew told waited.0 routed (progress_of c.resolve_fields.new.step) waited.1 who copy
    c.in-Some.ensures c.in_ok-fitted.ensures.fits c.in_ok-make_known.ensures.known c.in_ok-told.ensures
    (subst (λ (p : Progress). Tells p who copy told) (c.in_ok-make_known.ensures.same ∙ ap (λ (p : Progress). with_state p knew) c.in_ok-fitted.ensures.said) c.in_ok-tells.ensures.told)
    waited.2 waited.3
    c.in_ok-resolve_fields.ensures.sent
