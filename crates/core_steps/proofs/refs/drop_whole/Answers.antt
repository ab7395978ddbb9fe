use Rattle.std.proofs.Common.{sym, ap, ◌∙◌}
use Rattle.std.specs.FinMap as map
use Rattle.finite_maps.proofs.Gets.{get-remove_same}
use Rattle.rpc_machine.specs.declared.command.Command.TheVariants as command
use Rattle.rpc_machine.specs.declared.command.Granted.TheVariants as granted
use Rattle.rpc_machine.specs.Progress.{Progress}
use Rattle.rpc_machine.specs.Settling.{NoneLeft}
use Rattle.core_store.specs.Holding.{state_of}
use Rattle.core_step.specs.declared.step.Step.{Step}
use Rattle.core_step.specs.InProgress.{progress_of}
use Rattle.core_steps.proofs.Answered.{does}
use Rattle.core_steps.proofs.Calm.{dropped, ref_back}
use Rattle.core_steps.proofs.refs.drop_whole.Goals as goal

pub put_back_ref-requires-clause-free : goal.put_back_ref-requires-clause-free
put_back_ref-requires-clause-free c =
    let s = state_of c.args.step.now.store in
    let calm = dropped s c.args.id.0 (map.get (state_of c.begin.new.step.store).refs c.args.id.0) granted.Done (progress_of c.begin.new.step) (progress_of c.drop_ref-reference.new.step) c.in_ok-begin.ensures.begun c.drop_ref-reference.ensures.acts in
    ap (λ (x : Step). map.get (state_of x.store).refs c.args.id.0) c.in_default.ensures.same ∙ ap (λ (p : Progress). map.get p.state.refs c.args.id.0) calm ∙ get-remove_same s.refs c.args.id.0

pub returns-in_default-clause-same : goal.returns-in_default-clause-same
returns-in_default-clause-same c =
    let s = state_of c.args.step.now.store in
    let calm = dropped s c.args.id.0 (map.get (state_of c.begin.new.step.store).refs c.args.id.0) granted.Done (progress_of c.begin.new.step) (progress_of c.drop_ref-reference.new.step) c.in_ok-begin.ensures.begun c.drop_ref-reference.ensures.acts in
    let was = sym (ap (λ (p : Progress). map.get p.state.refs c.args.id.0) c.in_ok-begin.ensures.begun) ∙ c.drop_ref-reference.ensures.was in
    ref_back s (state_of c.sweep.new.step.store) (state_of c.put_back_ref.new.store) c.args.id.0 c.drop_ref-reference.result was
    (ap (λ (x : Step). state_of x.store) c.in_default.ensures.same ∙ ap (λ (p : Progress). p.state) calm) c.put_back_ref.ensures.state

pub returns-clause-does : goal.returns-clause-does
returns-clause-does c =
    does (state_of c.args.step.now.store) (command.DropRef c.args.id) granted.Done (progress_of c.begin.new.step) (progress_of c.drop_ref-reference.new.step) c.in-Ok.effects (state_of c.sweep.new.step.store)
    c.in_ok-begin.ensures.begun c.drop_ref-reference.ensures.acts (c.in-Ok.ensures.ends (progress_of c.drop_ref-reference.new.step) (NoneLeft (ap (λ (p : Progress). p.arisen) (dropped (state_of c.args.step.now.store) c.args.id.0 (map.get (state_of c.begin.new.step.store).refs c.args.id.0) granted.Done (progress_of c.begin.new.step) (progress_of c.drop_ref-reference.new.step) c.in_ok-begin.ensures.begun c.drop_ref-reference.ensures.acts))))
