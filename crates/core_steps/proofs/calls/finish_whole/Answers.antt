use Rattle.std.proofs.Common.{sym, ap, ◌∙◌}
use Rattle.std.specs.FinMap as map
use Rattle.finite_maps.proofs.Gets.{get-remove_same}
use Rattle.rpc_machine.specs.declared.command.Command.TheVariants as command
use Rattle.rpc_machine.specs.declared.command.Granted.TheVariants as granted
use Rattle.rpc_machine.specs.Progress.{Progress}
use Rattle.rpc_machine.specs.Settling.{NoneLeft}
use Rattle.core_store.specs.Holding.{state_of}
use Rattle.core_step.specs.InProgress.{progress_of}
use Rattle.core_steps.proofs.Answered.{settled}
use Rattle.core_steps.proofs.Calm.{finished, call_back}
use Rattle.core_steps.proofs.calls.finish_whole.Goals as goal

pub add_call-requires-clause-free : goal.add_call-requires-clause-free
add_call-requires-clause-free c =
    let s = state_of c.args.step.now.store in
    let calm = finished s c.args.id.0 (map.get (state_of c.begin.new.step.store).calls c.args.id.0) granted.Done (progress_of c.begin.new.step) (progress_of c.finish_call-from.new.step) c.in_ok-begin.ensures.begun c.finish_call-from.ensures.acts in
    ap (λ (p : Progress). map.get p.state.calls c.args.id.0) calm ∙ get-remove_same s.calls c.args.id.0

pub returns-in_default-clause-same : goal.returns-in_default-clause-same
returns-in_default-clause-same c =
    let s = state_of c.args.step.now.store in
    let calm = finished s c.args.id.0 (map.get (state_of c.begin.new.step.store).calls c.args.id.0) granted.Done (progress_of c.begin.new.step) (progress_of c.finish_call-from.new.step) c.in_ok-begin.ensures.begun c.finish_call-from.ensures.acts in
    let was = sym (ap (λ (p : Progress). map.get p.state.calls c.args.id.0) c.in_ok-begin.ensures.begun) ∙ c.finish_call-from.ensures.was in
    call_back s (state_of c.finish_call-from.new.step.store) (state_of c.add_call.new.store) c.args.id.0 c.finish_call-from.result was
    (ap (λ (p : Progress). p.state) calm) c.add_call.ensures.state

pub returns-clause-done : goal.returns-clause-done
returns-clause-done c =
    let s = state_of c.args.step.now.store in
    let calm = finished s c.args.id.0 (map.get (state_of c.begin.new.step.store).calls c.args.id.0) granted.Done (progress_of c.begin.new.step) (progress_of c.finish_call-from.new.step) c.in_ok-begin.ensures.begun c.finish_call-from.ensures.acts in
    settled s (command.Finish c.args.id) granted.Done (progress_of c.begin.new.step) (progress_of c.finish_call-from.new.step) (progress_of c.finish_call-from.new.step) c.in_ok-begin.ensures.begun c.finish_call-from.ensures.acts (NoneLeft (ap (λ (p : Progress). p.arisen) calm))
