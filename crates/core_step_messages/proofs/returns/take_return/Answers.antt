use Rattle.std.proofs.Common.{None, ap}
use Rattle.std.proofs.lemmas.Result.{on_ok_weaker}
use Rattle.rpc_machine.specs.State.{State}
use Rattle.rpc_machine.specs.Progress.{Progress}
use Rattle.core_store.specs.Holding.{state_of}
use Rattle.core_step.specs.InProgress.{progress_of}
use Rattle.core_step_messages.proofs.BackComing.{return_fault_is, takes_return}
use Rattle.core_step_messages.proofs.Opened.{stops_moved}
use Rattle.core_step_messages.proofs.returns.take_return.Goals as goal

pub returns-in-Ok-clause-none : goal.returns-in-Ok-clause-none
returns-in-Ok-clause-none c =
    let s : State = state_of c.args.step.now.store in
    let t : State = state_of c.take_body.new.step.store in
    let is = ap (λ (p : Progress). p.state) c.in_ok-returned.ensures.state in
    let found = return_fault_is s t c.args.said None c.in_ok-fault_before_return.ensures.ok c.in_ok-returned.ensures.none is c.in-Ok.ensures.none in
    on_ok_weaker c.come_back.result (λ h. found) c.come_back.ensures.comes

pub returns-in-Ok-clause-takes : goal.returns-in-Ok-clause-takes
returns-in-Ok-clause-takes c =
    on_ok_weaker c.come_back.result
    (λ h. takes_return (progress_of c.args.step.now) (progress_of c.take_body.new.step) (progress_of c.obey_for_question.new.step) c.args.said c.in_ok-returned.returned (progress_of c.come_back.new.step)
    c.in_ok-returned.ensures.state c.in-Ok.ensures.state c.in_ok-returned.ensures.said h)
    c.come_back.ensures.comes

pub returns-in-Err-clause-fault : goal.returns-in-Err-clause-fault
returns-in-Err-clause-fault c =
    let s : State = state_of c.args.step.now.store in
    let t : State = state_of c.take_body.new.step.store in
    let is = ap (λ (p : Progress). p.state) c.in_ok-returned.ensures.state in
    stops_moved _ _ c.in-Err.fault (λ g. return_fault_is s t c.args.said g c.in_ok-fault_before_return.ensures.ok c.in_ok-returned.ensures.none is) c.in-Err.ensures.fault
