use Rattle.std.proofs.Common.{inl, List, None, sym, ap, ◌∙◌}
use Rattle.std.proofs.lemmas.Result.{on_ok_weaker}
use Rattle.rpc_msg.specs.declared.parts.Descriptor.{Descriptor}
use Rattle.rpc_machine.specs.State.{State}
use Rattle.rpc_machine.specs.Progress.{Progress, with_state, export_ids}
use Rattle.rpc_machine.specs.Descriptors.{read_all, take_all, taken_of}
use Rattle.rpc_machine.specs.Faults.{descriptors_fault}
use Rattle.core_store.specs.Holding.{state_of}
use Rattle.core_step.specs.InProgress.{progress_of}
use Rattle.core_step_messages.proofs.Opened.{call_fault, is_new, opens_call}
use Rattle.core_step_messages.proofs.calls.take_call.Goals as goal

pub open_for-requires-clause-new : goal.open_for-requires-clause-new
open_for-requires-clause-new c =
    let s : State = state_of c.args.step.now.store in
    let is = ap (λ (p : Progress). p.state) c.in_ok-take_descriptors.ensures.state ∙ ap (λ (ds : List Descriptor). take_all s ds) (c.deref-6.ensures.value ∙ c.deref-5.ensures) in
    is_new s (state_of c.take_descriptors.new.step.store) c.args.call c.in_ok-fault_before_call.ensures.ok is

pub returns-in-Ok-fault_behind_call-clause-none : goal.returns-in-Ok-fault_behind_call-clause-none
returns-in-Ok-fault_behind_call-clause-none c =
    let s : State = state_of c.args.step.now.store in
    let t : State = state_of c.take_descriptors.new.step.store in
    let is = ap (λ (p : Progress). p.state) c.in_ok-take_descriptors.ensures.state ∙ ap (λ (ds : List Descriptor). take_all s ds) (c.deref-6.ensures.value ∙ c.deref-5.ensures) in
    let none = sym (ap (λ (ds : List Descriptor). descriptors_fault s ds) (c.deref-6.ensures.value ∙ c.deref-5.ensures)) ∙ c.in_ok-take_descriptors.ensures.none in
    let found = call_fault s t c.args.call None c.faults_in_parts.ensures.taken c.in_ok-fault_before_call.ensures.ok none is c.in-Ok-fault_behind_call.ensures.ok in
    on_ok_weaker c.open_for.result (λ h. found) c.open_for.ensures.opens

pub returns-in-Ok-fault_behind_call-clause-takes : goal.returns-in-Ok-fault_behind_call-clause-takes
returns-in-Ok-fault_behind_call-clause-takes c =
    let s : State = state_of c.args.step.now.store in
    let p : Progress = progress_of c.args.step.now in
    let is = c.in_ok-take_descriptors.ensures.state ∙ ap (λ (ds : List Descriptor). with_state p (take_all s ds)) (c.deref-6.ensures.value ∙ c.deref-5.ensures) in
    let ids = c.in-Ok.ensures ∙ ap (λ (ds : List Descriptor). export_ids (taken_of s ds)) (c.deref-2.ensures.value ∙ c.deref.ensures) in
    let heads = c.in-Ok-read_all.ensures ∙ ap (λ (ds : List Descriptor). read_all s ds) (c.deref-4.ensures.value ∙ c.deref-3.ensures) in
    on_ok_weaker c.open_for.result (λ h. opens_call p (progress_of c.take_descriptors.new.step) c.args.call c.in-Ok.taken c.in-Ok-read_all.caps c.target_node-target.result (progress_of c.open_for.new.step) is ids heads c.target_node-target.ensures h) c.open_for.ensures.opens

pub returns-in-Err-clause-fault : goal.returns-in-Err-clause-fault
returns-in-Err-clause-fault c =
    let s : State = state_of c.args.step.now.store in
    let t : State = state_of c.take_descriptors.new.step.store in
    let is = ap (λ (p : Progress). p.state) c.in_ok-take_descriptors.ensures.state ∙ ap (λ (ds : List Descriptor). take_all s ds) (c.deref-6.ensures.value ∙ c.deref-5.ensures) in
    let none = sym (ap (λ (ds : List Descriptor). descriptors_fault s ds) (c.deref-6.ensures.value ∙ c.deref-5.ensures)) ∙ c.in_ok-take_descriptors.ensures.none in
    inl (call_fault s t c.args.call _ c.faults_in_parts.ensures.taken c.in_ok-fault_before_call.ensures.ok none is c.in-Err.ensures.err)
