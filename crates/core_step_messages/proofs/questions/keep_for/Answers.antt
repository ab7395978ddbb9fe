use Rattle.std.proofs.Common.{ap, subst, ◌∙◌, arith}
use Rattle.std.proofs.lemmas.Result.{on_ok_weaker}
use Rattle.rpc_machine.specs.declared.calls.Value.{Value}
use Rattle.rpc_machine.specs.Lists.{update}
use Rattle.rpc_machine.specs.Progress.{Progress, with_state}
use Rattle.rpc_machine.specs.Messages.{ComesFor}
use Rattle.rpc_machine.specs.State.{State}
use Rattle.core_store_tables.specs.Peer.{question_said}
use Rattle.core_store.specs.Holding.{state_of}
use Rattle.core_step.specs.InProgress.{progress_of}
use Rattle.core_step_messages.proofs.BackComing.{keeps}
use Rattle.core_step_messages.proofs.Readied.{ready_changed}
use Rattle.core_step_messages.proofs.questions.keep_for.Goals as goal

pub come_for-requires-clause-ready : goal.come_for-requires-clause-ready
come_for-requires-clause-ready c =
    let left = c.set_returned.ensures.left in
    ready_changed c.reserve.new.step c.set_returned.new.store c.args.id.0 (question_said c.args.said) c.in_ok-reserve.ensures.ready c.set_returned.ensures.sound (omega (arith, left)) c.set_returned.ensures.state

pub returns-clause-keeps : goal.returns-clause-keeps
returns-clause-keeps c =
    let p : Progress = progress_of c.args.step.now in
    let r : Progress = progress_of c.reserve.new.step in
    let q = c.args.id.0 in
    let is = ap (λ (t : State). with_state r t) c.set_returned.ensures.state
    ∙ ap (λ (d : Progress). with_state d (record (d.state) { questions = update d.state.questions q (question_said c.args.said) })) c.in_ok-reserve.ensures.same in
    on_ok_weaker c.come_for.result
    (λ h. keeps p (with_state r (state_of c.set_returned.new.store)) q c.args.said c.args.role (progress_of c.come_for.new.step) is c.requires.there c.requires.role
    (subst (λ (v : Value). ComesFor (with_state r (state_of c.set_returned.new.store)) c.args.role v (progress_of c.come_for.new.step)) c.in_ok-value.ensures h))
    c.come_for.ensures.comes
