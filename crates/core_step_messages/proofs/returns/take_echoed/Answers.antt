use Rattle.std.proofs.Common.{ap, arith}
use Rattle.std.proofs.lemmas.Result.{on_ok_weaker}
use Rattle.rpc_machine.specs.declared.entries.Returned.TheVariants as back
use Rattle.rpc_machine.specs.State.{State}
use Rattle.rpc_machine.specs.Progress.{Progress, with_state}
use Rattle.core_store_tables.specs.Peer.{question_waived}
use Rattle.core_store.specs.Holding.{state_of}
use Rattle.core_step.specs.InProgress.{progress_of}
use Rattle.core_step_messages.proofs.BackComing.{takes_echoed}
use Rattle.core_step_messages.proofs.Readied.{ready_changed}
use Rattle.core_step_messages.proofs.returns.take_echoed.Goals as goal

pub come_back-requires : goal.come_back-requires
come_back-requires c =
    let left = c.waive.ensures.left in record {
      ready = ready_changed c.obey_for_question.new.step c.waive.new.store c.args.id.0 question_waived c.in_ok-obey_for_question.ensures.ready c.waive.ensures.sound (omega (arith, left)) c.waive.ensures.state;
    }

pub returns-clause-takes : goal.returns-clause-takes
returns-clause-takes c =
    let m : Progress = progress_of c.obey_for_question.new.step in
    on_ok_weaker c.come_back.result
    (λ h. takes_echoed (progress_of c.args.step.now) m (with_state m (state_of c.waive.new.store)) c.args.id.0 (back.Exception c.in_ok-exception.exception) (progress_of c.come_back.new.step)
    c.in_ok-obey_for_question.ensures.state (ap (λ (t : State). with_state m t) c.waive.ensures.state) (ap back.Exception c.in_ok-exception.ensures.said) h)
    c.come_back.ensures.comes
