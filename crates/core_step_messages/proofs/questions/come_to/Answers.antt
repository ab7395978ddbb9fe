use Rattle.core_step_messages.proofs.Readied.{ready_forgotten}
use Rattle.core_step_messages.proofs.questions.come_to.Goals as goal

pub returns-in-Sent-clause-ready : goal.returns-in-Sent-clause-ready
returns-in-Sent-clause-ready c = ready_forgotten c.args.step.now c.forget_question.new.store c.args.id.0 c.requires.ready c.forget_question.ensures.sound c.forget_question.ensures.left c.forget_question.ensures.state
