use Rattle.laws_wires.proofs.AnswersLeft.{acts_leave_answers, finished_answers_wait}
use Rattle.laws_wires.proofs.SessionsLeft.{commands_leave_sessions, messages_leave_sessions}
use Rattle.laws_wires.proofs.scenes.answers_are_left.Goals as goal

pub returns-clause-acts : goal.returns-clause-acts
returns-clause-acts c = acts_leave_answers

pub returns-clause-finished : goal.returns-clause-finished
returns-clause-finished c = finished_answers_wait

pub returns-clause-commands : goal.returns-clause-commands
returns-clause-commands c = commands_leave_sessions

pub returns-clause-messages : goal.returns-clause-messages
returns-clause-messages c = messages_leave_sessions
