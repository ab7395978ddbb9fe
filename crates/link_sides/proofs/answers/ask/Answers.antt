use Rattle.core_telling.proofs.Answering.{answers_known}
use Rattle.link_sides.proofs.Answering.{loud}
use Rattle.link_sides.proofs.answers.ask.Goals as goal

pub returns-in-Host-clause-answers : goal.returns-in-Host-clause-answers
returns-in-Host-clause-answers c = answers_known _ _ _ _ _ c.in-Host.is c.ask_host.ensures.answers

pub returns-in-CloneRef-clause-answers : goal.returns-in-CloneRef-clause-answers
returns-in-CloneRef-clause-answers c = answers_known _ _ _ _ _ c.in-CloneRef.is c.ask_clone_ref.ensures.answers

pub returns-in-Field-clause-answers : goal.returns-in-Field-clause-answers
returns-in-Field-clause-answers c = answers_known _ _ _ _ _ c.in-Field.is c.ask_field.ensures.answers

pub returns-in-Promise-clause-answers : goal.returns-in-Promise-clause-answers
returns-in-Promise-clause-answers c = answers_known _ _ _ _ _ c.in-Promise.is c.ask_promise.ensures.answers

pub returns-in_default : goal.returns-in_default
returns-in_default c = record {
  answers = c.command.ensures.answers;
  says = loud c.args.command _ c.in_default.not-Host c.in_default.not-CloneRef c.in_default.not-Field c.in_default.not-Promise;
}
