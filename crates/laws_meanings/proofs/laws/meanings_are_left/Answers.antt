use Rattle.laws_meanings.proofs.Left.{objects_left, answers_left}
use Rattle.laws_meanings.proofs.laws.meanings_are_left.Goals as goal

pub returns-clause-objects : goal.returns-clause-objects
returns-clause-objects c = objects_left c.calls_are_as_made.ensures.delivered c.given_references_are_new.ensures

pub returns-clause-answers : goal.returns-clause-answers
returns-clause-answers c = answers_left c.given_references_are_new.ensures c.ends_are_first.ensures
