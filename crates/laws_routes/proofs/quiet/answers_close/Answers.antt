use Rattle.laws_routes.proofs.AnswerCloses.{finish_taken, return_closes}
use Rattle.laws_routes.proofs.quiet.answers_close.Goals as goal

pub returns-clause-sent : goal.returns-clause-sent
returns-clause-sent c = return_closes

pub returns-clause-taken : goal.returns-clause-taken
returns-clause-taken c = finish_taken
