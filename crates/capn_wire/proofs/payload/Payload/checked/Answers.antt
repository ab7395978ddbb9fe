use Rattle.std.proofs.lemmas.Result.{err_from_is_err_and}
use Rattle.capn_wire.proofs.payload.Payload.checked.Goals as goal

pub returns-in_err-visited_words-clause-found : goal.returns-in_err-visited_words-clause-found
returns-in_err-visited_words-clause-found c = rw (err_from_is_err_and c.from_residual.result c.from_residual.ensures.1).1 tt

pub returns-in_err-payload-clause-found : goal.returns-in_err-payload-clause-found
returns-in_err-payload-clause-found c = rw (err_from_is_err_and c.from_residual-in_err-payload.result c.from_residual-in_err-payload.ensures.1).1 tt
