use Rattle.std.proofs.lemmas.Result.{err_from_is_err_and}
use Rattle.capn_wire.proofs.payload.Payload.of_bytes.Goals as goal

pub returns-in_err-copy : goal.returns-in_err-copy
returns-in_err-copy c = rw (err_from_is_err_and c.from_residual.result c.from_residual.ensures.1).1 tt
