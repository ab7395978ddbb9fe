use Rattle.std.proofs.Common.{arith}
use Rattle.trace_write.proofs.Results.{both_on_ok}
use Rattle.trace_write.proofs.parts.write_answer_place.Goals as goal

pub returns-clause-fits : goal.returns-clause-fits
returns-clause-fits c = both_on_ok _ _ (omega arith) c.add_part.ensures.fits
