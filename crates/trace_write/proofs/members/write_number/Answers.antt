use Rattle.std.proofs.Common.{arith}
use Rattle.trace_write.specs.Fits.{FitsU32}
use Rattle.trace_write.proofs.Results.{on_ok}
use Rattle.trace_write.proofs.members.write_number.Goals as goal

pub returns-clause-fits : goal.returns-clause-fits
returns-clause-fits c = let fits : FitsU32 c.args.number = omega (arith, c.ranges.number) in on_ok _ fits
