use Rattle.std.proofs.Common.{arith}
use Rattle.capn_fronts.proofs.Held.{few_kept}
use Rattle.capn_fronts.proofs.reader.FrontReader.waiting.Goals as goal

pub returns-clause-most : goal.returns-clause-most
returns-clause-most c = let h = few_kept (record { kept = c.self.inside.kept.items; dropped = c.self.inside.dropped }) c.self.invariant in omega arith
