use Rattle.std.proofs.Common.{take}
use Rattle.rpc_check.specs.Kept.{HasTaken}
use Rattle.rpc_check.proofs.checker.check.Given as goal

abbrev pub invariant-loop-entry : goal.invariant-loop-entry
invariant-loop-entry l = HasTaken l.checker (take l.entry-index l.entries)
