use Rattle.std.proofs.Common.{◌≡◌, ◌++◌, take}
use Rattle.link_logs.proofs.pieces.put_all.Given as goal

abbrev pub invariant-loop-entry : goal.invariant-loop-entry
invariant-loop-entry l = l.journal.items ≡ l.fn.journal.items ++ take l.entry-index l.entries
