use Rattle.std.proofs.Common.{◌≡◌, ◌≤◌, ◌+◌, ◌++◌, take, map}
use Rattle.rpc_journal.specs.declared.entry.JournalEntry.TheVariants as entry
use Rattle.core_telling.proofs.entries.put_ended.Given as goal

abbrev pub invariant-loop-ended : goal.invariant-loop-ended
invariant-loop-ended l = (l.journal.0 ≡ l.fn.journal.0 ++ map (entry.Ended l.vat) (take l.ended-index l.answers)) × (l.fn.journal.1 ≤ l.journal.1 + l.ended-index)
