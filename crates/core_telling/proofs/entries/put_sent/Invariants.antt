use Rattle.std.proofs.Common.{◌≡◌, ◌≤◌, ◌+◌, ◌++◌, take, map}
use Rattle.rpc_journal.specs.declared.entry.JournalEntry.TheVariants as entry
use Rattle.core_telling.proofs.entries.put_sent.Given as goal

abbrev pub invariant-loop-message : goal.invariant-loop-message
invariant-loop-message l = (l.journal.0 ≡ l.fn.journal.0 ++ map (entry.Sent l.vat) (take l.message-index l.messages)) × (l.fn.journal.1 ≤ l.journal.1 + l.message-index)
