use Rattle.std.proofs.Common.{◌≡◌, ◌≤◌, ◌+◌, ◌++◌, take, map}
use Rattle.rpc_journal.specs.declared.entry.JournalEntry.TheVariants as entry
use Rattle.core_telling.proofs.entries.put_delivered.Given as goal

abbrev pub invariant-loop-delivery : goal.invariant-loop-delivery
invariant-loop-delivery l = (l.journal.0 ≡ l.fn.journal.0 ++ map (entry.Delivered l.vat) (take l.delivery-index l.deliveries)) × (l.fn.journal.1 ≤ l.journal.1 + l.delivery-index)
