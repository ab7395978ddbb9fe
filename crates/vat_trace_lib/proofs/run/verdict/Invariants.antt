use Rattle.std.proofs.Common.{◌∷◌, take}
use Rattle.rpc_journal.specs.declared.entry.JournalEntry.TheVariants as entry
use Rattle.rpc_check.specs.Kept.{HasTaken}
use Rattle.vat_trace_lib.proofs.run.verdict.Given as goal

abbrev pub invariant-loop-entry : goal.invariant-loop-entry
invariant-loop-entry l = HasTaken l.checker (entry.Head ∷ take l.entry-index l.journal)
