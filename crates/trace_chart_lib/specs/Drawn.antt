-- Where the program draws (docs/trace.md, "A picture of a trace").
use Rattle.std.specs.Prelude.{ℕ, List}
use Rattle.rpc_journal.specs.declared.entry.JournalEntry.{JournalEntry}
use Rattle.trace_write.specs.declared.version.TraceVersion.{TraceVersion}
use Rattle.trace_file.specs.Traces.{IsTrace}

-- The text says entries, in either version.
abbrev pub IsSomeTrace : List ℕ → Type 0
IsSomeTrace text = (version : TraceVersion) × (entries : List JournalEntry) × IsTrace text version entries
