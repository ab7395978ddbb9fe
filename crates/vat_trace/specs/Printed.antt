-- The trace of a script for two threads (docs/script.md, "Two threads"; docs/trace.md).
use Rattle.std.specs.Prelude.{ℕ, ◌≡◌, Some, Ok, Err, List, ◌∷◌}
use Rattle.std.specs.Str.{IsUtf8}
use Rattle.rpc_journal.specs.declared.entry.JournalEntry.{JournalEntry}
use Rattle.rpc_journal.specs.declared.entry.JournalEntry.TheVariants as entry
use Rattle.trace_write.specs.declared.version.TraceVersion.TheVariants.{Two}
use Rattle.rpc_check.specs.declared.verdict.Verdict.{Verdict}
use Rattle.rpc_check.specs.Breaches.{verdict_of}
use Rattle.trace_file.specs.Traces.{trace_text}
use Rattle.laws_verdicts.specs.Good.{IsGood}
use Rattle.script_language.specs.declared.line.Line.{Line}
use Rattle.script_language.specs.declared.line.Program.TheVariants.{Pair as OnThreads}
use Rattle.script_language.specs.Scripts.{texts_of, lines_from}
use Rattle.script_language.specs.declared.fault.NameFault.{NameFault}
use Rattle.link_workers.specs.declared.worker_end.WorkerEnd.{WorkerEnd}
use Rattle.link_logs.specs.Promises.{Pair, IsTold}
use Rattle.vat_trace_lib.specs.declared.fault.ScriptFault.{ScriptFault}
use Rattle.vat_trace_lib.specs.declared.fault.ScriptFault.TheVariants as fault
use Rattle.vat_trace.specs.Pairs.{WorksFirst, noted}
use Rattle.vat_trace.specs.Judged.{line_at_fault, lower_of}

-- The entries of a trace: the head, the journal of both vats, and their counts.
abbrev pub entries_of : Pair → List JournalEntry → List JournalEntry
entries_of p journal = entry.Head ∷ noted p journal

-- The trace of two vats that were put side by side, and its verdict: the journal tells a run of two new vats which leads to where
-- both are, and all is so that is promised of it; and the verdict is good.
abbrev pub PrintsBoth : Pair → List ℕ → Verdict → Type 0
PrintsBoth p text verdict =
    (journal : List JournalEntry) × IsTold p journal
    × (text ≡ trace_text Two (entries_of p journal)) × (verdict ≡ verdict_of (entries_of p journal)) × IsGood (entries_of p journal)

-- Two new vats that both have bootstrap object 0 were worked by the lines, and have this trace.
abbrev pub PrintsLines : List Line → List ℕ → Verdict → Type 0
PrintsLines lines text verdict = (why_a : WorkerEnd) × (why_b : WorkerEnd) × (p : Pair) × WorksFirst lines why_a why_b p × PrintsBoth p text verdict

-- They were worked by the lines until one of these named something that is not there when its turn came (`IsFaultAt` of
-- `link_workers`); of two such lines this is the lower one.
abbrev pub IsUnnamedAt : List Line → ℕ → NameFault → Type 0
IsUnnamedAt lines number f =
    (why_a : WorkerEnd) × (why_b : WorkerEnd) × (p : Pair) × WorksFirst lines why_a why_b p
    × (lower_of (line_at_fault why_a) (line_at_fault why_b) ≡ Some (number, f))

-- Which fault lines have.
abbrev pub FaultsLines : List Line → ScriptFault → Type 0
FaultsLines lines (fault.Unnamed number f) = IsUnnamedAt lines number f
FaultsLines lines (fault.Line number f) = ⊥
FaultsLines lines fault.NotText = ⊥
FaultsLines lines fault.Memory = Unit {0}

-- The bytes of a script are text, and these are its lines.
abbrev pub SaysLines : List ℕ → List Line → Type 0
SaysLines script lines = IsUtf8 script × (lines_from OnThreads 1 (texts_of script) ≡ Ok lines)

-- The trace that a script prints, and its verdict.
abbrev pub PrintsPair : List ℕ → List ℕ → Verdict → Type 0
PrintsPair script text verdict = (lines : List Line) × SaysLines script lines × PrintsLines lines text verdict

-- Which fault it has. The first line that is none is a fault before any line is played.
abbrev pub FaultsPair : List ℕ → ScriptFault → Type 0
FaultsPair script (fault.Line number f) = IsUtf8 script × (lines_from OnThreads 1 (texts_of script) ≡ Err (number, f))
FaultsPair script (fault.Unnamed number f) = (lines : List Line) × SaysLines script lines × FaultsLines lines (fault.Unnamed number f)
FaultsPair script fault.NotText = ¬ IsUtf8 script
FaultsPair script fault.Memory = Unit {0}
