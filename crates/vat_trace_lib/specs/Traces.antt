-- The trace of a script (docs/trace.md).
use Rattle.std.specs.Prelude.{ℕ, ◌≡◌, Option, Some, Ok, Err, List, ◌∷◌}
use Rattle.std.specs.Str.{IsUtf8}
use Rattle.rpc_msg.specs.declared.ids.ObjectId.{ObjectId}
use Rattle.rpc_journal.specs.declared.entry.JournalEntry.{JournalEntry}
use Rattle.rpc_journal.specs.declared.entry.JournalEntry.TheVariants as entry
use Rattle.trace_write.specs.declared.version.TraceVersion.TheVariants.{Two}
use Rattle.rpc_check.specs.declared.verdict.Verdict.{Verdict}
use Rattle.rpc_check.specs.Breaches.{verdict_of}
use Rattle.laws_verdicts.specs.Good.{IsGood}
use Rattle.trace_file.specs.Traces.{trace_text}
use Rattle.script_language.specs.declared.line.Line.{Line}
use Rattle.script_language.specs.declared.line.Program.TheVariants.{Run}
use Rattle.script_language.specs.declared.names.Names.{Names}
use Rattle.script_language.specs.Bindings.{no_names}
use Rattle.script_language.specs.Scripts.{texts_of, lines_from}
use Rattle.vat_world.specs.World.{Seen, new_seen, IsReached, KeepsPromises}
use Rattle.vat_trace_lib.specs.declared.fault.ScriptFault.{ScriptFault}
use Rattle.vat_trace_lib.specs.declared.fault.ScriptFault.TheVariants as fault
use Rattle.vat_trace_lib.specs.Playing.{Plays, IsUnnamedAt, noted}

-- Both vats have bootstrap object 0.
abbrev pub first_object : Option ObjectId
first_object = Some (record { 0 = 0 })

abbrev pub first_seen : Seen
first_seen = new_seen first_object first_object

-- The entries of a trace: the head, and a journal.
abbrev pub entries_of : Seen → List JournalEntry
entries_of w = entry.Head ∷ w.journal

-- The trace that the lines of a script print, and its verdict. What is printed is the journal of what the lines did, with
-- the counts at its end; a run of two new vats has that journal, and all is so that is promised of it; and its verdict is
-- good.
abbrev pub PrintsLines : List Line → List ℕ → Verdict → Type 0
PrintsLines lines text verdict =
    (w : Seen) × (names : Names) × Plays first_seen no_names lines w names × IsReached (noted w) × KeepsPromises (noted w)
    × (text ≡ trace_text Two (entries_of (noted w))) × (verdict ≡ verdict_of (entries_of (noted w))) × IsGood (entries_of (noted w))

-- Which fault they have.
abbrev pub FaultsLines : List Line → ScriptFault → Type 0
FaultsLines lines (fault.Unnamed number f) = IsUnnamedAt first_seen no_names lines number f
FaultsLines lines (fault.Line number f) = ⊥
FaultsLines lines fault.NotText = ⊥
FaultsLines lines fault.Memory = Unit {0}

-- The bytes of a script are text, and these are its lines.
abbrev pub SaysLines : List ℕ → List Line → Type 0
SaysLines script lines = IsUtf8 script × (lines_from Run 1 (texts_of script) ≡ Ok lines)

-- The trace that a script prints, and its verdict.
abbrev pub Prints : List ℕ → List ℕ → Verdict → Type 0
Prints script text verdict = (lines : List Line) × SaysLines script lines × PrintsLines lines text verdict

-- Which fault it has. The first line that is none is a fault before any line runs.
abbrev pub Faults : List ℕ → ScriptFault → Type 0
Faults script (fault.Line number f) = IsUtf8 script × (lines_from Run 1 (texts_of script) ≡ Err (number, f))
Faults script (fault.Unnamed number f) = (lines : List Line) × SaysLines script lines × FaultsLines lines (fault.Unnamed number f)
Faults script fault.NotText = ¬ IsUtf8 script
Faults script fault.Memory = Unit {0}
