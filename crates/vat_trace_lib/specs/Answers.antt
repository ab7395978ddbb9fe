-- What the program prints for a word and an input, and its status (docs/trace.md, "The program").
use Rattle.std.specs.Prelude.{ℕ, ◌≡◌, List, []}
use Rattle.rpc_journal.specs.declared.entry.JournalEntry.{JournalEntry}
use Rattle.trace_write.specs.declared.version.TraceVersion.{TraceVersion}
use Rattle.trace_write.specs.declared.version.TraceVersion.TheVariants.{Two}
use Rattle.rpc_check.specs.declared.verdict.Verdict.{Verdict}
use Rattle.rpc_check.specs.declared.verdict.Verdict.TheVariants.{Good, Order, Unmatched, AfterDown, Count}
use Rattle.rpc_check.specs.Breaches.{verdict_of}
use Rattle.trace_file.specs.Traces.{IsTrace, trace_text}
use Rattle.trace_file.specs.Verdicts.{verdict_text}
use Rattle.trace_file.specs.Shown.{Shows}
use Rattle.vat_trace_lib.specs.declared.words.Word.{Word}
use Rattle.vat_trace_lib.specs.declared.words.Word.TheVariants.{Run, Check, Show, Upgrade}
use Rattle.vat_trace_lib.specs.Traces.{Prints}

-- 3 where an entry breaks a law.
abbrev pub status_of : Verdict → ℕ
status_of (Good n) = 0
status_of (Order n) = 3
status_of (Unmatched n) = 3
status_of (AfterDown n) = 3
status_of (Count n) = 3

-- What is said of a broken verdict behind its trace; of a good one nothing.
abbrev pub complaint : Verdict → List ℕ
complaint (Good n) = []
complaint (Order n) = verdict_text (Order n)
complaint (Unmatched n) = verdict_text (Unmatched n)
complaint (AfterDown n) = verdict_text (AfterDown n)
complaint (Count n) = verdict_text (Count n)

-- The trace of the script that the input is: its verdict is good, so nothing is said of it, and the status is 0.
abbrev pub RunsTo : List ℕ → List ℕ → ℕ → Type 0
RunsTo input text status = (verdict : Verdict) × Prints input text verdict × (status ≡ 0)

-- The verdict of the trace that the input is.
abbrev pub ChecksTo : List ℕ → List ℕ → ℕ → Type 0
ChecksTo input text status =
    (version : TraceVersion) × (es : List JournalEntry) × IsTrace input version es
    × (text ≡ verdict_text (verdict_of es)) × (status ≡ status_of (verdict_of es))

abbrev pub ShowsAs : List ℕ → List ℕ → ℕ → Type 0
ShowsAs input text status = (version : TraceVersion) × (es : List JournalEntry) × IsTrace input version es × Shows es text × (status ≡ 0)

abbrev pub UpgradesTo : List ℕ → List ℕ → ℕ → Type 0
UpgradesTo input text status = (version : TraceVersion) × (es : List JournalEntry) × IsTrace input version es × (text ≡ trace_text Two es) × (status ≡ 0)

-- What the program prints where it does what it was asked, and its status.
abbrev pub Answers : Word → List ℕ → List ℕ → ℕ → Type 0
Answers Run input text status = RunsTo input text status
Answers Check input text status = ChecksTo input text status
Answers Show input text status = ShowsAs input text status
Answers Upgrade input text status = UpgradesTo input text status
