-- Why the program does not draw, what it says of it, and its status (docs/trace.md, "A picture of a trace").
use Rattle.std.specs.Prelude.{ℕ, ◌≡◌, ◌⊎◌, Option, Result, Ok, Err, List, [], ◌∷◌, ◌++◌, codes, decimal}
use Rattle.program_files.specs.declared.fault.ProgramFailure.{ProgramFailure}
use Rattle.program_files.specs.declared.fault.ProgramFailure.TheVariants as program
use Rattle.program_files.specs.Failures.{said_of as program_said_of}
use Rattle.program_files.specs.Texts.{IsInput, HasNoText}
use Rattle.trace_json.specs.Faults.{number_of_fault}
use Rattle.trace_file.specs.declared.fault.FileFault.{FileFault}
use Rattle.trace_file.specs.declared.fault.FileFault.TheVariants as file
use Rattle.trace_file.specs.Faults.{IsFileFault}
use Rattle.trace_chart_lib.specs.declared.fault.Failure.{Failure}
use Rattle.trace_chart_lib.specs.declared.fault.Failure.TheVariants as failure
use Rattle.trace_chart_lib.specs.Drawn.{IsSomeTrace}

-- What is said of the faults of a trace.
abbrev pub of_file : FileFault → Failure
of_file file.Memory = failure.Program program.Memory
of_file (file.Line number fault) = failure.Line number fault

-- Why a file has no text.
abbrev pub ReadFails : Option (List ℕ) → Failure → Type 0
ReadFails bytes why = (given : ProgramFailure) × HasNoText bytes given × (why ≡ failure.Program given)

-- Why a text has no picture: its fault.
abbrev pub TextFails : List ℕ → Failure → Type 0
TextFails text why = (fault : FileFault) × IsFileFault text fault × (why ≡ of_file fault)

-- There is a picture, and the output fails.
abbrev pub OutputFails : Option (List ℕ) → Failure → Type 0
OutputFails bytes why = (why ≡ failure.Program program.Unwritten) × (input : List ℕ) × IsInput bytes input × IsSomeTrace input

-- Why a file is not drawn.
abbrev pub Fails : Option (List ℕ) → Failure → Type 0
Fails bytes why = ReadFails bytes why ⊎ (((input : List ℕ) × IsInput bytes input × TextFails input why) ⊎ OutputFails bytes why)

-- What is written where help is asked for.
abbrev pub help_text : List ℕ
help_text = codes "usage: trace_chart FILE [--ref V/N] [--from N] [--to N]\n\nDraws a trace as a sequence diagram, in SVG on standard output. Without a word the trace is\nread from standard input.\n\n  --ref V/N   what is of reference N of vat V (a or b) stands out\n  --from N    the first entry that is drawn, counted as the trace's lines are\n  --to N      the last one; without it 60 entries are drawn\n\nThe status is 0, or 2 where nothing is drawn.\n"

-- What is said of a failure if the file has that name.
abbrev pub said_of : List ℕ → Failure → List ℕ
said_of name (failure.Program given) = program_said_of (codes "usage: trace_chart FILE [--ref V/N] [--from N] [--to N]") name given
said_of name (failure.Line number fault) = codes "trace line " ++ (decimal number ++ (codes ": fault " ++ (decimal (number_of_fault fault) ++ 10 ∷ [])))

-- 2 where it does not draw.
abbrev pub status_of : Result Unit Failure → ℕ
status_of (Ok u) = 0
status_of (Err why) = 2
