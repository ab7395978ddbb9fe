-- Why the program does not do what it was asked, what it says of it, and its status (docs/trace.md, "Traces as files").
use Rattle.std.specs.Prelude.{ℕ, ◌≡◌, ◌⊎◌, Option, None, Some, Result, Ok, Err, List, [], ◌∷◌, ◌++◌, codes, decimal}
use Rattle.program_files.specs.declared.fault.ProgramFailure.{ProgramFailure}
use Rattle.program_files.specs.declared.fault.ProgramFailure.TheVariants as program
use Rattle.program_files.specs.Failures.{said_of as program_said_of}
use Rattle.program_files.specs.Texts.{IsInput, HasNoText}
use Rattle.trace_json.specs.Faults.{number_of_fault}
use Rattle.trace_file.specs.declared.fault.FileFault.{FileFault}
use Rattle.trace_file.specs.declared.fault.FileFault.TheVariants as file
use Rattle.trace_file.specs.Faults.{IsFileFault}
use Rattle.vat_trace_lib.specs.declared.fault.ScriptFault.{ScriptFault}
use Rattle.vat_trace_lib.specs.declared.fault.ScriptFault.TheVariants as script
use Rattle.vat_trace_lib.specs.declared.fault.Failure.{Failure}
use Rattle.vat_trace_lib.specs.declared.fault.Failure.TheVariants as failure
use Rattle.vat_trace_lib.specs.declared.words.Word.{Word}
use Rattle.vat_trace_lib.specs.declared.words.Word.TheVariants.{Run, Check, Show, Upgrade}
use Rattle.vat_trace_lib.specs.Traces.{Faults}
use Rattle.vat_trace_lib.specs.Answers.{Answers}

-- What is said of the faults of a script and of a trace.
abbrev pub of_script : ScriptFault → Failure
of_script script.Memory = failure.Program program.Memory
of_script script.NotText = failure.Program program.NotText
of_script (script.Line number f) = failure.Script number
of_script (script.Unnamed number f) = failure.Script number

abbrev pub of_file : FileFault → Failure
of_file file.Memory = failure.Program program.Memory
of_file (file.Line number fault) = failure.Trace number fault

-- Why a file has no text.
abbrev pub ReadFails : Option (List ℕ) → Failure → Type 0
ReadFails bytes why = (given : ProgramFailure) × HasNoText bytes given × (why ≡ failure.Program given)

-- Why a script is not played, and a text no trace: its fault.
abbrev pub ScriptFails : List ℕ → Failure → Type 0
ScriptFails text why = (fault : ScriptFault) × Faults text fault × (why ≡ of_script fault)

abbrev pub TraceFails : List ℕ → Failure → Type 0
TraceFails text why = (fault : FileFault) × IsFileFault text fault × (why ≡ of_file fault)

-- Why a word has no answer for an input.
abbrev pub InputFails : Word → List ℕ → Failure → Type 0
InputFails Run input why = ScriptFails input why
InputFails Check input why = TraceFails input why
InputFails Show input why = TraceFails input why
InputFails Upgrade input why = TraceFails input why

-- There is an answer, and the output fails.
abbrev pub OutputFails : Word → Option (List ℕ) → Failure → Type 0
OutputFails w bytes why =
    (why ≡ failure.Program program.Unwritten) × (input : List ℕ) × IsInput bytes input × (text : List ℕ) × (status : ℕ) × Answers w input text status

-- Why the program does not do what it was asked: another word, or else the file, what is in it, or the output.
abbrev pub Fails : Option Word → Option (List ℕ) → Failure → Type 0
Fails None bytes why = why ≡ failure.Program program.Usage
Fails (Some w) bytes why = ReadFails bytes why ⊎ (((input : List ℕ) × IsInput bytes input × InputFails w input why) ⊎ OutputFails w bytes why)

-- What is said of a failure if the file has that name.
abbrev pub said_of : List ℕ → Failure → List ℕ
said_of name (failure.Program given) = program_said_of (codes "usage: vat_trace run|pair|check|show|upgrade FILE") name given
said_of name (failure.Script number) = codes "script line " ++ (decimal number ++ (codes ": fault" ++ 10 ∷ []))
said_of name (failure.Trace number fault) = codes "trace line " ++ (decimal number ++ (codes ": fault " ++ (decimal (number_of_fault fault) ++ 10 ∷ [])))

-- 2 where it does not do what it was asked.
abbrev pub status_after : Result ℕ Failure → ℕ
status_after (Ok status) = status
status_after (Err why) = 2
