-- What the program prints for the word `pair`, with which status, and why it doesn't (docs/trace.md, "The program").
use Rattle.std.specs.Prelude.{ℕ, ◌≡◌, ◌⊎◌, Option, List}
use Rattle.rpc_check.specs.declared.verdict.Verdict.{Verdict}
use Rattle.vat_trace_lib.specs.declared.fault.ScriptFault.{ScriptFault}
use Rattle.program_files.specs.declared.fault.ProgramFailure.TheVariants as program
use Rattle.vat_trace_lib.specs.declared.fault.Failure.{Failure}
use Rattle.vat_trace_lib.specs.declared.fault.Failure.TheVariants as failure
use Rattle.program_files.specs.Texts.{IsInput}
use Rattle.vat_trace_lib.specs.Failures.{ReadFails, of_script}
use Rattle.vat_trace.specs.Printed.{PrintsPair, FaultsPair}

-- The trace of the script that the input is: its verdict is good, so nothing is said of it, and the status is 0.
pub record PairsTo (input text : List ℕ) (status : ℕ) : Type 0 where
  pub verdict : Verdict
  pub prints : PrintsPair input text verdict
  pub status_is : status ≡ 0

-- Why a script has no trace: its fault.
abbrev pub PairFails : List ℕ → Failure → Type 0
PairFails input why = (fault : ScriptFault) × FaultsPair input fault × (why ≡ of_script fault)

-- There is a trace, and the output fails.
abbrev pub OutputFails : Option (List ℕ) → Failure → Type 0
OutputFails bytes why =
    (why ≡ failure.Program program.Unwritten) × (input : List ℕ) × IsInput bytes input × (text : List ℕ) × (status : ℕ) × PairsTo input text status

-- Why the program does not do what it was asked: the file, the script, or the output.
abbrev pub Fails : Option (List ℕ) → Failure → Type 0
Fails bytes why = ReadFails bytes why ⊎ (((input : List ℕ) × IsInput bytes input × PairFails input why) ⊎ OutputFails bytes why)
