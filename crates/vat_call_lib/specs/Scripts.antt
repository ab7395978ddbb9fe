-- The lines of a script for one vat, and what can be wrong with them (docs/script.md, "A client by a script").
use Rattle.std.specs.Prelude.{ℕ, ◌≡◌, ◌+◌, Bool, false, Option, Some, Result, Ok, Err, List, [], ◌∷◌, ◌++◌, take}
use Rattle.std.specs.List.{position}
use Rattle.std.specs.Str.{IsUtf8}
use Rattle.rpc_msg.specs.declared.ids.Vat.TheVariants.{B}
use Rattle.rpc_journal.specs.History.{same_vat}
use Rattle.script_language.specs.declared.fault.NameFault.{NameFault}
use Rattle.script_language.specs.declared.line.Line.{Line}
use Rattle.script_language.specs.declared.line.Line.TheVariants as line
use Rattle.script_language.specs.declared.line.Program.TheVariants.{Pair}
use Rattle.script_language.specs.declared.names.Names.{Names}
use Rattle.script_language.specs.Acting.{act_for}
use Rattle.script_language.specs.Scripts.{lines_from, texts_of}
use Rattle.vat_call_lib.specs.declared.failure.BrokenOff.TheVariants as broken
use Rattle.vat_call_lib.specs.declared.failure.Failure.{Failure}
use Rattle.vat_call_lib.specs.declared.failure.Failure.TheVariants as failure

-- It is a line of vat b.
abbrev pub is_other : Line → Bool
is_other line.Skip = false
is_other (line.Deliver v) = same_vat v B
is_other (line.Turn v) = same_vat v B
is_other line.Tables = false
is_other (line.Take v l) = same_vat v B
is_other (line.Got v l) = same_vat v B
is_other (line.Command v said) = same_vat v B

-- The bytes of a script are text, and its lines say this: those of a script for two threads.
abbrev pub Says : List ℕ → List Line → Type 0
Says script lines = IsUtf8 script × (lines_from Pair 1 (texts_of script) ≡ Ok lines)

-- The line with that number, counted from 1.
abbrev pub IsLine : List Line → ℕ → Line → Type 0
IsLine lines number x = (i : ℕ) × (number ≡ i + 1) × (take (i + 1) lines ≡ take i lines ++ x ∷ [])

-- where the first line of vat b stands, counted from 0
abbrev pub first_other : List Line → Option ℕ
first_other lines = position is_other lines

-- Why a script has no lines for vat a.
abbrev pub HasNoLines : List ℕ → Failure → Type 0
HasNoLines script failure.NotText = ¬ IsUtf8 script
HasNoLines script (failure.Line number f) = IsUtf8 script × (lines_from Pair 1 (texts_of script) ≡ Err (number, f))
HasNoLines script (failure.OtherVat number) = (lines : List Line) × Says script lines × (i : ℕ) × (first_other lines ≡ Some i) × (number ≡ i + 1)
HasNoLines script (failure.Unnamed number f) = ⊥
HasNoLines script (failure.BrokenOff broken.Memory) = Unit {0}
HasNoLines script (failure.BrokenOff broken.Unread) = ⊥
HasNoLines script (failure.BrokenOff broken.Unwritten) = ⊥
HasNoLines script (failure.BrokenOff broken.Untold) = ⊥

-- The line names something that is not there when its turn comes, and that is the fault.
abbrev pub IsUnnamed : Line → NameFault → Type 0
IsUnnamed line f = (names : Names) × (act_for names line ≡ Err f)

-- Why the line with that number is not played.
abbrev pub StopsAt : ℕ → Line → Failure → Type 0
StopsAt at line failure.NotText = ⊥
StopsAt at line (failure.Line number f) = ⊥
StopsAt at line (failure.OtherVat number) = ⊥
StopsAt at line (failure.Unnamed number f) = (number ≡ at) × IsUnnamed line f
StopsAt at line (failure.BrokenOff why) = Unit {0}

-- Why lines are not played to their end.
abbrev pub Stops : List Line → Failure → Type 0
Stops lines failure.NotText = ⊥
Stops lines (failure.Line number f) = ⊥
Stops lines (failure.OtherVat number) = ⊥
Stops lines (failure.Unnamed number f) = (x : Line) × IsLine lines number x × IsUnnamed x f
Stops lines (failure.BrokenOff why) = Unit {0}
