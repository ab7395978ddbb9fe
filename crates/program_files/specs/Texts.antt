-- What a reader gives, and why it gives no text.
use Rattle.std.specs.Prelude.{◌≡◌, ℕ, List, Option, IfSome}
use Rattle.std.specs.Str.{IsUtf8}
use Rattle.program_files.specs.declared.fault.ProgramFailure.{ProgramFailure}
use Rattle.program_files.specs.declared.fault.ProgramFailure.TheVariants as failure

-- What a reader gave: the bytes that it had, where these are known.
abbrev pub IsInput : Option (List ℕ) → List ℕ → Type 0
IsInput bytes input = IfSome bytes (λ b. input ≡ b)

-- Why a reader gives no text. Of a lack of memory and of a reader that fails nothing more can be said.
abbrev pub HasNoText : Option (List ℕ) → ProgramFailure → Type 0
HasNoText bytes failure.Memory = Unit {0}
HasNoText bytes failure.Unreadable = Unit {0}
HasNoText bytes failure.NotText = (input : List ℕ) × IsInput bytes input × ¬ IsUtf8 input
HasNoText bytes failure.Usage = ⊥
HasNoText bytes failure.Unwritten = ⊥
