-- The lines of a whole script (docs/script.md, "Lines").
use Rattle.std.specs.Prelude.{ℕ, ◌≡◌, ◌+◌, ◌==◌, false, Result, Ok, Err, List, [], ◌∷◌, ◌++◌}
use Rattle.std.specs.List.{slice_split}
use Rattle.std.specs.Str.{IsUtf8}
use Rattle.script_language.specs.declared.line.Line.{Line}
use Rattle.script_language.specs.declared.line.Program.{Program}
use Rattle.script_language.specs.declared.fault.LineFault.{LineFault}
use Rattle.script_language.specs.declared.fault.ScriptFault.{ScriptFault}
use Rattle.script_language.specs.declared.fault.ScriptFault.TheVariants as fault
use Rattle.script_language.specs.Lines.{line_of, is_skipped}

-- A line with that number, and those behind it; the fault of the first that is at fault, with its number.
abbrev pub line_and : Result Line LineFault → ℕ → Result (List Line) (ℕ × LineFault) → Result (List Line) (ℕ × LineFault)
line_and (Err e) n rest = Err (n, e)
line_and (Ok l) n (Err f) = Err f
line_and (Ok l) n (Ok ls) = Ok (l ∷ ls)

-- What the texts say, the first of which has that number.
abbrev pub lines_from : Program → ℕ → List (List ℕ) → Result (List Line) (ℕ × LineFault)
lines_from p n [] = Ok []
lines_from p n (text ∷ texts) = line_and (line_of p text) n (lines_from p (n + 1) texts)

-- The texts of a script's lines, which newlines part.
abbrev pub texts_of : List ℕ → List (List ℕ)
texts_of script = slice_split (λ c. c == 10) script

-- The words of a line, where it says anything.
abbrev pub AreWordsOf : List ℕ → List (List ℕ) → Type 0
AreWordsOf line words = is_skipped line ≡ false → words ≡ slice_split (λ c. c == 32) line

-- What a reader answers of texts that say this: the same, unless memory runs out.
abbrev pub ReadsLines : Result (List Line) (ℕ × LineFault) → Result (List Line) ScriptFault → Type 0
ReadsLines said (Ok lines) = said ≡ Ok lines
ReadsLines said (Err (fault.Line n e)) = said ≡ Err (n, e)
ReadsLines said (Err fault.NotText) = ⊥
ReadsLines said (Err fault.Memory) = Unit {0}

-- The same of a script's bytes, with line numbers from 1.
abbrev pub ReadsScript : Program → List ℕ → Result (List Line) ScriptFault → Type 0
ReadsScript p script (Ok lines) = IsUtf8 script × (lines_from p 1 (texts_of script) ≡ Ok lines)
ReadsScript p script (Err (fault.Line n e)) = IsUtf8 script × (lines_from p 1 (texts_of script) ≡ Err (n, e))
ReadsScript p script (Err fault.NotText) = IsUtf8 script → ⊥
ReadsScript p script (Err fault.Memory) = Unit {0}

-- A line was read, and stands behind those before it.
abbrev pub IsAdded : Result Line LineFault → List Line → List Line → Type 0
IsAdded (Ok line) before after = after ≡ before ++ line ∷ []
IsAdded (Err e) before after = ⊥

-- The line with that number is at fault, unless memory ran out.
abbrev pub IsAtFault : Result Line LineFault → ℕ → ScriptFault → Type 0
IsAtFault said n (fault.Line m e) = (m ≡ n) × (said ≡ Err e)
IsAtFault said n fault.NotText = ⊥
IsAtFault said n fault.Memory = Unit {0}
