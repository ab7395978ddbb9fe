-- The lines of a script, read one after the other.
use Rattle.std.proofs.Common.{◌≡◌, ℕ, ◌+◌, List, [], ◌∷◌, ◌++◌, length, Option, Some, None, Result, Ok, Err, refl, sym, ap, subst, ◌∙◌, append_assoc, append-nil}
use Rattle.std.specs.Prelude.{IfSome, IfNone}
use Rattle.std.proofs.lemmas.List.{length-append}
use Rattle.script_language.specs.declared.line.Line.{Line}
use Rattle.script_language.specs.declared.line.Program.{Program}
use Rattle.script_language.specs.declared.fault.LineFault.{LineFault}
use Rattle.script_language.specs.declared.fault.ScriptFault.{ScriptFault}
use Rattle.script_language.specs.declared.fault.ScriptFault.TheVariants as fault
use Rattle.script_language.specs.Lines.{line_of}
use Rattle.script_language.specs.Scripts.{ReadsLines, IsAdded, IsAtFault, line_and, lines_from, texts_of}
use Rattle.script_language.proofs.Going.{behind}

abbrev pub Said : Type 0
Said = Result (List Line) (ℕ × LineFault)

gone : (before : List Line) (line : Line) (n : ℕ) (rest : Said) → behind (before ++ line ∷ []) rest ≡ behind before (line_and (Ok line) n rest)
gone before line n (Ok ls) = ap (λ (xs : List Line). Ok xs) (append_assoc before (line ∷ []) ls)
gone before line n (Err f) = refl

counted : (before : List Line) (line : Line) → length (before ++ line ∷ []) + 1 ≡ length before + 1 + 1
counted before line = ap (λ n. n + 1) (length-append before (line ∷ []))

added_to : (p : Program) (said : Result Line LineFault) (before after : List Line) (rest : List (List ℕ)) → IsAdded said before after
    → behind after (lines_from p (length after + 1) rest) ≡ behind before (line_and said (length before + 1) (lines_from p (length before + 1 + 1) rest))
added_to p (Ok line) before after rest e =
    ap (λ (xs : List Line). behind xs (lines_from p (length xs + 1) rest)) e
    ∙ ap (λ n. behind (before ++ line ∷ []) (lines_from p n rest)) (counted before line)
    ∙ gone before line (length before + 1) (lines_from p (length before + 1 + 1) rest)
added_to p (Err f) before after rest e = absurd e

-- Where a line was added, the others are to come.
pub more : (p : Program) (before after : List Line) (text : List ℕ) (rest : List (List ℕ)) (all : Said) → IsAdded (line_of p text) before after
    → behind before (lines_from p (length before + 1) (text ∷ rest)) ≡ all → behind after (lines_from p (length after + 1) rest) ≡ all
more p before after text rest all e h = added_to p (line_of p text) before after rest e ∙ h

-- Where the last one was added, they are all.
pub whole : (p : Program) (before after : List Line) (text : List ℕ) (all : Said) → IsAdded (line_of p text) before after
    → behind before (lines_from p (length before + 1) (text ∷ [])) ≡ all → ReadsLines all (Ok after)
whole p before after text all e h = sym (more p before after text [] all e h) ∙ ap (λ (xs : List Line). Ok xs) (append-nil after)

at_fault : (said : Result Line LineFault) (before : List Line) (n : ℕ) (rest all : Said) (f : ScriptFault) → IsAtFault said n f → behind before (line_and said n rest) ≡ all → ReadsLines all (Err f)
at_fault said before n rest all (fault.Line m e) g h =
    sym h ∙ ap (λ (s : Result Line LineFault). behind before (line_and s n rest)) g.1 ∙ ap (λ (k : ℕ). Err (k, e)) (sym g.0)
at_fault said before n rest all fault.NotText g h = absurd g
at_fault said before n rest all fault.Memory g h = tt

-- Where a line is at fault, it is the first.
pub fails : (p : Program) (before : List Line) (text : List ℕ) (rest : List (List ℕ)) (all : Said) (f : ScriptFault) → IsAtFault (line_of p text) (length before + 1) f
    → behind before (lines_from p (length before + 1) (text ∷ rest)) ≡ all → ReadsLines all (Err f)
fails p before text rest all f g h = at_fault (line_of p text) before (length before + 1) (lines_from p (length before + 1 + 1) rest) all f g h

-- The first line, and those behind it.
pub parted : (p : Program) (before : List Line) (script text : List ℕ) (rest : List (List ℕ)) (all : Said) → texts_of script ≡ text ∷ rest
    → behind before (lines_from p (length before + 1) (texts_of script)) ≡ all → behind before (lines_from p (length before + 1) (text ∷ rest)) ≡ all
parted p before script text rest all e h = sym (ap (λ (texts : List (List ℕ)). behind before (lines_from p (length before + 1) texts)) e) ∙ h

pub of_some : {X : Type 0} (P : X → Type 0) (o : Option X) (x : X) → IfSome o P → o ≡ Some x → P x
of_some P o x h e = subst (λ o. IfSome o P) e h

pub of_none : {X : Type 0} (P : Type 0) (o : Option X) → IfNone o P → o ≡ None → P
of_none P o h e = subst (λ o. IfNone o P) e h
