-- The lines of a trace (docs/trace.md, "Traces as files").
use Rattle.std.specs.Prelude.{ℕ, ◌==◌, List, [], ◌∷◌}
use Rattle.std.specs.List.{slice_split}

-- A text is a line where it is something.
abbrev pub if_something : List ℕ → List (List ℕ)
if_something [] = []
if_something (c ∷ cs) = (c ∷ cs) ∷ []

-- What stands behind the last newline is a line where it is something.
abbrev pub without_last_empty : List (List ℕ) → List (List ℕ)
without_last_empty [] = []
without_last_empty (t ∷ []) = if_something t
without_last_empty (t ∷ u ∷ ts) = t ∷ without_last_empty (u ∷ ts)

-- The lines are parted by newlines, and the last may lack its own.
abbrev pub lines_of : List ℕ → List (List ℕ)
lines_of trace = without_last_empty (slice_split (λ c. c == 10) trace)
