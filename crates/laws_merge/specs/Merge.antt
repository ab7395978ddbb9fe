-- The merge of two logs, over entries of any kind (docs/threads.md, "The merge").
use Rattle.std.specs.Prelude.{ℕ, ◌+◌, Bool, true, false, List, [], ◌∷◌, Option, None, Some, nat_lt, cond}
use Rattle.laws_merge.specs.declared.merge.OneOf.{OneOf}
use Rattle.laws_merge.specs.declared.merge.OneOf.TheVariants.{First, Second}

-- Whether an entry that received the frame of this number, if any, can come once the other side has made k frames.
abbrev pub ready : Option ℕ → ℕ → Bool
ready None k = true
ready (Some seq) k = nat_lt seq k

-- Whether the merge takes the first log's next entry.
abbrev pub takes_first : {P Q : Type 0} → (P → Option ℕ) → ℕ → List P → List Q → Bool
takes_first waits k [] ys = false
takes_first waits k (a ∷ xs) [] = true
takes_first waits k (a ∷ xs) (b ∷ ys) = ready (waits a) k

-- The next entry of the first log where it can come, else the next of the second. waits: the number of the frame
-- that an entry received; makes: how many frames an entry made; k: how many the second side has made so far.
abbrev pub merge : {P Q : Type 0} → (P → Option ℕ) → (Q → ℕ) → ℕ → List P → List Q → List (OneOf P Q)
merge waits makes k [] [] = []
merge waits makes k [] (b ∷ ys) = Second b ∷ merge waits makes (k + makes b) [] ys
merge waits makes k (a ∷ xs) [] = First a ∷ merge waits makes k xs []
merge waits makes k (a ∷ xs) (b ∷ ys) =
    cond (ready (waits a) k) (First a ∷ merge waits makes k xs (b ∷ ys)) (Second b ∷ merge waits makes (k + makes b) (a ∷ xs) ys)

-- The entries of the first log, in order.
abbrev pub firsts : {P Q : Type 0} → List (OneOf P Q) → List P
firsts [] = []
firsts (First a ∷ es) = a ∷ firsts es
firsts (Second b ∷ es) = firsts es

-- The entries of the second log, in order.
abbrev pub seconds : {P Q : Type 0} → List (OneOf P Q) → List Q
seconds [] = []
seconds (First a ∷ es) = seconds es
seconds (Second b ∷ es) = b ∷ seconds es

-- What an entry stands for, where f and g say it of the two logs.
abbrev pub view_by : {P Q V W : Type 0} → (P → V) → (Q → W) → OneOf P Q → OneOf V W
view_by f g (First a) = First (f a)
view_by f g (Second b) = Second (g b)
