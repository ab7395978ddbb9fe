-- Where an answer is named on the way to its vat.
use Rattle.std.specs.Prelude.{List, [], ◌∷◌, ◌++◌}
use Rattle.laws_runs.specs.Questions.{Asker, NotAsked, Asked, Back, Early, Odd, Answerer, NotOpen, Working, Unwanted, Answered, Strange, Out, Ret, Row, Returns, hear_one}

-- On the way to the answerer: the messages of the session, and each target or descriptor that names its answer.
pub data Mark (X Y : Type 0) : Type 0 where
  Says : (m : Out X Y) → Mark X Y
  Names : Mark X Y

abbrev pub outs : {X Y : Type 0} → List (Mark X Y) → List (Out X Y)
outs [] = []
outs (Says m ∷ ms) = m ∷ outs ms
outs (Names ∷ ms) = outs ms

-- It is open, and not finished.
abbrev pub IsHere : {X Y : Type 0} → Answerer X Y → Type 0
IsHere NotOpen = ⊥
IsHere (Working x) = Unit {0}
IsHere (Unwanted x) = ⊥
IsHere (Answered y) = Unit {0}
IsHere Strange = ⊥

-- Each name finds it so.
abbrev pub Met : {X Y : Type 0} → Answerer X Y → List (Mark X Y) → Type 0
Met u [] = Unit {0}
Met u (Says m ∷ ms) = Met (hear_one u m) ms
Met u (Names ∷ ms) = IsHere u × Met u ms

-- The asker names it while it has not finished.
abbrev pub IsAsking : {X Y : Type 0} → Asker X Y → Type 0
IsAsking NotAsked = ⊥
IsAsking (Asked x) = Unit {0}
IsAsking (Back y) = Unit {0}
IsAsking (Early x) = ⊥
IsAsking Odd = ⊥

pub record NamesAreMet (X Y : Type 0) : Type 0 where
  pub names : (v : Asker X Y) (ms : List (Mark X Y)) (u : Answerer X Y) (back : List (Ret X Y)) → Row v (outs ms) u back → IsAsking v → Met u ms → Met u (ms ++ Names ∷ [])
  pub sends : (u : Answerer X Y) (ms : List (Mark X Y)) (m : Out X Y) → Met u ms → Met u (ms ++ Says m ∷ [])
  pub returns : (v : Asker X Y) (ms : List (Mark X Y)) (u x : Answerer X Y) (m : Ret X Y) (back : List (Ret X Y)) → Row v (outs ms) u back → Returns u m x → Met u ms → Met x ms
  pub heard : (u : Answerer X Y) (m : Out X Y) (ms : List (Mark X Y)) → Met u (Says m ∷ ms) → Met (hear_one u m) ms
  pub named : (u : Answerer X Y) (ms : List (Mark X Y)) → Met u (Names ∷ ms) → IsHere u × Met u ms
