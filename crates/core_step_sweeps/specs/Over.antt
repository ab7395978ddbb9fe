-- The questions that are over, by their ids.
use Rattle.std.specs.Prelude.{◌≡◌, ℕ, ◌<◌, Option, None, Some, List, [], ◌∷◌}
use Rattle.std.specs.FinMap as map
use Rattle.finite_maps.specs.Tally.{Map}
use Rattle.rpc_msg.specs.declared.ids.QuestionId.{QuestionId}
use Rattle.rpc_machine.specs.declared.entries.Question.{Question}
use Rattle.rpc_machine.specs.Sweeping.{IsToFinish, Withers}
use Rattle.rpc_machine.specs.State.{State}
use Rattle.rpc_machine.specs.Progress.{Progress}

-- Each question has one of these ids, which rise.
abbrev pub IsAboveAll : ℕ → List QuestionId → Type 0
IsAboveAll below [] = Unit {0}
IsAboveAll below (q ∷ qs) = (below < q.0) × IsAboveAll q.0 qs

abbrev pub AreRising : List QuestionId → Type 0
AreRising [] = Unit {0}
AreRising (q ∷ qs) = IsAboveAll q.0 qs

-- The question of an id, beside its number.
abbrev pub beside : ℕ → Option Question → List (ℕ × Question) → List (ℕ × Question)
beside q None rest = rest
beside q (Some x) rest = (q, x) ∷ rest

-- The questions with these ids, as they stand.
abbrev pub standing : State → List QuestionId → List (ℕ × Question)
standing s [] = []
standing s (q ∷ qs) = beside q.0 (map.get s.questions q.0) (standing s qs)

-- These are the questions that are finished in a step from here on.
pub record AreOver (s : State) (ids : List QuestionId) : Type 0 where
  pub over : Map Question
  pub withers : (d : Progress) → d.state ≡ s → Withers d over
  pub entries : map.entries over ≡ standing s ids
  pub rising : AreRising ids

-- No other question can be over than this one, and it is over where it is to be finished.
pub record IsOnlyOver (s : State) (q : QuestionId) : Type 0 where
  pub over : IsToFinish s q.0 (map.get s.questions q.0) → AreOver s (q ∷ [])
  pub none : ¬ (IsToFinish s q.0 (map.get s.questions q.0)) → AreOver s []
