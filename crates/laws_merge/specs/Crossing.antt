-- Two logs that only the check of acks refuses (docs/threads.md, "Why acks are checked").
use Rattle.std.specs.Prelude.{ℕ, List, [], ◌∷◌}
use Rattle.laws_merge.specs.Machine.{Side, World, Event}
use Rattle.laws_merge.specs.Logs.{Frame, Received, Entry, received, made_by, Lawful, Acked, IsBeginningOf}
use Rattle.laws_merge.specs.Laws.{Interleaving}

-- A side that may do anything.
abbrev pub free : Side ℕ ℕ
free = record { State = Unit {0}; Command = Unit {0}; Note = Unit {0}; Step = λ old input note sends new. Unit {0} }

-- Both sides at their beginning, with nothing on its way.
abbrev pub nothing : World free free
nothing = record { a = tt; b = tt; to_a = []; to_b = [] }

-- The first frame of a side, which acknowledges one frame of the other.
abbrev pub reply : Frame ℕ
reply = record { seq = 0; ack = 1; message = 7 }

-- A log of one entry: it received the other's first frame, and made its own as it did.
abbrev pub crossing : List (Entry free)
crossing = record { cause = Received reply; note = tt; made = reply ∷ [] } ∷ []

-- Two such logs: each would have received first what the other makes only as it receives. Each is lawful, and what
-- each received is what the other made. But no order explains them, and the check of acks refuses them.
pub record AcksAreNeeded : Type 0 where
  pub lawful : Lawful free tt 0 0 crossing tt
  pub begins : IsBeginningOf (received crossing) (made_by crossing)
  pub refused : Acked 0 crossing → ⊥
  pub no_order : (events : List (Event free free)) (end : World free free) → Interleaving free free nothing crossing crossing events end → ⊥
