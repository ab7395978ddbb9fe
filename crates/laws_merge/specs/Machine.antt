-- The pair machine: two sides with a state each, and the messages on their way between them, each link a queue
-- (docs/threads.md). It knows neither frames nor logs.
use Rattle.std.specs.Prelude.{◌≡◌, List, [], ◌∷◌, ◌++◌}

-- What happens at a side: a command, the end of its work, or a message that came.
pub data Input (C I : Type 0) : Type 0 where
  Command : C → Input C I
  Shut : Input C I
  Receive : I → Input C I

-- A side that receives messages of I and sends messages of O. From a state, on an input, a step gives a note (its
-- answer and its effects), the messages that it sends, and a state.
pub record Side (I O : Type 0) : Type 1 where
  pub State : Type 0
  pub Command : Type 0
  pub Note : Type 0
  pub Step : State → Input Command I → Note → List O → State → Type 0

-- The side with this step.
abbrev pub side : {I O S C N : Type 0} → (S → Input C I → N → List O → S → Type 0) → Side I O
side {I} {O} {S} {C} {N} step = record { State = S; Command = C; Note = N; Step = step }

-- One step of a side, without its states.
pub record Move {I O : Type 0} (S : Side I O) : Type 0 where
  pub input : Input S.Command I
  pub note : S.Note
  pub sends : List O

-- What is received is the oldest message of the link.
abbrev pub Takes : {C I : Type 0} → Input C I → List I → List I → Type 0
Takes (Command c) old new = new ≡ old
Takes Shut old new = new ≡ old
Takes (Receive m) old new = old ≡ m ∷ new

module _ {X Y : Type 0} (A : Side Y X) (B : Side X Y) where
  -- Both sides, and what is on its way to each, the oldest first.
  pub record World : Type 0 where
    pub a : A.State
    pub b : B.State
    pub to_a : List Y
    pub to_b : List X

  pub data Event : Type 0 where
    AtA : Move A → Event
    AtB : Move B → Event

  -- One side steps; what it sends goes to the end of the link to the other, which stays as it is.
  abbrev pub Happens : World → Event → World → Type 0
  Happens old (AtA m) new =
      A.Step old.a m.input m.note m.sends new.a × (new.b ≡ old.b) × Takes m.input old.to_a new.to_a × (new.to_b ≡ old.to_b ++ m.sends)
  Happens old (AtB m) new =
      B.Step old.b m.input m.note m.sends new.b × (new.a ≡ old.a) × Takes m.input old.to_b new.to_b × (new.to_a ≡ old.to_a ++ m.sends)

  abbrev pub Run : World → List Event → World → Type 0
  Run old [] new = new ≡ old
  Run old (e ∷ es) new = (mid : World) × Happens old e mid × Run mid es new

  -- The steps of one side, in order.
  abbrev pub moves_a : List Event → List (Move A)
  moves_a [] = []
  moves_a (AtA m ∷ es) = m ∷ moves_a es
  moves_a (AtB m ∷ es) = moves_a es

  abbrev pub moves_b : List Event → List (Move B)
  moves_b [] = []
  moves_b (AtA m ∷ es) = moves_b es
  moves_b (AtB m ∷ es) = m ∷ moves_b es
