-- What a side does in a step. C: its commands, M: messages, N: what is noted of a step, S: its states.
use Rattle.std.specs.Prelude.{◌≡◌, ℕ, ◌+◌, ◌<◌, Bool, true, false, Option, None, Some, List, ◌++◌, length}
use Rattle.laws_merge.specs.Machine.{Input, Command, Shut, Receive}
use Rattle.link_rings.specs.Waiting.{Held, frames_from}

abbrev pub is_receipt : {C M : Type 0} → Input C M → Bool
is_receipt (Command c) = false
is_receipt Shut = false
is_receipt (Receive m) = true

-- A command is noted as itself, or as a shut.
abbrev pub IsOf : {C M : Type 0} → C → Input C M → Type 0
IsOf c (Command d) = d ≡ c
IsOf c Shut = Unit {0}
IsOf c (Receive m) = ⊥

abbrev pub IsDown : Option ℕ → Type 0
IsDown None = ⊥
IsDown (Some n) = Unit {0}

-- A step from one state to another, noted so: its messages are put behind those that wait, numbered on. While the
-- side is up there is room for one more.
pub record Steps {S M N : Type 0} (down : S → Option ℕ) (sends : N → List M) (step : S → N → S → Type 0) (old : S) (before : Held M) (note : N) (new : S) (after : Held M) : Type 0 where
  pub is_step : step old note new
  pub frames : after.frames ≡ before.frames ++ frames_from before.made before.heard (sends note)
  pub made : after.made ≡ before.made + length (sends note)
  pub heard : after.heard ≡ before.heard
  pub room : down new ≡ None → 0 < after.room

-- It obeys a command: the note is of the command, or of a shut, which takes it down. Without room it goes down.
pub record Obeys {S C M N : Type 0} (down : S → Option ℕ) (input : N → Input C M) (sends : N → List M) (step : S → N → S → Type 0) (old : S) (before : Held M) (command : C) (room : Bool) (note : N) (new : S) (after : Held M) : Type 0 where
  pub steps : Steps down sends step old before note new after
  pub is_of : IsOf command (input note)
  pub shut : input note ≡ Shut → IsDown (down new)
  pub overflow : room ≡ false → IsDown (down new)

-- It receives a message.
pub record Receives {S C M N : Type 0} (down : S → Option ℕ) (input : N → Input C M) (sends : N → List M) (step : S → N → S → Type 0) (old : S) (before : Held M) (message : M) (room : Bool) (note : N) (new : S) (after : Held M) : Type 0 where
  pub steps : Steps down sends step old before note new after
  pub is_of : input note ≡ Receive message
  pub overflow : room ≡ false → IsDown (down new)

-- It shuts, with that number.
pub record Shuts {S C M N : Type 0} (down : S → Option ℕ) (input : N → Input C M) (sends : N → List M) (step : S → N → S → Type 0) (old : S) (before : Held M) (number : ℕ) (note : N) (new : S) (after : Held M) : Type 0 where
  pub steps : Steps down sends step old before note new after
  pub is_of : input note ≡ Shut
  pub down_by : down new ≡ Some number
