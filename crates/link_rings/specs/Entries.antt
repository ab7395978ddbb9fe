-- A step is logged.
use Rattle.std.specs.Prelude.{◌≡◌, ℕ, ◌+◌, ◌<◌, ◌≤◌, ◌⊎◌, Option, None, Some, Result, Ok, Err, List, [], ◌∷◌, ◌++◌, length}
use Rattle.laws_merge.specs.Machine.{Input, Shut, Receive}
use Rattle.laws_merge.specs.Logs.{counted}
use Rattle.link_rings.specs.declared.frame.Frame.{Frame}
use Rattle.link_rings.specs.declared.entry.Entry.{Entry}
use Rattle.link_rings.specs.Logs.{cause_by}
use Rattle.link_rings.specs.Parties.{IsOf, IsDown}
use Rattle.link_rings.specs.Waiting.{Held, frames_from}

-- A side with its log and the frames that wait.
pub record Place (S M N : Type 0) : Type 0 where
  pub state : S
  pub log : List (Entry N)
  pub waiting : Held M

-- Why a frame is refused, by the number of the shut: it has another number than the count of those received (41), or
-- acknowledges more than was made (42).
abbrev pub IsRefusal : {M : Type 0} → Held M → Frame M → ℕ → Type 0
IsRefusal w f n = ((n ≡ 41) × (f.seq ≡ w.heard → ⊥)) ⊎ ((n ≡ 42) × (f.seq ≡ w.heard) × (w.made < f.ack))

module _ {S C M N : Type 0} (down : S → Option ℕ) (input : N → Input C M) (sends : N → List M) (step : S → N → S → Type 0) where
  -- One entry is added, which is of a step; the frames that it made are numbered on and wait behind the others.
  pub record Logs (old new : Place S M N) (e : Entry N) : Type 0 where
    pub is_step : step old.state e.note new.state
    pub log : new.log ≡ old.log ++ e ∷ []
    pub first : e.first ≡ old.waiting.made
    pub heard : e.heard ≡ counted old.waiting.heard (cause_by e.seq e.ack (input e.note))
    pub frames : new.waiting.frames ≡ old.waiting.frames ++ frames_from e.first e.heard (sends e.note)
    pub made : new.waiting.made ≡ old.waiting.made + length (sends e.note)
    pub now_heard : new.waiting.heard ≡ e.heard

  -- It is of this command, or a shut that took the side down.
  pub record LogsCommand (old new : Place S M N) (command : C) (e : Entry N) : Type 0 where
    pub logs : Logs old new e
    pub is_of : IsOf command (input e.note)
    pub shut : input e.note ≡ Shut → IsDown (down new.state)

  -- It is of this frame, whose number is the count of those received, and which acknowledges no more than was made.
  pub record LogsFrame (old new : Place S M N) (f : Frame M) (e : Entry N) : Type 0 where
    pub logs : Logs old new e
    pub is_of : input e.note ≡ Receive f.message
    pub seq : e.seq ≡ f.seq
    pub ack : e.ack ≡ f.ack
    pub seq_is : f.seq ≡ old.waiting.heard
    pub ack_within : f.ack ≤ old.waiting.made

  -- It is a shut with that number.
  pub record LogsShut (old new : Place S M N) (number : ℕ) (e : Entry N) : Type 0 where
    pub logs : Logs old new e
    pub is_of : input e.note ≡ Shut
    pub down_by : down new.state ≡ Some number

  -- A command of a side that is up: one entry, which is of it or a shut, and the answer for it.
  pub record Commands {A : Type 0} (answers : C → N → A → Type 0) (old : Place S M N) (command : C) (answer : A) (new : Place S M N) : Type 0 where
    pub entry : Entry N
    pub logs : LogsCommand old new command entry
    pub answered : answers command entry.note answer

  -- A frame that is taken: one entry, which is of it, and its effects are told.
  pub record Takes {E : Type 0} (tells : N → E → Type 0) (old : Place S M N) (f : Frame M) (effects : E) (new : Place S M N) : Type 0 where
    pub entry : Entry N
    pub logs : LogsFrame old new f entry
    pub up : down new.state ≡ None
    pub told : tells entry.note effects

  -- A frame that takes the side down: one entry, which is of it, or a shut for it.
  pub record Falls (old : Place S M N) (f : Frame M) (n : ℕ) (new : Place S M N) : Type 0 where
    pub entry : Entry N
    pub logs : LogsFrame old new f entry ⊎ (LogsShut old new n entry × IsRefusal old.waiting f n)
    pub down_by : down new.state ≡ Some n

  abbrev pub TakesOrFalls : {E : Type 0} → (N → E → Type 0) → Place S M N → Frame M → Result E ℕ → Place S M N → Type 0
  TakesOrFalls tells old f (Ok effects) new = Takes tells old f effects new
  TakesOrFalls tells old f (Err n) new = Falls old f n new
