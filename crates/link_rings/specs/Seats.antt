-- A side with its log, without rings.
use Rattle.std.specs.Prelude.{◌≡◌, ℕ, Option, None, Some, List}
use Rattle.laws_merge.specs.Machine.{Input}
use Rattle.laws_merge.specs.Logs.{made_by}
use Rattle.link_rings.specs.declared.frame.Frame.{Frame}
use Rattle.link_rings.specs.declared.entry.Entry.{Entry}
use Rattle.link_rings.specs.declared.turn.Turn.{Turn}
use Rattle.link_rings.specs.declared.turn.Turn.TheVariants.{Idle, Handled, Down}
use Rattle.link_rings.specs.Waiting.{Held}
use Rattle.link_rings.specs.Logs.{log_of, framed}
use Rattle.link_rings.specs.Entries.{Place, Commands, Takes, Falls}
use Rattle.link_rings.specs.Kept.{Runs}

-- The side as it was handed in, the side as it is, its log, and all frames that it made.
pub record Sat (P M N : Type 0) : Type 0 where
  pub start : P
  pub side : P
  pub log : List (Entry N)
  pub waiting : Held M

abbrev pub place : {P S M N : Type 0} → (P → S) → Sat P M N → Place S M N
place state s = record { state = state s.side; log = s.log; waiting = s.waiting }

module _ {S C M N : Type 0} (down : S → Option ℕ) (input : N → Input C M) (sends : N → List M) (step : S → N → S → Type 0) where
  -- A command: while the side is up one entry is added, of the command with what it answers, or a shut. Of one that is
  -- down nothing changes.
  abbrev pub CommandsAt : {A : Type 0} → (C → N → A → Type 0) → (C → A → Type 0) → Option ℕ → Place S M N → C → A → Place S M N → Type 0
  CommandsAt answers refuses None old command answer new = Commands down input sends step answers old command answer new
  CommandsAt answers refuses (Some n) old command answer new = refuses command answer × (new ≡ old)

  -- A frame at a side that is up is taken, or the side is then down. One that is down stays as it is.
  abbrev pub TakesAt : {E : Type 0} → (N → E → Type 0) → Option ℕ → Place S M N → Frame M → Turn E → Place S M N → Type 0
  TakesAt tells d old f Idle new = ⊥
  TakesAt tells None old f (Handled effects) new = Takes down input sends step tells old f effects new
  TakesAt tells None old f (Down n) new = Falls down input sends step old f n new
  TakesAt tells (Some m) old f (Handled effects) new = ⊥
  TakesAt tells (Some m) old f (Down n) new = (n ≡ m) × (new ≡ old)

-- All frames that its log made are there.
pub record Sits {S C M N : Type 0} (input : N → Input C M) (sends : N → List M) (step : S → N → S → Type 0) (start : S) (p : Place S M N) : Type 0 where
  pub runs : Runs input sends step start p
  pub all_made : framed p.waiting.frames ≡ made_by (log_of input sends step p.log)
