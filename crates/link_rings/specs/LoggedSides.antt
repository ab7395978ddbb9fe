-- A side with its log and its waiting frames, as the code has them.
use Rattle.std.specs.Prelude.{◌≡◌, ℕ, ◌<◌, ◌≤◌, Option, None, vec_len, vec_capacity}
use Rattle.link_rings.specs.declared.logged_side.LoggedSide.{LoggedSide}
use Rattle.link_rings.specs.Entries.{Place}

abbrev pub at : {P S M N : Type 0} → (P → S) → LoggedSide P N M → Place S M N
at state d = record { state = state d.side; log = d.log.items; waiting = d.waiting }

-- While the side is up there is room for one entry and for one frame. No more frames were received than entries logged.
pub record IsReady {P S M N : Type 0} (state : P → S) (down : S → Option ℕ) (d : LoggedSide P N M) : Type 0 where
  pub entry : down (state d.side) ≡ None → vec_len d.log < vec_capacity d.log
  pub frame : down (state d.side) ≡ None → 0 < d.waiting.room
  pub counts : d.waiting.heard ≤ vec_len d.log
