-- The frames that wait to leave a side.
use Rattle.std.specs.Prelude.{ℕ, suc, List, [], ◌∷◌}
use Rattle.link_rings.specs.declared.frame.Frame.{Frame}

-- The frames, oldest first, how many the side made, how many of the other side it received, and how many more it may
-- make without memory.
pub record Held (M : Type 0) : Type 0 where
  pub frames : List (Frame M)
  pub made : ℕ
  pub heard : ℕ
  pub room : ℕ

abbrev pub frame : {M : Type 0} → ℕ → ℕ → M → Frame M
frame seq ack m = record { seq = seq; ack = ack; message = m }

-- Frames of these messages, numbered from seq on.
abbrev pub frames_from : {M : Type 0} → ℕ → ℕ → List M → List (Frame M)
frames_from seq ack [] = []
frames_from seq ack (m ∷ ms) = frame seq ack m ∷ frames_from (suc seq) ack ms
