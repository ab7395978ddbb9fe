-- The places in which a path keeps its steps.
use Rattle.std.specs.Prelude.{ℕ, ◌-◌, ◌≡◌, ◌≤◌, List, ◌++◌, length, take, replicate}
use Rattle.std.proofs.Common.{arith, ◌∙◌, ap}
use Rattle.std.proofs.lemmas.List.{length-take-le}
use Rattle.capn_wire.specs.declared.path.Op.{Op}
use Rattle.capn_wire.specs.declared.path.Op.TheVariants.{Noop}

-- The steps, and Noops behind them up to sixteen.
abbrev pub padded : List Op → List Op
padded ops = ops ++ replicate (16 - length ops) Noop

-- Of these places the first `len` are the steps.
pub record IsPadded (len : ℕ) (places : List Op) : Type 0 where
  pub short : len ≤ 16
  pub whole : length places ≡ 16
  pub rest : padded (take len places) ≡ places

-- The steps give their places and their number back.
pub padded_take : {R : Type 0} (len : ℕ) (places : List Op) → IsPadded len places → (make : List Op → ℕ → R) → make (padded (take len places)) (length (take len places)) ≡ make places len
padded_take len places h make =
    let n : length (take len places) ≡ len = length-take-le len places (omega (arith, h.short, h.whole)) in
    ap (λ (ops : List Op). make ops (length (take len places))) h.rest ∙ ap (λ (k : ℕ). make places k) n
