-- The places in which a name keeps its letters.
use Rattle.std.specs.Prelude.{ℕ, ◌-◌, ◌≡◌, ◌≤◌, List, ◌++◌, length, take, replicate}
use Rattle.std.proofs.Common.{arith, ◌∙◌, ap}
use Rattle.std.proofs.lemmas.List.{length-take-le}

-- The letters, and zeros behind them up to sixteen.
abbrev pub padded : List ℕ → List ℕ
padded letters = letters ++ replicate (16 - length letters) 0

-- Of these places the first `len` are the letters.
pub record IsPadded (len : ℕ) (places : List ℕ) : Type 0 where
  pub short : len ≤ 16
  pub whole : length places ≡ 16
  pub rest : padded (take len places) ≡ places

-- What is put there gives its places and its number back.
pub padded_take : {R : Type 0} (len : ℕ) (places : List ℕ) → IsPadded len places → (make : List ℕ → ℕ → R) → make (padded (take len places)) (length (take len places)) ≡ make places len
padded_take len places h make =
    let n : length (take len places) ≡ len = length-take-le len places (omega (arith, h.short, h.whole)) in
    ap (λ (letters : List ℕ). make letters (length (take len places))) h.rest ∙ ap (λ (k : ℕ). make places k) n
