-- Numbers of a data word, that were put into it.
use Rattle.std.proofs.Common.{◌≡◌, ℕ, ◌+◌, ◌*◌, ◌^◌, ◌<◌, Bool, true, false, eqb, List, ◌∷◌, ap, arith}
use Rattle.std.specs.Prelude.{◌==◌}
use Rattle.capn_reading.specs.Reading.{element}
use Rattle.rpc_codec.specs.Questions.{flag_bit}

pub low_32 : (ws : List ℕ) (a b : ℕ) → a < 2 ^ 32 → element ((a + 2 ^ 32 * b) ∷ ws) 32 0 ≡ a
low_32 ws a b h = omega arith

pub high_32 : (ws : List ℕ) (a b : ℕ) → a < 2 ^ 32 → b < 2 ^ 32 → element ((a + 2 ^ 32 * b) ∷ ws) 32 1 ≡ b
high_32 ws a b h k = omega arith

pub high_16 : (ws : List ℕ) (a b : ℕ) → a < 2 ^ 32 → b < 2 ^ 16 → element ((a + 2 ^ 32 * b) ∷ ws) 16 2 ≡ b
high_16 ws a b h k = omega arith

pub highest_16 : (ws : List ℕ) (a b : ℕ) → a < 2 ^ 32 → b < 2 ^ 16 → element ((a + 2 ^ 32 * b) ∷ ws) 16 3 ≡ 0
highest_16 ws a b h k = omega arith

pub low_16 : (ws : List ℕ) (a b : ℕ) → a < 2 ^ 16 → element ((a + 2 ^ 32 * b) ∷ ws) 16 0 ≡ a
low_16 ws a b h = omega arith

pub alone_32 : (ws : List ℕ) (a : ℕ) → a < 2 ^ 32 → element (a ∷ ws) 32 0 ≡ a
alone_32 ws a h = omega arith

pub alone_none : (ws : List ℕ) (a : ℕ) → a < 2 ^ 32 → element (a ∷ ws) 16 2 ≡ 0
alone_none ws a h = omega arith

pub alone_16 : (ws : List ℕ) (a : ℕ) → a < 2 ^ 16 → element (a ∷ ws) 16 0 ≡ a
alone_16 ws a h = omega arith

pub alone_64 : (w : ℕ) (ws : List ℕ) (a : ℕ) → a < 2 ^ 64 → element (w ∷ a ∷ ws) 64 1 ≡ a
alone_64 w ws a h = omega arith

pub step_16 : (ws : List ℕ) (a : ℕ) → a < 2 ^ 16 → element ((1 + 2 ^ 16 * a) ∷ ws) 16 1 ≡ a
step_16 ws a h = omega arith

pub step_kind : (ws : List ℕ) (a : ℕ) → element ((1 + 2 ^ 16 * a) ∷ ws) 16 0 ≡ 1
step_kind ws a = omega arith

pub kind_16 : (ws : List ℕ) (k : ℕ) → k < 4 → element ((2 ^ 32 * k) ∷ ws) 16 2 ≡ k
kind_16 ws k h = omega arith

abbrev is_zero : ℕ → Bool
is_zero n = eqb n 0

-- a flag between a number of 32 bits and one of 16
pub flag_back : (ws : List ℕ) (a n : ℕ) (b : Bool) → a < 2 ^ 32 → (element ((a + flag_bit b + 2 ^ 48 * n) ∷ ws) 1 32 == 0) ≡ b
flag_back ws a n true h = ap is_zero (let e : element ((a + flag_bit true + 2 ^ 48 * n) ∷ ws) 1 32 ≡ 0 = omega arith in e)
flag_back ws a n false h = ap is_zero (let e : element ((a + flag_bit false + 2 ^ 48 * n) ∷ ws) 1 32 ≡ 1 = omega arith in e)

pub flagged_32 : (ws : List ℕ) (a n : ℕ) (b : Bool) → a < 2 ^ 32 → element ((a + flag_bit b + 2 ^ 48 * n) ∷ ws) 32 0 ≡ a
flagged_32 ws a n true h = omega arith
flagged_32 ws a n false h = omega arith

pub flagged_16 : (ws : List ℕ) (a n : ℕ) (b : Bool) → a < 2 ^ 32 → n < 2 ^ 16 → element ((a + flag_bit b + 2 ^ 48 * n) ∷ ws) 16 3 ≡ n
flagged_16 ws a n true h k = omega arith
flagged_16 ws a n false h k = omega arith

pub more_32 : (ws : List ℕ) (a : ℕ) → a < 2 ^ 32 → element ((a + 2 ^ 32) ∷ ws) 32 0 ≡ a
more_32 ws a h = omega arith

pub more_16 : (ws : List ℕ) (a : ℕ) → a < 2 ^ 32 → element ((a + 2 ^ 32) ∷ ws) 16 2 ≡ 1
more_16 ws a h = omega arith
