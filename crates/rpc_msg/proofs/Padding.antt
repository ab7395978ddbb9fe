-- A path takes one more step.
use Rattle.std.specs.Prelude.{ℕ, suc, ◌+◌, ◌-◌, ◌≡◌, ◌<◌, List, [], ◌∷◌, ◌++◌, length, take, replicate, slice_set}
use Rattle.std.proofs.Common.{arith, sym, ◌∙◌, ap, append_assoc}
use Rattle.std.proofs.lemmas.List.{length-take-le, length-append, take_more_set, length-set}
use Rattle.std.proofs.Math.Seq.{set-append_seam}
use Rattle.capn_wire.specs.declared.path.Op.{Op}
use Rattle.capn_wire.specs.declared.path.Op.TheVariants.{Noop}
use Rattle.rpc_msg.specs.Places.{padded, IsPadded}

padded_split : (xs : List Op) (k n : ℕ) → n ≡ suc k → xs ++ replicate n Noop ≡ xs ++ Noop ∷ replicate k Noop
padded_split xs k n e = ap (λ (m : ℕ). xs ++ replicate m Noop) e

-- The new step takes the place of the first Noop behind.
pub padded_more : (xs : List Op) (op : Op) → length xs < 16 → slice_set (padded xs) (length xs) op ≡ padded (xs ++ op ∷ [])
padded_more xs op h =
    let k : ℕ = 16 - (length xs + 1) in
    let e : 16 - length xs ≡ suc k = omega arith in
    let m : 16 - length (xs ++ op ∷ []) ≡ k = omega (arith, length-append xs (op ∷ [])) in
    ap (λ (ys : List Op). slice_set ys (length xs) op) (padded_split xs k (16 - length xs) e)
    ∙ set-append_seam xs Noop (replicate k Noop) op
    ∙ sym (append_assoc xs (op ∷ []) (replicate k Noop))
    ∙ ap (λ (j : ℕ). (xs ++ op ∷ []) ++ replicate j Noop) (sym m)

-- The places stay padded.
pub padded_push : (len : ℕ) (places : List Op) (op : Op) → IsPadded len places → len < 16 → IsPadded (len + 1) (slice_set places len op)
padded_push len places op h room =
    let n : length (take len places) ≡ len = length-take-le len places (omega (arith, h.short, h.whole)) in
    let t : take (len + 1) (slice_set places len op) ≡ take len places ++ op ∷ [] = take_more_set places len op (omega (arith, h.whole)) in
    let p : padded (take len places ++ op ∷ []) ≡ slice_set (padded (take len places)) (length (take len places)) op = sym (padded_more (take len places) op (omega (arith, n, room))) in
    record {
      short = omega arith;
      whole = length-set places len op ∙ h.whole;
      rest = ap padded t ∙ p ∙ ap (λ (ys : List Op). slice_set ys (length (take len places)) op) h.rest ∙ ap (λ (j : ℕ). slice_set places j op) n;
    }
