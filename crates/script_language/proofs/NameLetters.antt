-- The letters of a name, put in their places one after the other.
use Rattle.std.proofs.Common.{◌≡◌, ◌≤◌, ◌<◌, ◌+◌, ◌-◌, ℕ, suc, List, [], ◌∷◌, ◌++◌, length, replicate, set, refl, sym, ap, ◌∙◌, append_assoc, arith}
use Rattle.std.proofs.lemmas.List.{length-append, length-replicate, set-append_right}
use Rattle.std.proofs.Math.Seq.{take-append_seam}
use Rattle.script_language.specs.Letters.{padded, IsPadded}

-- One letter more.
pub put_next : (letters : List ℕ) (letter : ℕ) → length letters < 16 → set (padded letters) (length letters) letter ≡ padded (letters ++ letter ∷ [])
put_next letters letter short =
    let n = length letters in
    let left : 16 - n ≡ suc (15 - n) = omega (arith, short) in
    let gone : 16 - length (letters ++ letter ∷ []) ≡ 15 - n = ap (λ k. 16 - k) (length-append letters (letter ∷ [])) ∙ omega (arith, short) in
    set-append_right letters (replicate (16 - n) 0) n n letter refl (omega arith)
    ∙ ap (λ i. letters ++ set (replicate (16 - n) 0) i letter) (omega arith)
    ∙ ap (λ k. letters ++ set (replicate k 0) 0 letter) left
    ∙ ap (λ k. letters ++ letter ∷ replicate k 0) (sym gone)
    ∙ sym (append_assoc letters (letter ∷ []) (replicate (16 - length (letters ++ letter ∷ [])) 0))

pub padded_whole : (letters : List ℕ) → length letters ≤ 16 → length (padded letters) ≡ 16
padded_whole letters short = length-append letters (replicate (16 - length letters) 0) ∙ ap (λ n. length letters + n) (length-replicate (16 - length letters) 0) ∙ omega (arith, short)

-- All letters are in their places.
pub in_places : (letters : List ℕ) → length letters ≤ 16 → IsPadded (length letters) (padded letters)
in_places letters short = record { short = short; whole = padded_whole letters short; rest = ap padded (take-append_seam letters _) }
