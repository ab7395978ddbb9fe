-- A stream is split in one way.
use Rattle.std.proofs.Common.{◌≡◌, ℕ, List, [], ◌∷◌, ◌++◌, length, take, drop, refl, sym, ap, subst, ◌∙◌, append_assoc}
use Rattle.std.specs.List.{AllByRecursion, concat}
use Rattle.std.proofs.Math.Seq.{drop-append_seam, take-append_seam}
use Rattle.capn_stream.specs.declared.front.Front.TheVariants.{Complete}
use Rattle.capn_stream.specs.Fronts.{front_of, IsFrame, IsShort}
use Rattle.capn_stream.proofs.Stable.{complete_stays}

-- a frame is at the front of the frames that begin with it
frame_first : (f : List ℕ) (fs : List (List ℕ)) (r : List ℕ) → IsFrame f → front_of (concat (f ∷ fs) ++ r) ≡ Complete (length f)
frame_first f fs r whole = ap front_of (append_assoc f (concat fs) r) ∙ complete_stays f (concat fs ++ r) (length f) whole

none_short : (r whole : List ℕ) (n : ℕ) → r ≡ whole → front_of whole ≡ Complete n → IsShort (front_of r) → ⊥
none_short r whole n e first short = subst IsShort (ap front_of e ∙ first) short

size_of : (n m : ℕ) → Complete n ≡ Complete m → n ≡ m
size_of n m e = cc

pub split_one : (fs gs : List (List ℕ)) (r s : List ℕ) → AllByRecursion IsFrame fs → AllByRecursion IsFrame gs
    → concat fs ++ r ≡ concat gs ++ s → IsShort (front_of r) → IsShort (front_of s) → (fs ≡ gs) × (r ≡ s)
split_one [] [] r s all every e short less = (refl, e)
split_one [] (g ∷ gs) r s all every e short less = absurd (none_short r (concat (g ∷ gs) ++ s) (length g) e (frame_first g gs s every.0) short)
split_one (f ∷ fs) [] r s all every e short less = absurd (none_short s (concat (f ∷ fs) ++ r) (length f) (sym e) (frame_first f fs r all.0) less)
split_one (f ∷ fs) (g ∷ gs) r s all every e short less =
    let sizes : length f ≡ length g = size_of (length f) (length g) (sym (frame_first f fs r all.0) ∙ ap front_of e ∙ frame_first g gs s every.0) in
    let both : f ++ (concat fs ++ r) ≡ g ++ (concat gs ++ s) = sym (append_assoc f (concat fs) r) ∙ e ∙ append_assoc g (concat gs) s in
    let one : f ≡ g = sym (take-append_seam f (concat fs ++ r)) ∙ ap (λ (n : ℕ). take n (f ++ (concat fs ++ r))) sizes ∙ ap (take (length g)) both ∙ take-append_seam g (concat gs ++ s) in
    let rests : concat fs ++ r ≡ concat gs ++ s = sym (drop-append_seam f (concat fs ++ r)) ∙ ap (λ (n : ℕ). drop n (f ++ (concat fs ++ r))) sizes ∙ ap (drop (length g)) both ∙ drop-append_seam g (concat gs ++ s) in
    let more = split_one fs gs r s all.1 every.1 rests short less in
    (ap (λ (x : List ℕ). x ∷ fs) one ∙ ap (λ (xs : List (List ℕ)). g ∷ xs) more.0, more.1)
