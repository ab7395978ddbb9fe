-- One more number is copied.
use Rattle.std.proofs.Common.{◌≡◌, ℕ, suc, ◌+◌, ◌<◌, ◌≤◌, List, [], ◌∷◌, ◌++◌, length, take, drop, get_or, set, sym, ap, ◌∙◌, arith}
use Rattle.std.proofs.lemmas.List.{map_push, take_more, length-take-le, length-map, append_assoc}
use Rattle.std.proofs.Math.Seq.{set-append_seam, drop-cons}
use Rattle.rpc_msg.specs.declared.ids.RefId.{RefId}
use Rattle.lovendak_c_desk.specs.Notices.{numbers}

-- what is said of as many references as were copied
abbrev front : List RefId → ℕ → List ℕ
front refs i = numbers (take i refs)

front_len : (refs : List RefId) (i : ℕ) → i ≤ length refs → length (front refs i) ≡ i
front_len refs i h = length-map (take i refs) (λ r. r.0) ∙ length-take-le i refs h

front_more : (refs : List RefId) (i : ℕ) (d : RefId) → i < length refs → front refs (i + 1) ≡ front refs i ++ (get_or refs i d).0 ∷ []
front_more refs i d h = ap numbers (take_more refs i d h) ∙ map_push (λ r. r.0) (take i refs) (get_or refs i d)

pub copied_more : (refs : List RefId) (old out : List ℕ) (i : ℕ) (d : RefId) → i < length refs → length refs ≤ length old
    → out ≡ numbers (take i refs) ++ drop i old → set out i (get_or refs i d).0 ≡ numbers (take (i + 1) refs) ++ drop (i + 1) old
copied_more refs old out i d h room so_far =
    let xs = front refs i in let y = (get_or refs i d).0 in let rest = drop (i + 1) old in
    let n : length xs ≡ i = front_len refs i (omega (arith, h)) in
    let next : suc i ≡ i + 1 = omega arith in
    let there : out ≡ xs ++ get_or old i 0 ∷ rest = so_far ∙ ap (λ ys. xs ++ ys) (drop-cons old i 0 (omega (arith, h, room))) ∙ ap (λ k. xs ++ get_or old i 0 ∷ drop k old) next in
    ap (λ o. set o i y) there ∙ ap (λ j. set (xs ++ get_or old i 0 ∷ rest) j y) (sym n) ∙ set-append_seam xs (get_or old i 0) rest y
    ∙ sym (append_assoc xs (y ∷ []) rest) ∙ ap (λ ys. ys ++ rest) (sym (front_more refs i d h))
