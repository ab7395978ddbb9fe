-- A path with one more step.
use Rattle.std.proofs.Common.{◌≡◌, ℕ, ◌+◌, ◌<◌, List, [], ◌∷◌, ◌++◌, length, take, set, get_or, sym, ap, ◌∙◌, arith}
use Rattle.std.proofs.lemmas.List.{take_more, take_more_set, take_all}
use Rattle.rpc_msg.specs.Op.{Op}

pub copied_more : (ops taken : List Op) (i : ℕ) (d : Op) → i < length ops → i < length taken → take i ops ≡ take i taken → take (i + 1) (set ops i (get_or taken i d)) ≡ take (i + 1) taken
copied_more ops taken i d here there so_far =
    take_more_set ops i (get_or taken i d) here ∙ ap (λ (xs : List Op). xs ++ get_or taken i d ∷ []) so_far ∙ sym (take_more taken i d there)

pub longer_by : (ops taken path : List Op) (i n : ℕ) (f : Op) → i ≡ n → n ≡ length taken → length ops ≡ 16 → n < 16 → take i ops ≡ take i taken → taken ≡ path → take (n + 1) (set ops n f) ≡ path ++ f ∷ []
longer_by ops taken path i n f is_n len whole small so_far is_path =
    take_more_set ops n f (omega (arith, whole, small))
    ∙ ap (λ (xs : List Op). xs ++ f ∷ []) (ap (λ (j : ℕ). take j ops) (sym is_n) ∙ so_far ∙ take_all i taken (omega (arith, is_n, len)) ∙ is_path)
