-- The descriptors of a message are cleared one after the other.
use Rattle.std.proofs.Common.{◌≡◌, ℕ, zero, suc, ◌+◌, ◌<◌, ◌≤◌, List, [], ◌∷◌, ◌++◌, length, map, take, drop, set, get_or, sym, ap, ◌∙◌, arith}
use Rattle.std.proofs.lemmas.List.{drop_all, take_all, append-nil}

after : (n : ℕ) → n + 1 ≡ suc n
after n = omega arith

module _ {D : Type 0} (f : D → D) where
  -- those that were, and the others to be
  abbrev pub now_and_then : ℕ → List D → List D
  now_and_then i xs = take i xs ++ map f (drop i xs)

  next : (xs : List D) (i : ℕ) (d : D) → i < length xs → d ≡ get_or xs i d → now_and_then i xs ≡ now_and_then (suc i) (set xs i (f d))
  next [] i d lt is = absurd (omega (arith, lt))
  next (x ∷ xs) zero d lt is = ap (λ (y : D). f y ∷ map f xs) (sym is)
  next (x ∷ xs) (suc i) d lt is = ap (λ (ys : List D). x ∷ ys) (next xs i d (omega (arith, lt)) is)

  pub one_more : (xs : List D) (i : ℕ) (d : D) → i < length xs → d ≡ get_or xs i d → now_and_then i xs ≡ now_and_then (i + 1) (set xs i (f d))
  one_more xs i d lt is = next xs i d lt is ∙ ap (λ k. now_and_then k (set xs i (f d))) (sym (after i))

  pub all_done : (xs : List D) (i : ℕ) → length xs ≤ i → now_and_then i xs ≡ xs
  all_done xs i le = ap (λ ys. take i xs ++ map f ys) (drop_all i xs le) ∙ append-nil (take i xs) ∙ take_all i xs le
