-- Lists: one more behind the others, and beginnings.
use Rattle.std.proofs.Common.{◌≡◌, List, [], ◌∷◌, ◌++◌, append-nil, flat_map, refl, ap, ◌∙◌}
use Rattle.std.specs.Prelude.{ℕ, take, drop, zero, suc}
use Rattle.std.proofs.lemmas.Grind.{flat_map-append}

pub flat_more : {X Y : Type 0} (f : X → List Y) (xs : List X) (x : X) → flat_map f (xs ++ x ∷ []) ≡ flat_map f xs ++ f x
flat_more {Y = Y} f xs x = flat_map-append f xs (x ∷ []) ∙ ap (λ (ys : List Y). flat_map f xs ++ ys) (append-nil (f x))

-- The first so many and the others are all.
pub parted : {X : Type 0} (n : ℕ) (xs : List X) → xs ≡ take n xs ++ drop n xs
parted zero xs = refl
parted (suc n) [] = refl
parted {X = X} (suc n) (x ∷ xs) = ap (λ (ys : List X). x ∷ ys) (parted n xs)

-- What is behind the same is the same.
pub behind_same : {X : Type 0} (xs ys zs : List X) → xs ++ ys ≡ xs ++ zs → ys ≡ zs
behind_same [] ys zs e = e
behind_same {X = X} (x ∷ xs) ys zs e = behind_same xs ys zs (ap rest e)
  where
    rest : List X → List X
    rest [] = []
    rest (y ∷ l) = l
