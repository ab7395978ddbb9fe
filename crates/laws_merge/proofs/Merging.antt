-- One step of the merge.
use Rattle.std.proofs.Common.{◌≡◌, ℕ, ◌+◌, ◌<◌, true, false, cond, List, [], ◌∷◌, length, Option, refl, sym, ap, subst, ◌∙◌, arith, drop, get_or}
use Rattle.std.proofs.lemmas.List.{drop_more}
use Rattle.laws_merge.specs.Merge.{ready, merge, takes_first}
use Rattle.laws_merge.specs.declared.merge.OneOf.TheVariants.{First, Second}

-- it takes the first log's next entry
takes_first_of : {P Q : Type 0} (f : P → Option ℕ) (g : Q → ℕ) (k : ℕ) (x : P) (xs : List P) (ys : List Q) → takes_first f k (x ∷ xs) ys ≡ true → merge f g k (x ∷ xs) ys ≡ First x ∷ merge f g k xs ys
takes_first_of f g k x xs [] t = refl
takes_first_of f g k x xs (y ∷ ys) t = ap (λ b. cond b (First x ∷ merge f g k xs (y ∷ ys)) (Second y ∷ merge f g (k + g y) (x ∷ xs) ys)) t

pub merge_first : {P Q : Type 0} (f : P → Option ℕ) (g : Q → ℕ) (k : ℕ) (x : P) (from xs : List P) (ys : List Q) → from ≡ x ∷ xs → takes_first f k from ys ≡ true → merge f g k from ys ≡ First x ∷ merge f g k xs ys
merge_first f g k x from xs ys e t =
    ap (λ z. merge f g k z ys) e ∙ takes_first_of f g k x xs ys (subst (λ z. takes_first f k z ys ≡ true) e t)

-- it takes the second log's next entry
takes_second_of : {P Q : Type 0} (f : P → Option ℕ) (g : Q → ℕ) (k : ℕ) (xs : List P) (y : Q) (ys : List Q) → takes_first f k xs (y ∷ ys) ≡ false → merge f g k xs (y ∷ ys) ≡ Second y ∷ merge f g (k + g y) xs ys
takes_second_of f g k [] y ys t = refl
takes_second_of f g k (x ∷ xs) y ys t = ap (λ b. cond b (First x ∷ merge f g k xs (y ∷ ys)) (Second y ∷ merge f g (k + g y) (x ∷ xs) ys)) t

pub merge_second : {P Q : Type 0} (f : P → Option ℕ) (g : Q → ℕ) (k : ℕ) (xs : List P) (y : Q) (from ys : List Q) → from ≡ y ∷ ys → takes_first f k xs from ≡ false → merge f g k xs from ≡ Second y ∷ merge f g (k + g y) xs ys
merge_second f g k xs y from ys e t =
    ap (λ z. merge f g k xs z) e ∙ takes_second_of f g k xs y ys (subst (λ z. takes_first f k xs z ≡ false) e t)

-- when it takes which
pub takes_first_alone : {P Q : Type 0} (f : P → Option ℕ) (k : ℕ) (xs : List P) (ys : List Q) → 0 < length xs → length ys ≡ 0 → takes_first f k xs ys ≡ true
takes_first_alone f k [] ys l e = absurd (omega arith)
takes_first_alone f k (x ∷ xs) [] l e = refl
takes_first_alone f k (x ∷ xs) (y ∷ ys) l e = absurd (omega arith)

pub takes_first_both : {P Q : Type 0} (f : P → Option ℕ) (k : ℕ) (x : P) (from xs : List P) (ys : List Q) → from ≡ x ∷ xs → 0 < length ys → takes_first f k from ys ≡ ready (f x) k
takes_first_both f k x from xs [] e l = absurd (omega arith)
takes_first_both f k x from xs (y ∷ ys) e l = ap (λ z. takes_first f k z (y ∷ ys)) e

-- what is left of a list from the index of an item on
pub drop_at : {P : Type 0} (xs : List P) (i : ℕ) (x : P) → i < length xs → x ≡ get_or xs i x → drop i xs ≡ x ∷ drop (i + 1) xs
drop_at xs i x l e = drop_more xs i x l ∙ ap (λ z. z ∷ drop (i + 1) xs) (sym e)
