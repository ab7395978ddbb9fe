-- Lists and options.
use Rattle.std.proofs.Common.{◌≡◌, ◌∷◌, ◌++◌, [], List, None, Some, refl}
use Rattle.std.specs.List.{AllByRecursion}

-- If P is true of each element and gives Q, then Q is.
pub all_map : {A : Type 0} (P Q : A → Type 0) (xs : List A) → ((x : A) → P x → Q x) → AllByRecursion P xs → AllByRecursion Q xs
all_map P Q [] f h = tt
all_map P Q (x ∷ xs) f h = (f x h.0, all_map P Q xs f h.1)

-- If P and R are true of each element and together give Q, then Q is.
pub all_map2 : {A : Type 0} (P R Q : A → Type 0) (xs : List A) → ((x : A) → P x → R x → Q x) → AllByRecursion P xs → AllByRecursion R xs
    → AllByRecursion Q xs
all_map2 P R Q [] f h g = tt
all_map2 P R Q (x ∷ xs) f h g = (f x h.0 g.0, all_map2 P R Q xs f h.1 g.1)

-- If under a premise P is true of each element, then of each element P is true under that premise.
pub all_under : {A : Type 0} (G : Type 0) (P : A → Type 0) (xs : List A) → (G → AllByRecursion P xs) → AllByRecursion (λ x. G → P x) xs
all_under G P [] f = tt
all_under G P (x ∷ xs) f = ((λ g. (f g).0), all_under G P xs (λ g. (f g).1))

-- If P is true of each element of two lists, it is true of each element of both together.
pub all_append : {A : Type 0} (P : A → Type 0) (xs ys : List A) → AllByRecursion P xs → AllByRecursion P ys → AllByRecursion P (xs ++ ys)
all_append P [] ys h g = g
all_append P (x ∷ xs) ys h g = (h.0, all_append P xs ys h.1 g)

-- If two lists together are empty, the first is.
pub left_nil : {A : Type 0} (xs ys : List A) → xs ++ ys ≡ [] → xs ≡ []
left_nil [] ys e = refl
left_nil (x ∷ xs) ys e = cc

-- If two lists together are empty, the second is.
pub right_nil : {A : Type 0} (xs ys : List A) → xs ++ ys ≡ [] → ys ≡ []
right_nil [] ys e = e
right_nil (x ∷ xs) ys e = cc

-- Nothing is not something.
pub none_not_some : {A : Type 0} (a : A) → None ≡ Some a → ⊥
none_not_some a e = cc

-- Two values given as the same option are the same.
pub some_same : {A : Type 0} (a b : A) → Some a ≡ Some b → a ≡ b
some_same a b e = cc
