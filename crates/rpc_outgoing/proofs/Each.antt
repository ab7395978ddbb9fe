-- What holds of each element of a list.
use Rattle.std.proofs.Common.{ℕ, ◌+◌, ◌<◌, ◌≤◌, List, length, drop, get_or, sym, subst}
use Rattle.std.specs.List.{AllByRecursion}
use Rattle.std.proofs.lemmas.List.{drop_more, drop_all}

-- Where it holds of this one and of all behind it, it holds from here on.
pub all_from : {X : Type 0} (P : X → Type 0) (xs : List X) (i : ℕ) (d : X) → i < length xs → P (get_or xs i d) → AllByRecursion P (drop (i + 1) xs) → AllByRecursion P (drop i xs)
all_from P xs i d lt this rest = subst (AllByRecursion P) (sym (drop_more xs i d lt)) (this, rest)

pub all_end : {X : Type 0} (P : X → Type 0) (xs : List X) (i : ℕ) → length xs ≤ i → AllByRecursion P (drop i xs)
all_end P xs i le = subst (AllByRecursion P) (sym (drop_all i xs le)) tt
