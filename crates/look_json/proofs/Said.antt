-- What is said of the items of a list, one by one.
use Rattle.std.proofs.Common.{ℕ, ◌+◌, ◌<◌, ◌≤◌, ◌≡◌, List, [], ◌∷◌, ◌++◌, length, map, take, get_or, sym, subst, ◌∙◌, ap}
use Rattle.std.proofs.lemmas.List.{map_push, take_all, take_more}
use Rattle.serde_json.specs.Data.{Data}
use Rattle.serde_json.specs.View.{view}
use Rattle.serde_json.specs.declared.value.Value.{Value}
use Rattle.look_json.specs.Lines.{Each}

each_more : {A : Type 0} (Is : A → Data → Type 0) (xs : List A) (x : A) (ds : List Data) (d : Data) → Each Is xs ds → Is x d → Each Is (xs ++ x ∷ []) (ds ++ d ∷ [])
each_more Is [] x [] d all one = (one, tt)
each_more Is [] x (e ∷ ds) d all one = absurd all
each_more Is (y ∷ ys) x [] d all one = absurd all
each_more Is (y ∷ ys) x (e ∷ ds) d all one = (all.0, each_more Is ys x ds d all.1 one)

-- one item more
pub said_more : {A : Type 0} (Is : A → Data → Type 0) (more done : List Value) (xs : List A) (i : ℕ) (x : A) (v : Value)
    → more ≡ done ++ v ∷ [] → i < length xs → Is (get_or xs i x) (view v) → Each Is (take i xs) (map view done) → Each Is (take (i + 1) xs) (map view more)
said_more {A} Is more done xs i x v is_more lt one so_far =
    let made : map view more ≡ map view done ++ view v ∷ [] = ap (map view) is_more ∙ map_push view done v in
    subst (λ (ds : List Data). Each Is (take (i + 1) xs) ds) (sym made)
    (subst (λ (ys : List A). Each Is ys (map view done ++ view v ∷ [])) (sym (take_more xs i x lt)) (each_more Is (take i xs) (get_or xs i x) (map view done) (view v) so_far one))

-- all of them
pub said_all : {A : Type 0} (Is : A → Data → Type 0) (done : List Value) (xs : List A) (i : ℕ) → length xs ≤ i → Each Is (take i xs) (map view done) → Each Is xs (map view done)
said_all {A} Is done xs i le so_far = subst (λ (ys : List A). Each Is ys (map view done)) (take_all i xs le) so_far
