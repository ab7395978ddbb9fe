-- The last of the texts between newlines.
use Rattle.std.proofs.Common.{◌≡◌, ◌==◌, ℕ, suc, Bool, arith, true-eqb, true, false, List, [], ◌∷◌, ◌++◌, length, map, refl, sym, ap, subst, ◌∙◌}
use Rattle.trace_file.specs.Lines.{without_last_empty}
use Rattle.trace_file.proofs.Going.{map_pushed}

without_empty : (ts : List (List ℕ)) → without_last_empty (ts ++ [] ∷ []) ≡ ts
without_empty [] = refl
without_empty (t ∷ []) = refl
without_empty (t ∷ u ∷ ts) = ap (λ us. t ∷ us) (without_empty (u ∷ ts))

with_full : (ts : List (List ℕ)) (c : ℕ) (cs : List ℕ) → without_last_empty (ts ++ (c ∷ cs) ∷ []) ≡ ts ++ (c ∷ cs) ∷ []
with_full [] c cs = refl
with_full (t ∷ []) c cs = refl
with_full (t ∷ u ∷ ts) c cs = ap (λ us. t ∷ us) (with_full (u ∷ ts) c cs)

not_empty : (n : ℕ) → (suc n == 0) ≡ true → ⊥
not_empty n e = let f : suc n ≡ 0 = true-eqb _ _ (sym e) in omega (arith, f)

at_empty : (ts : List (List ℕ)) (t : List ℕ) → (length t == 0) ≡ true → ts ≡ without_last_empty (ts ++ t ∷ [])
at_empty ts [] e = sym (without_empty ts)
at_empty ts (c ∷ cs) e = absurd (not_empty (length cs) e)

at_full : (ts : List (List ℕ)) (t : List ℕ) → (length t == 0) ≡ false → ts ++ t ∷ [] ≡ without_last_empty (ts ++ t ∷ [])
at_full ts [] e = let f : ◌≡◌ {A = Bool} true false = e in cc
at_full ts (c ∷ cs) e = sym (with_full ts c cs)

pub last_empty : {X : Type 0} (f : X → List ℕ) (xs before : List X) (x : X) → xs ≡ before ++ x ∷ [] → (length (f x) == 0) ≡ true
    → map f before ≡ without_last_empty (map f xs)
last_empty f xs before x split e =
    at_empty (map f before) (f x) e ∙ ap without_last_empty (sym (map_pushed f before x) ∙ ap (map f) (sym split))

pub last_full : {X : Type 0} (f : X → List ℕ) (xs before : List X) (x : X) → xs ≡ before ++ x ∷ [] → (length (f x) == 0) ≡ false
    → map f xs ≡ without_last_empty (map f xs)
last_full f xs before x split e =
    let parts : map f xs ≡ map f before ++ f x ∷ [] = ap (map f) split ∙ map_pushed f before x in
    parts ∙ at_full (map f before) (f x) e ∙ ap without_last_empty (sym parts)
