-- What is shown of a label, from what was written so far.
use Rattle.std.proofs.Common.{◌≡◌, ℕ, ◌+◌, ◌<◌, ◌≤◌, suc, List, [], ◌∷◌, ◌++◌, length, take, get_or, refl, sym, ap, subst, ◌∙◌, append_assoc, encode_utf8, arith, Bool, true, false, nat_lt, Result, Ok, Err, if◌then◌else◌, is_ok, OnOk, inl, inr}
use Rattle.std.proofs.Math.Seq.{take-suc}
use Rattle.std.proofs.lemmas.Bool.Decides.{nat_tests}
use Rattle.std.proofs.lemmas.List.Sums.{sum-map, sum_by_push, sum_by-take-le}
use Rattle.std.specs.List.{sum_by}
use Rattle.chart_parts.specs.Escapes.{escaped}
use Rattle.chart_parts.specs.Labels.{width, widths, IsShown}

abbrev pub SoFar : ℕ → List ℕ → ℕ → List ℕ → List ℕ → Type 0
SoFar place ys w old new = (w ≡ widths ys) × (w ≤ place) × (new ≡ old ++ escaped ys)

narrow : (place : ℕ) (cs ys : List ℕ) (w : ℕ) → ys ≡ cs → w ≡ widths ys → w ≤ place → widths cs ≤ place
narrow place cs ys w e is fits = subst (λ (zs : List ℕ). widths zs ≤ place) e (subst (λ (v : ℕ). v ≤ place) is fits)

widths-end : (xs : List ℕ) (c : ℕ) → widths (xs ++ c ∷ []) ≡ widths xs + width c
widths-end xs c = sum-map width (xs ++ c ∷ []) ∙ sum_by_push width xs c ∙ ap (λ (v : ℕ). v + width c) (sym (sum-map width xs))

pub whole : (place : ℕ) (cs ys : List ℕ) (w : ℕ) (old new : List ℕ) → ys ≡ cs → SoFar place ys w old new → (x : List ℕ) × IsShown place cs x × (new ≡ old ++ x)
whole place cs ys w old new e i = (escaped cs, inl (narrow place cs ys w e i.0 i.1, refl), i.2 ∙ ap (λ (zs : List ℕ). old ++ escaped zs) e)

wide : (place : ℕ) (cs ys : List ℕ) (letter w : ℕ) → ys ≡ take (length ys) cs → (length ys < length cs) × (letter ≡ get_or cs (length ys) letter) → w ≡ widths ys → place < w + width letter → place < widths (take (suc (length ys)) cs)
wide place cs ys letter w e at is over =
    let last : take (suc (length ys)) cs ≡ ys ++ letter ∷ [] = take-suc cs (length ys) letter at.0 ∙ ap (λ (c : ℕ). take (length ys) cs ++ c ∷ []) (sym at.1) ∙ ap (λ (zs : List ℕ). zs ++ letter ∷ []) (sym e) in
    let sums : widths (take (suc (length ys)) cs) ≡ w + width letter = ap widths last ∙ widths-end ys letter ∙ ap (λ (v : ℕ). v + width letter) (sym is) in
    subst (λ (v : ℕ). place < v) (sym sums) over

cut : (place : ℕ) (cs ys : List ℕ) (letter w : ℕ) (old mid new : List ℕ) → ys ≡ take (length ys) cs → (length ys < length cs) × (letter ≡ get_or cs (length ys) letter) → SoFar place ys w old mid → place < w + width letter → new ≡ mid ++ encode_utf8 8230 → (x : List ℕ) × IsShown place cs x × (new ≡ old ++ x)
cut place cs ys letter w old mid new e at i over ends =
    let n = length ys in (
      escaped (take n cs) ++ encode_utf8 8230,
      inr (n, (at.0, narrow place (take n cs) ys w e i.0 i.1, wide place cs ys letter w e at i.0 over), refl),
      ends ∙ ap (λ (t : List ℕ). t ++ encode_utf8 8230) i.2 ∙ append_assoc old (escaped ys) (encode_utf8 8230) ∙ ap (λ (zs : List ℕ). old ++ (escaped zs ++ encode_utf8 8230)) e,
    )

-- The sign that it is cut is written, or that is refused.
pub cut_if : {E : Type 0} (place : ℕ) (r : Result Unit E) (cs ys : List ℕ) (letter w : ℕ) (old mid new : List ℕ) → ys ≡ take (length ys) cs → (length ys < length cs) × (letter ≡ get_or cs (length ys) letter) → SoFar place ys w old mid → place < w + width letter → new ≡ (if is_ok r then mid ++ encode_utf8 8230 else mid) → OnOk r ((x : List ℕ) × IsShown place cs x × (new ≡ old ++ x))
cut_if place (Ok u) cs ys letter w old mid new e at i over ends = cut place cs ys letter w old mid new e at i over ends
cut_if place (Err e) cs ys letter w old mid new same at i over ends = tt

above : (a b : ℕ) → a < b → ◌≡◌ {A = Bool} true (nat_lt a b)
above a b h = grind (arith, nat_tests, h)

below : (a b : ℕ) → b ≤ a → ◌≡◌ {A = Bool} false (nat_lt a b)
below a b h = grind (arith, nat_tests, h)

part : (cs : List ℕ) (n : ℕ) → widths (take n cs) ≤ widths cs
part cs n =
    subst (λ (v : ℕ). v ≤ widths cs) (sym (sum-map width (take n cs)))
    (subst (λ (v : ℕ). sum_by width (take n cs) ≤ v) (sym (sum-map width cs)) (sum_by-take-le width cs n))

further : (a b c : ℕ) → a < b → b ≤ c → a < c
further a b c h k = omega (arith, h, k)

pub is_over : (place : ℕ) (cs ys : List ℕ) (letter w : ℕ) → ys ≡ take (length ys) cs → (length ys < length cs) × (letter ≡ get_or cs (length ys) letter) → w ≡ widths ys → place < w + width letter → ◌≡◌ {A = Bool} true (nat_lt place (widths cs))
is_over place cs ys letter w e at is over = above place (widths cs) (further place (widths (take (suc (length ys)) cs)) (widths cs) (wide place cs ys letter w e at is over) (part cs (suc (length ys))))

pub is_under : (place : ℕ) (cs ys : List ℕ) (w : ℕ) → ys ≡ cs → (w ≡ widths ys) × (w ≤ place) → ◌≡◌ {A = Bool} false (nat_lt place (widths cs))
is_under place cs ys w e i = below place (widths cs) (narrow place cs ys w e i.0 i.1)
