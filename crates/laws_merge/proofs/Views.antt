-- The merge of what entries stand for.
use Rattle.std.proofs.Common.{◌≡◌, ℕ, ◌+◌, true, false, cond, List, [], ◌∷◌, Option, map, refl, ap}
use Rattle.laws_merge.specs.Machine.{Side}
use Rattle.laws_merge.specs.Merge.{ready, merge, view_by}
use Rattle.laws_merge.specs.Laws.{waits_for, makes, MergeOfViews}
use Rattle.laws_merge.specs.declared.merge.OneOf.TheVariants.{First, Second}

-- the lemma behind MergeOfViews, from any count and for any entries
pub merge-views : {P Q V W : Type 0} (f : P → V) (g : Q → W) (waits : V → Option ℕ) (makes : W → ℕ) (k : ℕ) (xs : List P) (ys : List Q) → map (view_by f g) (merge (λ p. waits (f p)) (λ q. makes (g q)) k xs ys) ≡ merge waits makes k (map f xs) (map g ys)
merge-views f g waits makes k [] [] = refl
merge-views f g waits makes k [] (y ∷ ys) = ap (λ z. Second (g y) ∷ z) (merge-views f g waits makes (k + makes (g y)) [] ys)
merge-views f g waits makes k (x ∷ xs) [] = ap (λ z. First (f x) ∷ z) (merge-views f g waits makes k xs [])
merge-views f g waits makes k (x ∷ xs) (y ∷ ys) =
    elim (ready (waits (f x)) k)
    as (λ b. map (view_by f g) (cond b (First x ∷ merge (λ p. waits (f p)) (λ q. makes (g q)) k xs (y ∷ ys)) (Second y ∷ merge (λ p. waits (f p)) (λ q. makes (g q)) (k + makes (g y)) (x ∷ xs) ys))
    ≡ cond b (First (f x) ∷ merge waits makes k (map f xs) (map g (y ∷ ys))) (Second (g y) ∷ merge waits makes (k + makes (g y)) (map f (x ∷ xs)) (map g ys)))
    [ true ↦ ap (λ z. First (f x) ∷ z) (merge-views f g waits makes k xs (y ∷ ys)) | false ↦ ap (λ z. Second (g y) ∷ z) (merge-views f g waits makes (k + makes (g y)) (x ∷ xs) ys) ]

pub merge_of_views : {X Y : Type 0} (P Q : Type 0) (A : Side Y X) (B : Side X Y) → MergeOfViews P Q A B
merge_of_views P Q A B f g xs ys = merge-views f g waits_for makes 0 xs ys
