-- A message of one segment, by its words.
use Rattle.std.proofs.Common.{◌≡◌, ℕ, ◌+◌, ◌<◌, ◌≤◌, Bool, true, false, cond, ltb, List, [], ◌∷◌, ◌++◌, length, take, map, get_or, Option, Some, None, refl, sym, ap, subst, ◌∙◌, arith}
use Rattle.std.proofs.lemmas.Bool.{ltb-true, ltb-false}
use Rattle.std.proofs.lemmas.List.{take_more, take_all}
use Rattle.capn_trees.specs.Widths.{AreOf}
use Rattle.capn_reading.specs.Segments.{segment_of, size_of}

pub take_same : (xs ys : List ℕ) (k : ℕ) → k < length xs → k < length ys → get_or xs k 0 ≡ get_or ys k 0 → take k xs ≡ take k ys → take (k + 1) xs ≡ take (k + 1) ys
take_same xs ys k here there same so_far =
    take_more xs k 0 here ∙ ap (λ l. l ++ get_or xs k 0 ∷ []) so_far ∙ ap (λ x. take k ys ++ x ∷ []) same ∙ sym (take_more ys k 0 there)

pub all_same : (xs ys : List ℕ) (k : ℕ) → length xs ≤ k → length ys ≤ k → take k xs ≡ take k ys → xs ≡ ys
all_same xs ys k here there same = sym (take_all k xs here) ∙ same ∙ take_all k ys there

some_number : ℕ → Option ℕ
some_number n = Some n

number_or : ℕ → Option ℕ → ℕ
number_or d (Some n) = n
number_or d None = d

pub sized : (m : List (List ℕ)) (n : ℕ) → Some n ≡ size_of m 0 → (0 < length m) × (length (segment_of m 0) ≡ n)
sized m n e = by_test (ltb 0 (length m)) refl e
  where
    by_test : (b : Bool) → ltb 0 (length m) ≡ b → Some n ≡ cond b (Some (length (segment_of m 0))) None → (0 < length m) × (length (segment_of m 0) ≡ n)
    by_test true is h = let same : n ≡ length (segment_of m 0) = cc in (ltb-true 0 (length m) is, sym same)
    by_test false is h = absurd cc

pub only_one : (m : List (List ℕ)) (ws : List ℕ) → ltb 1 (length m) ≡ false → 0 < length m → segment_of m 0 ≡ ws → m ≡ ws ∷ []
only_one [] ws few some same = absurd (omega arith)
only_one (x ∷ []) ws few some same = ap (λ y. y ∷ []) same
only_one (x ∷ y ∷ m) ws few some same = let le = ltb-false 1 (length (x ∷ y ∷ m)) few in absurd (omega (arith, le))

map_same : (xs : List ℕ) → map (λ x. x) xs ≡ xs
map_same [] = refl
map_same (x ∷ xs) = ap (λ l. x ∷ l) (map_same xs)

pub fits_same : (xs : List ℕ) → AreOf 64 (map (λ x. x) xs) → AreOf 64 xs
fits_same xs fits = subst (AreOf 64) (map_same xs) fits
