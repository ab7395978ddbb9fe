-- Lists of the program and the trees that they stand for have one length.
use Rattle.std.proofs.Common.{◌≡◌, ℕ, suc, ◌+◌, ◌<◌, Bool, true, false, eqb, ◌&&◌, List, [], ◌∷◌, ◌++◌, length, drop, get_or, refl, sym, ap, ◌∙◌}
use Rattle.std.proofs.lemmas.List.{drop_more}
use Rattle.std.proofs.lemmas.Bool.{eq-eqb, ne_eqb, and_right}
use Rattle.capn_trees.specs.declared.tree.Tree as program
use Rattle.capn_trees.specs.declared.tree.Fields.{Fields}
use Rattle.capn_trees.specs.Trees.{Trees, trees_count, structs_count}
use Rattle.capn_trees.specs.Views.{view, trees_view, structs_view}
use Rattle.capn_trees.specs.declared.measure.Measure.{Measure}
use Rattle.capn_trees.specs.Writable.{Part, parts, parts_of_all, parts_of_structs, are_even}
use Rattle.capn_trees.specs.Measuring.{own, together, measured}
use Rattle.capn_trees.proofs.Viewed.{view_fields}

pub trees_counted : (ts : List program.Tree) → trees_count (trees_view ts) ≡ length ts
trees_counted [] = refl
trees_counted (t ∷ ts) = ap suc (trees_counted ts)

pub structs_counted : (ss : List Fields) → structs_count (structs_view ss) ≡ length ss
structs_counted [] = refl
structs_counted (s ∷ ss) = ap suc (structs_counted ss)

pub item_more : {X : Type 0} (xs : List X) (i : ℕ) (x : X) → i < length xs → x ≡ get_or xs i x → drop i xs ≡ x ∷ drop (i + 1) xs
item_more xs i x lt is_x = drop_more xs i x lt ∙ ap (λ y. y ∷ drop (i + 1) xs) (sym is_x)

rest_even : (d p : ℕ) (s : Fields) (rest : List Fields) → length s.words.items ≡ d → length s.pointers.trees.items ≡ p → are_even d p (structs_view (s ∷ rest)) ≡ are_even d p (structs_view rest)
rest_even d p s rest ds ps =
    let a : eqb (length s.words.items) d ≡ true = eq-eqb _ _ ds in
    let b : eqb (trees_count (trees_view s.pointers.trees.items)) p ≡ true = eq-eqb _ _ (trees_counted s.pointers.trees.items ∙ ps) in
    ap (λ (f : List ℕ × Trees). eqb (length f.0) d && (eqb (trees_count f.1) p && are_even d p (structs_view rest))) (view_fields s) ∙ rw (a, b) refl

not_even : (d p : ℕ) (s : Fields) (rest : List Fields) → (length s.pointers.trees.items ≡ p → ⊥) → are_even d p (structs_view (s ∷ rest)) ≡ false
not_even d p s rest ps =
    let b : eqb (trees_count (trees_view s.pointers.trees.items)) p ≡ false = ne_eqb _ _ (λ e. ps (sym (trees_counted s.pointers.trees.items) ∙ e)) in
    ap (λ (f : List ℕ × Trees). eqb (length f.0) d && (eqb (trees_count f.1) p && are_even d p (structs_view rest))) (view_fields s)
    ∙ rw b (and_right (eqb (length s.words.items) d) false refl)

other_words : (d p : ℕ) (s : Fields) (rest : List Fields) → (length s.words.items ≡ d → ⊥) → are_even d p (structs_view (s ∷ rest)) ≡ false
other_words d p s rest ds =
    let a : eqb (length s.words.items) d ≡ false = ne_eqb _ _ ds in
    ap (λ (f : List ℕ × Trees). eqb (length f.0) d && (eqb (trees_count f.1) p && are_even d p (structs_view rest))) (view_fields s) ∙ rw a refl

pub even_more : (d p : ℕ) (ss : List Fields) (i : ℕ) (s : Fields) (total : Bool) → i < length ss → s ≡ get_or ss i s → length s.words.items ≡ d → length s.pointers.trees.items ≡ p
    → are_even d p (structs_view (drop i ss)) ≡ total → are_even d p (structs_view (drop (i + 1) ss)) ≡ total
even_more d p ss i s total lt is_s ds ps so_far =
    sym (rest_even d p s (drop (i + 1) ss) ds ps) ∙ sym (ap (λ (l : List Fields). are_even d p (structs_view l)) (item_more ss i s lt is_s)) ∙ so_far

pub even_stops : (d p : ℕ) (ss : List Fields) (i : ℕ) (s : Fields) (total : Bool) → i < length ss → s ≡ get_or ss i s → (length s.pointers.trees.items ≡ p → ⊥)
    → are_even d p (structs_view (drop i ss)) ≡ total → false ≡ total
even_stops d p ss i s total lt is_s ps so_far =
    sym (not_even d p s (drop (i + 1) ss) ps) ∙ sym (ap (λ (l : List Fields). are_even d p (structs_view l)) (item_more ss i s lt is_s)) ∙ so_far

pub words_stop : (d p : ℕ) (ss : List Fields) (i : ℕ) (s : Fields) (total : Bool) → i < length ss → s ≡ get_or ss i s → (length s.words.items ≡ d → ⊥)
    → are_even d p (structs_view (drop i ss)) ≡ total → false ≡ total
words_stop d p ss i s total lt is_s ds so_far =
    sym (other_words d p s (drop (i + 1) ss) ds) ∙ sym (ap (λ (l : List Fields). are_even d p (structs_view l)) (item_more ss i s lt is_s)) ∙ so_far

pub measured_append : (caps : ℕ) (m : Measure) (ps qs : List Part) → measured caps m (ps ++ qs) ≡ measured caps (measured caps m ps) qs
measured_append caps m [] qs = refl
measured_append caps m (p ∷ ps) qs = measured_append caps (together m (own caps p)) ps qs

-- one tree more was measured
pub trees_more : (caps levels : ℕ) (m n : Measure) (ts : List program.Tree) (i : ℕ) (t : program.Tree) (total : Measure) → i < length ts → t ≡ get_or ts i t → n ≡ measured caps m (parts (view t) levels)
    → measured caps m (parts_of_all (trees_view (drop i ts)) levels) ≡ total → measured caps n (parts_of_all (trees_view (drop (i + 1) ts)) levels) ≡ total
trees_more caps levels m n ts i t total lt is_t is_n so_far =
    ap (λ (x : Measure). measured caps x (parts_of_all (trees_view (drop (i + 1) ts)) levels)) is_n
    ∙ sym (measured_append caps m (parts (view t) levels) (parts_of_all (trees_view (drop (i + 1) ts)) levels))
    ∙ sym (ap (λ (l : List program.Tree). measured caps m (parts_of_all (trees_view l) levels)) (item_more ts i t lt is_t)) ∙ so_far

pub structs_more : (caps levels : ℕ) (m n : Measure) (ss : List Fields) (i : ℕ) (s : Fields) (total : Measure) → i < length ss → s ≡ get_or ss i s → n ≡ measured caps m (parts_of_all (trees_view s.pointers.trees.items) levels)
    → measured caps m (parts_of_structs (structs_view (drop i ss)) levels) ≡ total → measured caps n (parts_of_structs (structs_view (drop (i + 1) ss)) levels) ≡ total
structs_more caps levels m n ss i s total lt is_s is_n so_far =
    ap (λ (x : Measure). measured caps x (parts_of_structs (structs_view (drop (i + 1) ss)) levels)) is_n
    ∙ sym (measured_append caps m (parts_of_all (trees_view s.pointers.trees.items) levels) (parts_of_structs (structs_view (drop (i + 1) ss)) levels))
    ∙ sym (ap (λ (f : List ℕ × Trees). measured caps m (parts_of_all f.1 levels ++ parts_of_structs (structs_view (drop (i + 1) ss)) levels)) (view_fields s))
    ∙ sym (ap (λ (l : List Fields). measured caps m (parts_of_structs (structs_view l) levels)) (item_more ss i s lt is_s)) ∙ so_far
