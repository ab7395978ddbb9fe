-- The parts of a tree that can be written.
use Rattle.std.proofs.Common.{◌≡◌, ℕ, ◌+◌, true, false, eqb, ◌&&◌, List, [], ◌∷◌, ◌++◌, length, arith}
use Rattle.std.specs.Prelude.{⊤}
use Rattle.std.proofs.lemmas.Bool.{eqb-true, and_parts}
use Rattle.capn_trees.specs.Trees as tree
use Rattle.capn_trees.specs.Trees.{Tree, Trees, Structs, trees_count}
use Rattle.capn_trees.specs.Writable.{Part, are_even, is_uneven, is_too_deep, is_beyond, is_too_wide, all_words}

-- a part that is no reason to refuse
abbrev pub IsGood : ℕ → Part → Type 0
IsGood caps p = ((is_uneven p.what ≡ false) × (is_too_deep p ≡ false)) × ((is_beyond caps p.what ≡ false) × (is_too_wide p.what ≡ false))

abbrev pub AreGood : ℕ → List Part → Type 0
AreGood caps [] = ⊤
AreGood caps (p ∷ ps) = IsGood caps p × AreGood caps ps

pub words_append : (count : Tree → ℕ) (ps qs : List Part) → all_words count (ps ++ qs) ≡ all_words count ps + all_words count qs
words_append count [] qs = omega arith
words_append count (p ∷ ps) qs = let h = words_append count ps qs in omega (arith, h)

pub even_parts : (d p : ℕ) (ws : List ℕ) (ts : Trees) (ss : Structs) → are_even d p (tree.struct_of ws ts ss) ≡ true → (length ws ≡ d) × (trees_count ts ≡ p) × (are_even d p ss ≡ true)
even_parts d p ws ts ss e =
    let a = and_parts (eqb (length ws) d) (eqb (trees_count ts) p && are_even d p ss) e in
    let b = and_parts (eqb (trees_count ts) p) (are_even d p ss) a.1 in
    (eqb-true (length ws) d a.0, eqb-true (trees_count ts) p b.0, b.1)
