-- Parts of which none is a reason to refuse, and that take few enough words, are not refused.
use Rattle.std.proofs.Common.{◌≡◌, ℕ, ◌+◌, ◌≤◌, Bool, false, ltb, List, [], ◌∷◌, None, refl, arith}
use Rattle.std.proofs.lemmas.Bool.{le-ltb}
use Rattle.capn_trees.specs.Trees as tree
use Rattle.capn_trees.specs.Trees.{Tree, Elements}
use Rattle.capn_trees.specs.Writable.{Part, is_uneven, is_too_deep, is_beyond, is_too_wide, words_taken, words_visited, some_part, all_words, refused}
use Rattle.capn_trees.proofs.Parts.{AreGood}
use Rattle.capn_reading.proofs.Counted.{AreFine}

pub fine_good : (caps : ℕ) (ps : List Part) → AreFine caps ps → all_words words_visited ps ≤ 65535 → AreGood caps ps
fine_good caps [] fine le = tt
fine_good caps (p ∷ ps) fine le =
    (((fine.0.even, fine.0.shallow), (fine.0.there, fine.0.narrow (omega arith))), fine_good caps ps fine.1 (omega arith))

-- A visit counts at least the words that are taken.
list_taken : (es : Elements) → words_taken (tree.list es) ≤ words_visited (tree.list es)
list_taken (tree.packed bits xs) = omega arith
list_taken (tree.pointers ts) = omega arith
list_taken (tree.structs d p ss) = omega arith

tree_taken : (t : Tree) → words_taken t ≤ words_visited t
tree_taken tree.null = omega arith
tree_taken (tree.struct ws ts) = omega arith
tree_taken (tree.list es) = list_taken es
tree_taken (tree.capability index) = omega arith

pub fewer_taken : (ps : List Part) → all_words words_taken ps ≤ all_words words_visited ps
fewer_taken [] = omega arith
fewer_taken (p ∷ ps) =
    let one = tree_taken p.what in
    let rest = fewer_taken ps in
    omega (arith, one, rest)

nowhere : (is_so : Part → Bool) (p : Part) (ps : List Part) → is_so p ≡ false → some_part is_so ps ≡ false → some_part is_so (p ∷ ps) ≡ false
nowhere is_so p ps h k = rw (h, k) refl

none_uneven : (caps : ℕ) (ps : List Part) → AreGood caps ps → some_part (λ p. is_uneven p.what) ps ≡ false
none_uneven caps [] good = refl
none_uneven caps (p ∷ ps) good = nowhere (λ q. is_uneven q.what) p ps good.0.0.0 (none_uneven caps ps good.1)

none_deep : (caps : ℕ) (ps : List Part) → AreGood caps ps → some_part is_too_deep ps ≡ false
none_deep caps [] good = refl
none_deep caps (p ∷ ps) good = nowhere is_too_deep p ps good.0.0.1 (none_deep caps ps good.1)

none_beyond : (caps : ℕ) (ps : List Part) → AreGood caps ps → some_part (λ p. is_beyond caps p.what) ps ≡ false
none_beyond caps [] good = refl
none_beyond caps (p ∷ ps) good = nowhere (λ q. is_beyond caps q.what) p ps good.0.1.0 (none_beyond caps ps good.1)

none_wide : (caps : ℕ) (ps : List Part) → AreGood caps ps → some_part (λ p. is_too_wide p.what) ps ≡ false
none_wide caps [] good = refl
none_wide caps (p ∷ ps) good = nowhere (λ q. is_too_wide q.what) p ps good.0.1.1 (none_wide caps ps good.1)

pub good_none : (caps : ℕ) (ps : List Part) → AreGood caps ps → 1 + all_words words_taken ps ≤ 65536 → all_words words_visited ps ≤ 65536 → refused caps ps ≡ None
good_none caps ps good small few =
    let words : ltb 65536 (1 + all_words words_taken ps) ≡ false = le-ltb _ _ small in
    let visits : ltb 65536 (all_words words_visited ps) ≡ false = le-ltb _ _ few in
    rw (none_uneven caps ps good, none_deep caps ps good, none_beyond caps ps good, none_wide caps ps good, words, visits) refl

-- so where the words visited leave room for the root pointer
pub few_none : (caps : ℕ) (ps : List Part) → AreGood caps ps → all_words words_visited ps ≤ 65535 → refused caps ps ≡ None
few_none caps ps good few = let fewer = fewer_taken ps in good_none caps ps good (omega (arith, fewer)) (omega arith)
