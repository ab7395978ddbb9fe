-- The words that a visit of a tree counts, and of what is in it.
use Rattle.std.proofs.Common.{◌≡◌, ℕ, ◌+◌, ◌-◌, ◌≤◌, List, [], ◌∷◌, length, refl, ap, arith}
use Rattle.capn_trees.specs.Trees.{Tree, null, struct, list, capability, Trees, no_trees, tree, Elements, packed, pointers, structs, Structs, no_structs, struct_of}
use Rattle.capn_trees.specs.Writable.{parts, parts_of_all, parts_of_list, parts_of_structs, words_visited, all_words}
use Rattle.capn_trees.proofs.Parts.{words_append}
use Rattle.rpc_codec.specs.Frames.{envelope}

-- They are the same wherever the tree stands.
mutual
  same : (t : Tree) (j k : ℕ) → all_words words_visited (parts t j) ≡ all_words words_visited (parts t k)
  same null j k = refl
  same (capability i) j k = refl
  same (struct ws ts) j k = ap (λ n. words_visited (struct ws ts) + n) (same_all ts (j - 1) (k - 1))
  same (list es) j k = ap (λ n. words_visited (list es) + n) (same_list es (j - 1) (k - 1))

  same_all : (ts : Trees) (j k : ℕ) → all_words words_visited (parts_of_all ts j) ≡ all_words words_visited (parts_of_all ts k)
  same_all no_trees j k = refl
  same_all (tree t ts) j k =
      let a = words_append words_visited (parts t j) (parts_of_all ts j) in
      let b = words_append words_visited (parts t k) (parts_of_all ts k) in
      let first = same t j k in
      let rest = same_all ts j k in
      omega (arith, a, b, first, rest)

  same_list : (es : Elements) (j k : ℕ) → all_words words_visited (parts_of_list es j) ≡ all_words words_visited (parts_of_list es k)
  same_list (packed bits xs) j k = refl
  same_list (pointers ts) j k = same_all ts j k
  same_list (structs d p ss) j k = same_structs ss j k

  same_structs : (ss : Structs) (j k : ℕ) → all_words words_visited (parts_of_structs ss j) ≡ all_words words_visited (parts_of_structs ss k)
  same_structs no_structs j k = refl
  same_structs (struct_of ws ts ss) j k =
      let a = words_append words_visited (parts_of_all ts j) (parts_of_structs ss j) in
      let b = words_append words_visited (parts_of_all ts k) (parts_of_structs ss k) in
      let first = same_all ts j k in
      let rest = same_structs ss j k in
      omega (arith, a, b, first, rest)

pub visits : Tree → ℕ
visits t = all_words words_visited (parts t 64)

-- a visit counts at least that
pub visits_of : (t : Tree) (n : ℕ) → all_words words_visited (parts t 64) ≤ n → visits t ≤ n
unfolding visits
visits_of t n le = le

pub visits_is : (t : Tree) (n : ℕ) → visits t ≤ n → all_words words_visited (parts t 64) ≤ n
unfolding visits
visits_is t n le = le

-- the first pointer of a struct, and the second
pub in_first : (ws : List ℕ) (t : Tree) (ts : Trees) → visits t + length ws ≤ visits (struct ws (tree t ts))
unfolding visits
in_first ws t ts =
    let here = same t 63 64 in
    let sum = words_append words_visited (parts t 63) (parts_of_all ts 63) in
    omega (arith, here, sum)

pub in_second : (ws : List ℕ) (t u : Tree) (ts : Trees) → visits u ≤ visits (struct ws (tree t (tree u ts)))
unfolding visits
in_second ws t u ts =
    let here = same u 63 64 in
    let sum = words_append words_visited (parts t 63) (parts_of_all (tree u ts) 63) in
    let rest = words_append words_visited (parts u 63) (parts_of_all ts 63) in
    omega (arith, here, sum, rest)

pub in_envelope : (n : ℕ) (t : Tree) → visits t + 1 ≤ visits (envelope n t)
in_envelope n t = in_first (n ∷ []) t no_trees
