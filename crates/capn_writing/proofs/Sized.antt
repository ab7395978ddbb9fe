-- How many words a tree takes, and what is left to place.
use Rattle.std.proofs.Common.{◌≡◌, ℕ, suc, ◌+◌, ◌-◌, ◌*◌, ◌<◌, ◌≤◌, true, List, [], ◌∷◌, ◌++◌, length, take, drop, set, get_or, refl, sym, ap, subst, ◌∙◌, append_assoc, arith}
use Rattle.std.proofs.lemmas.List.{length-append, length-set, length-drop, length-take-le}
use Rattle.std.proofs.lemmas.Bool.{not-false}
use Rattle.capn_trees.specs.declared.tree.Tree as program
use Rattle.capn_trees.specs.declared.tree.Fields.{Fields}
use Rattle.capn_trees.specs.Trees as tree
use Rattle.capn_trees.specs.Trees.{Tree, Trees, Elements, Structs, trees_count, structs_count}
use Rattle.capn_trees.specs.Views.{view, trees_view, structs_view}
use Rattle.capn_trees.specs.Widths.{packed_size}
use Rattle.capn_writing.specs.Placing.{placed, placed_all, placed_list, placed_structs}
use Rattle.capn_writing.specs.Fitting.{Fits, FitsAll, FitsStructs}
use Rattle.capn_trees.specs.Writable.{Part, parts, parts_of_all, parts_of_list, parts_of_structs, are_even, words_taken, all_words}
use Rattle.capn_writing.specs.Laying.{HaveSizes, filled}
use Rattle.capn_trees.proofs.Parts.{words_append, even_parts}
use Rattle.capn_writing.proofs.Lengths.{length-placed_all, length-placed_structs, length-packed}
use Rattle.capn_writing.proofs.Filled.{filled_tree, filled_next}
use Rattle.capn_trees.proofs.Viewed.{view_fields}
use Rattle.capn_trees.proofs.Counts.{item_more, trees_counted, structs_counted}

pub sizes_left : (ps qs : List Part) → HaveSizes (ps ++ qs) → HaveSizes ps
sizes_left [] qs h = tt
sizes_left (p ∷ ps) qs h = (h.0, sizes_left ps qs h.1)

pub sizes_right : (ps qs : List Part) → HaveSizes (ps ++ qs) → HaveSizes qs
sizes_right [] qs h = h
sizes_right (p ∷ ps) qs h = sizes_right ps qs h.1

abbrev pub taken : List Part → ℕ
taken ps = all_words words_taken ps

mutual
  pub taken_by : (t : Tree) (levels at next : ℕ) → HaveSizes (parts t levels) → length (placed t at next).1 ≡ taken (parts t levels)
  taken_by tree.null levels at next h = refl
  taken_by (tree.capability index) levels at next h = refl
  taken_by (tree.struct ds ts) levels at next h =
      let A = placed_all ts (next + length ds) (next + length ds + trees_count ts) in
      let a = length-append ds (A.0 ++ A.1) in
      let b = length-append A.0 A.1 in
      let c = length-placed_all ts (next + length ds) (next + length ds + trees_count ts) in
      let d = taken_by_all ts (levels - 1) (next + length ds) (next + length ds + trees_count ts) h.1 in
      omega (arith, a, b, c, d)
  taken_by (tree.list es) levels at next h = taken_by_list es levels at next h

  pub taken_by_all : (ts : Trees) (levels at next : ℕ) → HaveSizes (parts_of_all ts levels) → length (placed_all ts at next).1 ≡ taken (parts_of_all ts levels)
  taken_by_all tree.no_trees levels at next h = refl
  taken_by_all (tree.tree t ts) levels at next h =
      let first = (placed t at next).1 in
      let rest = (placed_all ts (at + 1) (next + length first)).1 in
      let a = length-append first rest in
      let b = words_append words_taken (parts t levels) (parts_of_all ts levels) in
      let c = taken_by t levels at next (sizes_left (parts t levels) (parts_of_all ts levels) h) in
      let d = taken_by_all ts levels (at + 1) (next + length first) (sizes_right (parts t levels) (parts_of_all ts levels) h) in
      omega (arith, a, b, c, d)

  pub taken_by_list : (es : Elements) (levels at next : ℕ) → HaveSizes (parts (tree.list es) levels) → length (placed_list es at next).1 ≡ taken (parts (tree.list es) levels)
  taken_by_list (tree.packed b xs) levels at next h = let a = length-packed b (packed_size b (length xs)) xs in omega (arith, a)
  taken_by_list (tree.pointers ts) levels at next h =
      let A = placed_all ts next (next + trees_count ts) in
      let b = length-append A.0 A.1 in
      let c = length-placed_all ts next (next + trees_count ts) in
      let d = taken_by_all ts (levels - 1) next (next + trees_count ts) h.1 in
      omega (arith, b, c, d)
  taken_by_list (tree.structs d p ss) levels at next h =
      let size = structs_count ss * (d + p) in
      let A = placed_structs ss (next + 1) (next + 1 + size) in
      let even = not-false (are_even d p ss) h.0.0.0 in
      let b = length-append A.0 A.1 in
      let c = length-placed_structs ss d p (next + 1) (next + 1 + size) even in
      let e = taken_by_structs ss (levels - 1) (next + 1) (next + 1 + size) h.1 in
      omega (arith, b, c, e)

  pub taken_by_structs : (ss : Structs) (levels at next : ℕ) → HaveSizes (parts_of_structs ss levels) → length (placed_structs ss at next).1 ≡ taken (parts_of_structs ss levels)
  taken_by_structs tree.no_structs levels at next h = refl
  taken_by_structs (tree.struct_of ws ts ss) levels at next h =
      let first = (placed_all ts (at + length ws) next).1 in
      let rest = (placed_structs ss (at + length ws + trees_count ts) (next + length first)).1 in
      let a = length-append first rest in
      let b = words_append words_taken (parts_of_all ts levels) (parts_of_structs ss levels) in
      let c = taken_by_all ts levels (at + length ws) next (sizes_left (parts_of_all ts levels) (parts_of_structs ss levels) h) in
      let d = taken_by_structs ss levels (at + length ws + trees_count ts) (next + length first) (sizes_right (parts_of_all ts levels) (parts_of_structs ss levels) h) in
      omega (arith, a, b, c, d)

-- the trees from number i on, of which the first is placed next
module _ (ts : List program.Tree) (i : ℕ) (t : program.Tree) (lt : i < length ts) (is_t : t ≡ get_or ts i t) where
  abbrev rest : Trees
  rest = trees_view (drop (i + 1) ts)

  split : trees_view (drop i ts) ≡ tree.tree (view t) rest
  split = ap trees_view (item_more ts i t lt is_t)

  pub trees_sizes : HaveSizes (parts_of_all (trees_view (drop i ts)) 0) → HaveSizes (parts (view t) 0) × HaveSizes (parts_of_all (trees_view (drop (i + 1) ts)) 0)
  trees_sizes h =
      let g = subst (λ (x : Trees). HaveSizes (parts_of_all x 0)) split h in
      (sizes_left (parts (view t) 0) (parts_of_all rest 0) g, sizes_right (parts (view t) 0) (parts_of_all rest 0) g)

  pub trees_taken : taken (parts_of_all (trees_view (drop i ts)) 0) ≡ taken (parts (view t) 0) + taken (parts_of_all (trees_view (drop (i + 1) ts)) 0)
  trees_taken = ap (λ (x : Trees). taken (parts_of_all x 0)) split ∙ words_append words_taken (parts (view t) 0) (parts_of_all rest 0)

  pub trees_fit : (all : Trees) → Fits (view t) → (FitsAll (trees_view (drop i ts)) → FitsAll all) → FitsAll (trees_view (drop (i + 1) ts)) → FitsAll all
  trees_fit all fits so_far behind = so_far (subst (λ (x : Trees). FitsAll x) (sym split) (fits, behind))

  pub trees_placed : (ws new total : List ℕ) (slot word : ℕ) → slot + (length ts - i) ≤ length ws → new ≡ set (ws ++ (placed (view t) slot (length ws)).1) slot word → word ≡ (placed (view t) slot (length ws)).0
      → filled ws slot (placed_all (trees_view (drop i ts)) slot (length ws)) ≡ total → filled new (slot + 1) (placed_all (trees_view (drop (i + 1) ts)) (slot + 1) (length new)) ≡ total
  trees_placed ws new total slot word inside is_new is_word so_far =
      let first = placed (view t) slot (length ws) in
      let P = placed_all rest (slot + 1) (length ws + length first.1) in
      let long : length new ≡ length ws + length first.1 = ap length is_new ∙ length-set (ws ++ first.1) slot word ∙ length-append ws first.1 in
      let count : length P.0 ≡ length (drop (i + 1) ts) = length-placed_all rest (slot + 1) (length ws + length first.1) ∙ trees_counted (drop (i + 1) ts) in
      let short = length-drop (i + 1) ts in
      ap (λ (n : ℕ). filled new (slot + 1) (placed_all rest (slot + 1) n)) long
      ∙ ap (λ (l : List ℕ). filled l (slot + 1) P) is_new
      ∙ filled_tree ws first.1 P.0 P.1 slot word (omega (arith, count, short))
      ∙ ap (λ (w : ℕ). filled ws slot (w ∷ P.0, first.1 ++ P.1)) is_word
      ∙ ap (λ (x : Trees). filled ws slot (placed_all x slot (length ws))) (sym split)
      ∙ so_far

-- the structs from number i on, of which the first is placed next
module _ (ss : List Fields) (i : ℕ) (s : Fields) (lt : i < length ss) (is_s : s ≡ get_or ss i s) where
  abbrev behind_ : Structs
  behind_ = structs_view (drop (i + 1) ss)

  split_structs : structs_view (drop i ss) ≡ tree.struct_of s.words.items (trees_view s.pointers.trees.items) behind_
  split_structs = ap structs_view (item_more ss i s lt is_s) ∙ ap (λ (f : List ℕ × Trees). tree.struct_of f.0 f.1 behind_) (view_fields s)

  pub structs_sizes : HaveSizes (parts_of_structs (structs_view (drop i ss)) 0) → HaveSizes (parts_of_all (trees_view s.pointers.trees.items) 0) × HaveSizes (parts_of_structs (structs_view (drop (i + 1) ss)) 0)
  structs_sizes h =
      let g = subst (λ (x : Structs). HaveSizes (parts_of_structs x 0)) split_structs h in
      (sizes_left (parts_of_all (trees_view s.pointers.trees.items) 0) (parts_of_structs behind_ 0) g, sizes_right (parts_of_all (trees_view s.pointers.trees.items) 0) (parts_of_structs behind_ 0) g)

  pub structs_taken : taken (parts_of_structs (structs_view (drop i ss)) 0) ≡ taken (parts_of_all (trees_view s.pointers.trees.items) 0) + taken (parts_of_structs (structs_view (drop (i + 1) ss)) 0)
  structs_taken = ap (λ (x : Structs). taken (parts_of_structs x 0)) split_structs ∙ words_append words_taken (parts_of_all (trees_view s.pointers.trees.items) 0) (parts_of_structs behind_ 0)

  pub structs_fit : (all : Structs) → FitsAll (trees_view s.pointers.trees.items) → (FitsStructs (structs_view (drop i ss)) → FitsStructs all) → FitsStructs (structs_view (drop (i + 1) ss)) → FitsStructs all
  structs_fit all fits so_far behind = so_far (subst (λ (x : Structs). FitsStructs x) (sym split_structs) (fits, behind))

  pub structs_even : (d p : ℕ) → are_even d p (structs_view (drop i ss)) ≡ true → (length s.words.items ≡ d) × (length s.pointers.trees.items ≡ p) × (are_even d p (structs_view (drop (i + 1) ss)) ≡ true)
  structs_even d p h =
      let f = even_parts d p s.words.items (trees_view s.pointers.trees.items) behind_ (subst (λ (x : Structs). are_even d p x ≡ true) split_structs h) in
      (f.0, sym (trees_counted s.pointers.trees.items) ∙ f.1, f.2)

  pub structs_placed : (ws new total : List ℕ) (d p slot n : ℕ) → are_even d p (structs_view (drop i ss)) ≡ true → n ≡ slot + (d + p) → slot + (length ss - i) * (d + p) ≤ length ws → HaveSizes (parts_of_structs (structs_view (drop i ss)) 0)
      → new ≡ filled ws slot (s.words.items ++ (placed_all (trees_view s.pointers.trees.items) (slot + length s.words.items) (length ws)).0, (placed_all (trees_view s.pointers.trees.items) (slot + length s.words.items) (length ws)).1)
      → filled ws slot (placed_structs (structs_view (drop i ss)) slot (length ws)) ≡ total → filled new n (placed_structs (structs_view (drop (i + 1) ss)) n (length new)) ≡ total
  structs_placed ws new total d p slot n even is_n inside sizes is_new so_far =
      let e = structs_even d p even in
      let ds = s.words.items in
      let ts = trees_view s.pointers.trees.items in
      let A = placed_all ts (slot + length ds) (length ws) in
      let next = slot + length ds + trees_count ts in
      let P = placed_structs behind_ next (length ws + length A.1) in
      let count = length-placed_all ts (slot + length ds) (length ws) in
      let counted = trees_counted s.pointers.trees.items in
      let own = length-append ds A.0 in
      let ed = e.0 in
      let ep = e.1 in
      let short = length-drop (i + 1) ss in
      let size = length-placed_structs behind_ d p next (length ws + length A.1) e.2 in
      let left = structs_counted (drop (i + 1) ss) in
      let here : n ≡ slot + length (ds ++ A.0) = omega (arith, is_n, ed, ep, own, count, counted) in
      let there : n ≡ next = omega (arith, is_n, ed, ep, counted) in
      let one : length ss - i ≡ suc (length ss - (i + 1)) = omega arith in
      let more : suc (length ss - (i + 1)) * (d + p) ≡ (d + p) + (length ss - (i + 1)) * (d + p) = omega arith in
      let room : slot + ((d + p) + (length ss - (i + 1)) * (d + p)) ≤ length ws = subst (λ (k : ℕ). slot + k ≤ length ws) (ap (λ (k : ℕ). k * (d + p)) one ∙ more) inside in
      let sized : length P.0 ≡ (length ss - (i + 1)) * (d + p) = size ∙ ap (λ (k : ℕ). k * (d + p)) (left ∙ short) in
      let a1 = length-append (take slot ws) ((ds ++ A.0) ++ (drop (slot + length (ds ++ A.0)) ws ++ A.1)) in
      let a2 = length-append (ds ++ A.0) (drop (slot + length (ds ++ A.0)) ws ++ A.1) in
      let a3 = length-append (drop (slot + length (ds ++ A.0)) ws) A.1 in
      let a4 = length-drop (slot + length (ds ++ A.0)) ws in
      let a5 = length-take-le slot ws (omega arith) in
      let long : length new ≡ length ws + length A.1 = ap length is_new ∙ omega (arith, a1, a2, a3, a4, a5, here, is_n, room) in
      ap (λ (k : ℕ). filled new k (placed_structs behind_ k (length new))) there
      ∙ ap (λ (k : ℕ). filled new next (placed_structs behind_ next k)) long
      ∙ ap (λ (l : List ℕ). filled l next P) is_new
      ∙ ap (λ (k : ℕ). filled (filled ws slot (ds ++ A.0, A.1)) k P) (sym there ∙ here)
      ∙ filled_next ws (ds ++ A.0) A.1 P.0 P.1 slot (omega (arith, here, is_n, room, sized))
      ∙ ap (λ (l : List ℕ). filled ws slot (l, A.1 ++ P.1)) (append_assoc ds A.0 P.0)
      ∙ ap (λ (x : Structs). filled ws slot (placed_structs x slot (length ws))) (sym split_structs)
      ∙ so_far

sizes_join : (ps qs : List Part) → HaveSizes ps → HaveSizes qs → HaveSizes (ps ++ qs)
sizes_join [] qs h g = g
sizes_join (p ∷ ps) qs h g = (h.0, sizes_join ps qs h.1 g)

-- sizes do not depend on the levels that are left
mutual
  pub sizes_move : (t : Tree) (a b : ℕ) → HaveSizes (parts t a) → HaveSizes (parts t b)
  sizes_move tree.null a b h = h
  sizes_move (tree.capability index) a b h = (h.0, tt)
  sizes_move (tree.struct ds ts) a b h = (h.0, sizes_move_all ts (a - 1) (b - 1) h.1)
  sizes_move (tree.list es) a b h = (h.0, sizes_move_list es (a - 1) (b - 1) h.1)

  sizes_move_all : (ts : Trees) (a b : ℕ) → HaveSizes (parts_of_all ts a) → HaveSizes (parts_of_all ts b)
  sizes_move_all tree.no_trees a b h = h
  sizes_move_all (tree.tree t ts) a b h =
      sizes_join (parts t b) (parts_of_all ts b) (sizes_move t a b (sizes_left (parts t a) (parts_of_all ts a) h)) (sizes_move_all ts a b (sizes_right (parts t a) (parts_of_all ts a) h))

  sizes_move_list : (es : Elements) (a b : ℕ) → HaveSizes (parts_of_list es a) → HaveSizes (parts_of_list es b)
  sizes_move_list (tree.packed bits xs) a b h = h
  sizes_move_list (tree.pointers ts) a b h = sizes_move_all ts a b h
  sizes_move_list (tree.structs d p ss) a b h = sizes_move_structs ss a b h

  sizes_move_structs : (ss : Structs) (a b : ℕ) → HaveSizes (parts_of_structs ss a) → HaveSizes (parts_of_structs ss b)
  sizes_move_structs tree.no_structs a b h = h
  sizes_move_structs (tree.struct_of ws ts ss) a b h =
      sizes_join (parts_of_all ts b) (parts_of_structs ss b) (sizes_move_all ts a b (sizes_left (parts_of_all ts a) (parts_of_structs ss a) h)) (sizes_move_structs ss a b (sizes_right (parts_of_all ts a) (parts_of_structs ss a) h))

pub taken_move : (t : Tree) (a b : ℕ) → HaveSizes (parts t a) → taken (parts t a) ≡ taken (parts t b)
taken_move t a b h = sym (taken_by t a 0 1 h) ∙ taken_by t b 0 1 (sizes_move t a b h)
