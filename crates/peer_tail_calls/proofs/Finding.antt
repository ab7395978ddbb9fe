-- What is noted of all capabilities is the shortest path to each.
use Rattle.std.proofs.Common.{◌≡◌, ℕ, ◌+◌, ◌<◌, ◌≤◌, Bool, true, false, eqb, leb, ltb, List, [], ◌∷◌, ◌++◌, length, drop, replicate, get_or, Some, None, refl, sym, ap, ◌∙◌, arith}
use Rattle.std.specs.Prelude.{Option, if◌then◌else◌}
use Rattle.std.proofs.lemmas.Bool.{leb-true, leb-false, le-leb, lt-leb, lt-ltb, le-ltb, eqb-true, eqb-false, eq-eqb, ne_eqb}
use Rattle.std.proofs.lemmas.List.{drop_more, drop_all, length-set, get_or-set_same, get_or-set_other, get_or-replicate, length-replicate}
use Rattle.std.specs.Global.{Vec}
use Rattle.capn_trees.specs.declared.tree.Tree as program
use Rattle.capn_trees.specs.declared.tree.Tree.TheVariants as tree_form
use Rattle.capn_trees.specs.declared.tree.Items.{Items}
use Rattle.capn_trees.specs.declared.tree.Pointers.{Pointers}
use Rattle.capn_trees.specs.Trees.{Tree, Trees}
use Rattle.capn_trees.proofs.Viewed.{view_null, view_capability, view_struct, view_list}
use Rattle.capn_trees.specs.Views.{view, trees_view}
use Rattle.rpc_msg.specs.Op.{Op}
use Rattle.rpc_msg.specs.Op.TheVariants.{Field}
use Rattle.peer_tail_calls.specs.Noting.{shorter, noted, noted_all}
use Rattle.peer_tail_calls.specs.Paths.{Find, finds, finds_each, leading_to, no_longer, shortest, path_to, AreShortest}

-- ---- one after the other

noted_append : (found : List (Option (List Op))) (xs ys : List Find) → noted_all found (xs ++ ys) ≡ noted_all (noted_all found xs) ys
noted_append found [] ys = refl
noted_append found (x ∷ xs) ys = noted_append (noted found x) xs ys

module _ (path : List Op) (n : ℕ) (old new : List (Option (List Op))) (ts : List program.Tree) (i : ℕ) (t : program.Tree) (total : List (Option (List Op))) where
  -- those behind the pointer at i
  abbrev rest : List Find
  rest = if ltb (n + 1) 65536 then finds_each path (n + 1) (trees_view (drop (i + 1) ts)) else []

  each_more : i < length ts → t ≡ get_or ts i t → new ≡ noted_all old (finds (path ++ Field n ∷ []) (view t)) → noted_all old (finds_each path n (trees_view (drop i ts))) ≡ total → noted_all new rest ≡ total
  each_more lt is_t is_new so_far =
      ap (λ x. noted_all x rest) is_new
      ∙ sym (noted_append old (finds (path ++ Field n ∷ []) (view t)) rest)
      ∙ sym (ap (λ l. noted_all old (finds_each path n (trees_view l))) (drop_more ts i t lt ∙ ap (λ y. y ∷ drop (i + 1) ts) (sym is_t)))
      ∙ so_far

  -- there are more pointers
  pub each_next : (m : ℕ) → n + 1 < 65536 → m ≡ n + 1 → i < length ts → t ≡ get_or ts i t → new ≡ noted_all old (finds (path ++ Field n ∷ []) (view t))
      → noted_all old (finds_each path n (trees_view (drop i ts))) ≡ total → noted_all new (finds_each path m (trees_view (drop (i + 1) ts))) ≡ total
  each_next m small is_m lt is_t is_new so_far =
      ap (λ k. noted_all new (finds_each path k (trees_view (drop (i + 1) ts)))) is_m
      ∙ sym (ap (λ b. noted_all new (if b then finds_each path (n + 1) (trees_view (drop (i + 1) ts)) else [])) (lt-ltb (n + 1) 65536 small))
      ∙ each_more lt is_t is_new so_far

  -- it was the last that has a number
  pub each_last : (n + 1 < 65536 → ⊥) → i < length ts → t ≡ get_or ts i t → new ≡ noted_all old (finds (path ++ Field n ∷ []) (view t))
      → noted_all old (finds_each path n (trees_view (drop i ts))) ≡ total → new ≡ total
  each_last large lt is_t is_new so_far =
      sym (ap (λ b. noted_all new (if b then finds_each path (n + 1) (trees_view (drop (i + 1) ts)) else [])) (le-ltb (n + 1) 65536 (omega (arith, large))))
      ∙ each_more lt is_t is_new so_far

pub each_done : (path : List Op) (n : ℕ) (new total : List (Option (List Op))) (ts : List program.Tree) (i : ℕ) → length ts ≤ i
    → noted_all new (finds_each path n (trees_view (drop i ts))) ≡ total → new ≡ total
each_done path n new total ts i le so_far = sym (ap (λ l. noted_all new (finds_each path n (trees_view l))) (drop_all i ts le)) ∙ so_far

-- ---- the shortest

-- the path that was there, and the shortest of those behind
merge : Option (List Op) → Option (List Op) → Option (List Op)
merge None r = r
merge (Some q) None = Some q
merge (Some q) (Some r) = Some (if leb (length q) (length r) then q else r)

-- of three
of_three : (q p r : List Op) (x y : Bool) → leb (length q) (length p) ≡ x → leb (length p) (length r) ≡ y
    → (if leb (length (if x then q else p)) (length r) then (if x then q else p) else r) ≡ (if leb (length q) (length (if y then p else r)) then q else (if y then p else r))
of_three q p r true true a b =
    let qp : length q ≤ length p = leb-true _ _ a in
    let pr : length p ≤ length r = leb-true _ _ b in
    let qr : leb (length q) (length r) ≡ true = le-leb _ _ (omega (arith, qp, pr)) in
    ap (λ z. if z then q else r) qr ∙ sym (ap (λ z. if z then q else p) a)
of_three q p r true false a b = refl
of_three q p r false true a b = ap (λ z. if z then p else r) b ∙ sym (ap (λ z. if z then q else p) a)
of_three q p r false false a b =
    let pq : length p < length q = leb-false _ _ a in
    let rp : length r < length p = leb-false _ _ b in
    let qr : leb (length q) (length r) ≡ false = lt-leb _ _ (omega (arith, pq, rp)) in
    ap (λ z. if z then p else r) b ∙ sym (ap (λ z. if z then q else r) qr)

kept_here : (o : Option (List Op)) (p : List Op) (s : Option (List Op)) → merge (Some (shorter o p)) s ≡ merge o (Some (no_longer p s))
unfolding merge
kept_here None p None = refl
kept_here None p (Some r) = refl
kept_here (Some q) p None = refl
kept_here (Some q) p (Some r) = ap Some (of_three q p r _ _ refl refl)

merge_none : (o : Option (List Op)) → merge o None ≡ o
unfolding merge
merge_none None = refl
merge_none (Some q) = refl

entry_by : (found : List (Option (List Op))) (x : Find) (behind : List (List Op)) (after : Option (List Op)) (k : ℕ) (b : Bool) → eqb x.0 k ≡ b → k < length found
    → after ≡ merge (get_or (noted found x) k None) (shortest behind) → after ≡ merge (get_or found k None) (shortest (if b then x.1 ∷ behind else behind))
entry_by found x behind after k true e lt so_far =
    let i : x.0 ≡ k = eqb-true x.0 k e in
    let here : x.0 < length found = omega (arith, i, lt) in
    so_far
    ∙ ap (λ (o : Option (List Op)). merge o (shortest behind)) (ap (λ (j : ℕ). get_or (noted found x) j None) (sym i) ∙ get_or-set_same found x.0 (Some (shorter (get_or found x.0 None) x.1)) None here)
    ∙ kept_here (get_or found x.0 None) x.1 (shortest behind)
    ∙ ap (λ (j : ℕ). merge (get_or found j None) (Some (no_longer x.1 (shortest behind)))) i
entry_by found x behind after k false e lt so_far =
    so_far ∙ ap (λ (o : Option (List Op)). merge o (shortest behind)) (get_or-set_other found x.0 k (Some (shorter (get_or found x.0 None) x.1)) None (λ j. eqb-false x.0 k e (sym j)))

entry : (found : List (Option (List Op))) (xs : List Find) (k : ℕ) → k < length found → get_or (noted_all found xs) k None ≡ merge (get_or found k None) (shortest (leading_to k xs))
entry found [] k lt = sym (merge_none (get_or found k None))
entry found (x ∷ xs) k lt =
    let same : length (noted found x) ≡ length found = length-set found x.0 (Some (shorter (get_or found x.0 None) x.1)) in
    entry_by found x (leading_to k xs) _ k (eqb x.0 k) refl lt (entry (noted found x) xs k (omega (arith, same, lt)))

pub noted_length : (found : List (Option (List Op))) (xs : List Find) → length (noted_all found xs) ≡ length found
noted_length found [] = refl
noted_length found (x ∷ xs) = noted_length (noted found x) xs ∙ length-set found x.0 (Some (shorter (get_or found x.0 None) x.1))

pub found_length : (t : Tree) (n : ℕ) (start found : List (Option (List Op))) → start ≡ replicate n None → found ≡ noted_all start (finds [] t) → length found ≡ n
found_length t n start found is_start is_found = ap length is_found ∙ noted_length start (finds [] t) ∙ ap length is_start ∙ length-replicate n None

pub all_shortest : (t : Tree) (n : ℕ) (start found : List (Option (List Op))) → start ≡ replicate n None → found ≡ noted_all start (finds [] t) → AreShortest t found
unfolding merge
all_shortest t n start found is_start is_found k lt =
    let small : k < n = omega (arith, lt, found_length t n start found is_start is_found) in
    let here : k < length start = omega (arith, small, ap length is_start ∙ length-replicate n None) in
    ap (λ (f : List (Option (List Op))). get_or f k None) is_found ∙ entry start (finds [] t) k here
    ∙ ap (λ (o : Option (List Op)). merge o (path_to t k)) (ap (λ (f : List (Option (List Op))). get_or f k None) is_start ∙ get_or-replicate n k None None small)

-- ---- what a tree has, by its form

pub finds_null : (path : List Op) → finds path (view tree_form.Null) ≡ []
finds_null path = ap (finds path) view_null

pub finds_list : (path : List Op) (items : Items) → finds path (view (tree_form.List items)) ≡ []
finds_list path items = ap (finds path) (view_list items)

pub finds_capability : (path : List Op) (index : ℕ) → finds path (view (tree_form.Cap index)) ≡ (index, path) ∷ []
finds_capability path index = ap (finds path) (view_capability index)

-- the pointers of a struct, where so many steps lead to it
abbrev under : List Op → Trees → Bool → List Find
under path ts b = if b then [] else finds_each path 0 ts

pub finds_too_far : (path : List Op) (words : Vec ℕ) (ps : Pointers) → length path ≡ 16 → finds path (view (tree_form.Struct words ps)) ≡ []
finds_too_far path words ps e = ap (finds path) (view_struct words ps) ∙ ap (under path (trees_view ps.trees.items)) (eq-eqb (length path) 16 e)

pub finds_struct : (path : List Op) (words : Vec ℕ) (ps : Pointers) → (length path ≡ 16 → ⊥) → finds path (view (tree_form.Struct words ps)) ≡ finds_each path 0 (trees_view ps.trees.items)
finds_struct path words ps e = ap (finds path) (view_struct words ps) ∙ ap (under path (trees_view ps.trees.items)) (ne_eqb (length path) 16 e)

pub noted_as : (path : List Op) (t u : program.Tree) (old new : List (Option (List Op))) (xs : List Find) → t ≡ u → finds path (view u) ≡ xs → new ≡ noted_all old xs → new ≡ noted_all old (finds path (view t))
noted_as path t u old new xs is found e = e ∙ sym (ap (λ (v : program.Tree). noted_all old (finds path (view v))) is ∙ ap (noted_all old) found)
