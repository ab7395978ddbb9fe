-- What the steps of placing leave.
use Rattle.std.proofs.Common.{◌≡◌, ℕ, zero, suc, cond, eqb, ◌+◌, ◌*◌, ◌^◌, ◌<◌, ◌≤◌, Bool, true, false, List, [], ◌∷◌, ◌++◌, length, map, take, drop, refl, sym, ap, subst, ◌∙◌, append_assoc, arith}
use Rattle.std.specs.Prelude.{replicate}
use Rattle.std.proofs.lemmas.List.{length-append, length-drop, length-map, length-take-le, length-replicate}
use Rattle.capn_trees.specs.declared.tree.Tree as program
use Rattle.capn_trees.specs.declared.tree.Fields.{Fields}
use Rattle.capn_trees.specs.Views.{trees_view, structs_view}
use Rattle.capn_trees.specs.Trees as tree
use Rattle.capn_trees.specs.Trees.{Elements, trees_count}
use Rattle.capn_trees.specs.Widths.{packed_size}
use Rattle.capn_writing.specs.Placing.{size_number, placed_all, placed_structs, content_then}
use Rattle.capn_trees.specs.Writable.{parts, are_even}
use Rattle.capn_writing.specs.Laying.{HasRoom, AreNarrow, filled}
use Rattle.capn_writing.proofs.Sized.{taken}
use Rattle.capn_writing.proofs.Lengths.{length-placed_all, length-placed_structs}
use Rattle.capn_writing.proofs.Filled.{filled_put, filled_zeros}
use Rattle.capn_trees.proofs.Counts.{trees_counted, structs_counted}

pub fields_placed : (ts : List program.Tree) (ws done new ds : List ℕ) (at : ℕ) → done ≡ take at ws ++ (ds ++ drop (at + length ds) ws) → at + length ds + length ts ≤ length ws
    → new ≡ filled done (at + length ds) (placed_all (trees_view ts) (at + length ds) (length done))
    → new ≡ filled ws at (ds ++ (placed_all (trees_view ts) (at + length ds) (length ws)).0, (placed_all (trees_view ts) (at + length ds) (length ws)).1)
fields_placed ts ws done new ds at is_done inside is_new =
    let a = length-append (take at ws) (ds ++ drop (at + length ds) ws) in
    let b = length-append ds (drop (at + length ds) ws) in
    let c = length-drop (at + length ds) ws in
    let d = length-take-le at ws (omega arith) in
    let long : length done ≡ length ws = ap length is_done ∙ omega (arith, a, b, c, d) in
    let P = placed_all (trees_view ts) (at + length ds) (length ws) in
    let n = length-placed_all (trees_view ts) (at + length ds) (length ws) in
    let m = trees_counted ts in
    is_new ∙ ap (λ (k : ℕ). filled done (at + length ds) (placed_all (trees_view ts) (at + length ds) k)) long
    ∙ ap (λ (l : List ℕ). filled l (at + length ds) P) is_done
    ∙ filled_put ws ds P.0 P.1 at (omega (arith, n, m))

pub pointers_placed : (ts : List program.Tree) (ws zs new : List ℕ) (next : ℕ) → zs ≡ ws ++ replicate (length ts) 0 → next ≡ length ws
    → new ≡ filled zs next (placed_all (trees_view ts) next (length zs)) → new ≡ ws ++ content_then (placed_all (trees_view ts) (length ws) (length ws + length ts))
pointers_placed ts ws zs new next is_zs is_next is_new =
    let a = length-append ws (replicate (length ts) 0) in
    let b = length-replicate {A = ℕ} (length ts) 0 in
    let long : length zs ≡ length ws + length ts = ap length is_zs ∙ omega (arith, a, b) in
    let P = placed_all (trees_view ts) (length ws) (length ws + length ts) in
    is_new ∙ ap (λ (k : ℕ). filled zs k (placed_all (trees_view ts) k (length zs))) is_next
    ∙ ap (λ (k : ℕ). filled zs (length ws) (placed_all (trees_view ts) (length ws) k)) long
    ∙ ap (λ (l : List ℕ). filled l (length ws) P) is_zs
    ∙ filled_zeros ws P.0 P.1 (length ts) (length-placed_all (trees_view ts) (length ws) (length ws + length ts) ∙ trees_counted ts)

pub list_placed : (ss : List Fields) (d p : ℕ) (ws tagged zs new : List ℕ) (next tag : ℕ) → are_even d p (structs_view ss) ≡ true → tagged ≡ ws ++ tag ∷ [] → zs ≡ tagged ++ replicate (length ss * (d + p)) 0 → next ≡ length ws + 1
    → new ≡ filled zs next (placed_structs (structs_view ss) next (length zs)) → new ≡ ws ++ (tag ∷ content_then (placed_structs (structs_view ss) (length ws + 1) (length ws + 1 + length ss * (d + p))))
list_placed ss d p ws tagged zs new next tag even is_tagged is_zs is_next is_new =
    let n = length ss * (d + p) in
    let front : length tagged ≡ length ws + 1 = ap length is_tagged ∙ length-append ws (tag ∷ []) in
    let a = length-append tagged (replicate n 0) in
    let b = length-replicate {A = ℕ} n 0 in
    let long : length zs ≡ length ws + 1 + n = ap length is_zs ∙ omega (arith, a, b, front) in
    let P = placed_structs (structs_view ss) (length ws + 1) (length ws + 1 + n) in
    let size : length P.0 ≡ n = length-placed_structs (structs_view ss) d p (length ws + 1) (length ws + 1 + n) even ∙ ap (λ (k : ℕ). k * (d + p)) (structs_counted ss) in
    is_new ∙ ap (λ (k : ℕ). filled zs k (placed_structs (structs_view ss) k (length zs))) is_next
    ∙ ap (λ (k : ℕ). filled zs (length ws + 1) (placed_structs (structs_view ss) (length ws + 1) k)) long
    ∙ ap (λ (k : ℕ). filled zs k P) (sym front)
    ∙ ap (λ (l : List ℕ). filled l (length tagged) P) is_zs
    ∙ filled_zeros tagged P.0 P.1 n size
    ∙ ap (λ (l : List ℕ). l ++ (P.0 ++ P.1)) is_tagged
    ∙ append_assoc ws (tag ∷ []) (P.0 ++ P.1)

-- a struct behind all words
pub struct_placed : (ts : List program.Tree) (ws zs new ds : List ℕ) (next : ℕ) → zs ≡ ws ++ replicate (length ds + length ts) 0 → next ≡ length ws
    → new ≡ filled zs next (ds ++ (placed_all (trees_view ts) (next + length ds) (length zs)).0, (placed_all (trees_view ts) (next + length ds) (length zs)).1)
    → new ≡ ws ++ (ds ++ content_then (placed_all (trees_view ts) (length ws + length ds) (length ws + length ds + trees_count (trees_view ts))))
struct_placed ts ws zs new ds next is_zs is_next is_new =
    let n = length ds + length ts in
    let m = trees_counted ts in
    let a = length-append ws (replicate n 0) in
    let b = length-replicate {A = ℕ} n 0 in
    let long : length zs ≡ length ws + length ds + trees_count (trees_view ts) = ap length is_zs ∙ omega (arith, a, b, m) in
    let P = placed_all (trees_view ts) (length ws + length ds) (length ws + length ds + trees_count (trees_view ts)) in
    let c = length-append ds P.0 in
    let e = length-placed_all (trees_view ts) (length ws + length ds) (length ws + length ds + trees_count (trees_view ts)) in
    is_new ∙ ap (λ (k : ℕ). filled zs k (ds ++ (placed_all (trees_view ts) (k + length ds) (length zs)).0, (placed_all (trees_view ts) (k + length ds) (length zs)).1)) is_next
    ∙ ap (λ (k : ℕ). filled zs (length ws) (ds ++ (placed_all (trees_view ts) (length ws + length ds) k).0, (placed_all (trees_view ts) (length ws + length ds) k).1)) long
    ∙ ap (λ (l : List ℕ). filled l (length ws) (ds ++ P.0, P.1)) is_zs
    ∙ filled_zeros ws (ds ++ P.0) P.1 n (omega (arith, c, e, m))
    ∙ ap (λ (l : List ℕ). ws ++ l) (append_assoc ds P.0 P.1)

-- a list that visits so few words has so few elements
pub few_structs : (n k : ℕ) → n * k + 1 + cond (eqb k 0) n 0 ≤ 65536 → n ≤ 65536
few_structs n zero h = omega arith
few_structs n (suc k) h = let split : n * suc k ≡ n * k + n = omega arith in omega (arith, split, h)

-- a list that takes so few words has so few elements
pub few_elements : (bits n : ℕ) → 0 < bits → packed_size bits n ≤ 65536 → n < 2 ^ 29
few_elements zero n some h = omega arith
few_elements (suc b) n some h = let split : n * suc b ≡ n * b + n = omega arith in omega (arith, split, h)

small_either : (b : Bool) (x y : ℕ) → x < 8 → y < 8 → cond b x y < 8
small_either true x y lx ly = lx
small_either false x y lx ly = ly

pub small_number : (bits : ℕ) → size_number bits < 8
small_number bits =
    small_either (eqb bits 0) 0 _ (omega arith) (small_either (eqb bits 1) 1 _ (omega arith) (small_either (eqb bits 8) 2 _ (omega arith) (small_either (eqb bits 16) 3 _ (omega arith) (small_either (eqb bits 32) 4 5 (omega arith) (omega arith)))))

pub narrow_1 : AreNarrow 1 1
narrow_1 = record { fill = record { some = omega arith; whole = refl; most = omega arith }; is_size = refl }

pub narrow_16 : AreNarrow 16 3
narrow_16 = record { fill = record { some = omega arith; whole = refl; most = omega arith }; is_size = refl }

pub narrow_32 : AreNarrow 32 4
narrow_32 = record { fill = record { some = omega arith; whole = refl; most = omega arith }; is_size = refl }

-- room for what takes as many words
pub room_for : {n k words room : ℕ} → HasRoom n words room → n ≡ k → HasRoom k words room
room_for {n} {k} {words} {room} h e = subst (λ (i : ℕ). HasRoom i words room) e h

pub packed_room : {A : Type 0} (bits : ℕ) (xs : List A) (f : A → ℕ) (es : Elements) (words room : ℕ) → es ≡ tree.packed bits (map f xs) → HasRoom (taken (parts (tree.list es) 0)) words room → HasRoom (packed_size bits (length xs)) words room
packed_room bits xs f es words room e h =
    let all : taken (parts (tree.list (tree.packed bits (map f xs))) 0) ≡ packed_size bits (length (map f xs)) = omega arith in
    room_for (subst (λ (x : Elements). HasRoom (taken (parts (tree.list x) 0)) words room) e h) (all ∙ ap (packed_size bits) (length-map xs f))

pub bytes_room : (xs : List ℕ) (es : Elements) (words room : ℕ) → es ≡ tree.packed 8 xs → HasRoom (taken (parts (tree.list es) 0)) words room → HasRoom (packed_size 8 (length xs)) words room
bytes_room xs es words room e h = room_for (subst (λ (x : Elements). HasRoom (taken (parts (tree.list x) 0)) words room) e h) (omega arith)

pub eights_room : (xs : List ℕ) (es : Elements) (words room : ℕ) → es ≡ tree.packed 64 xs → HasRoom (taken (parts (tree.list es) 0)) words room → HasRoom (packed_size 64 (length xs)) words room
eights_room xs es words room e h = room_for (subst (λ (x : Elements). HasRoom (taken (parts (tree.list x) 0)) words room) e h) (omega arith)
