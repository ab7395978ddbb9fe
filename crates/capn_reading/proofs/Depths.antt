-- What is read nests no deeper than the levels that were left.
use Rattle.std.proofs.Common.{◌≡◌, ℕ, zero, suc, ◌+◌, ◌-◌, ◌<◌, ◌≤◌, Bool, true, false, eqb, ◌&&◌, ◌||◌, List, [], ◌∷◌, ◌++◌, take, drop, Ok, refl, sym, ap, ◌∙◌, arith}
use Rattle.std.proofs.lemmas.Bool.{ne_eqb, or_parts}
use Rattle.capn_trees.specs.Trees as tree
use Rattle.capn_trees.specs.Trees.{Tree, Trees, Structs}
use Rattle.capn_trees.specs.Writable.{Part, parts, parts_of_all, parts_of_structs, is_too_deep, is_deeper, are_deeper, some_part}
use Rattle.capn_trees.specs.Widths.{bits_of}
use Rattle.capn_reading.specs.declared.referent.Referent.{Referent}
use Rattle.capn_reading.specs.declared.referent.Referent.TheVariants as referent
use Rattle.capn_reading.specs.declared.layout.Layout.{Layout}
use Rattle.capn_reading.specs.declared.layout.Layout.TheVariants as layout
use Rattle.capn_reading.specs.Segments.{segment_of}
use Rattle.capn_reading.specs.Following.{◌>>=◌, visit, followed}
use Rattle.capn_reading.specs.Layouts.{laid, weight}
use Rattle.capn_reading.specs.Reading.{Reading, elements, pointers_at, structs_at, content_of, shallow, deep, reading}
use Rattle.capn_reading.proofs.Rooted.{bind_ok, first_is}

-- each tree that is read nests at most so deep
abbrev pub AreShallow : (ℕ → ℕ → ℕ → Reading Tree) → ℕ → Type 0
AreShallow read k = (s i v : ℕ) (t : Tree) (after : ℕ) → read s i v ≡ Ok (t, after) → is_deeper t k ≡ false

none_append : (ps qs : List Part) → some_part is_too_deep ps ≡ false → some_part is_too_deep qs ≡ false → some_part is_too_deep (ps ++ qs) ≡ false
none_append [] qs a b = b
none_append (p ∷ ps) qs a b =
    let h = or_parts (is_too_deep p) (some_part is_too_deep ps) a in
    rw (h.0, none_append ps qs h.1 b) refl

pub pointers_shallow : (read : ℕ → ℕ → ℕ → Reading Tree) (k : ℕ) → AreShallow read k → (s i n v : ℕ) (ts : Trees) (after : ℕ) → pointers_at read s i n v ≡ Ok (ts, after) → are_deeper ts k ≡ false
unfolding pointers_at
pointers_shallow read k h s i zero v ts after e = ap (λ (us : Trees). are_deeper us k) (sym (first_is tree.no_trees ts v after e))
pointers_shallow read k h s i (suc n) v ts after e =
    let a = bind_ok (read s i v) (λ first. pointers_at read s (i + 1) n first.1 >>= λ rest. Ok (tree.tree first.0 rest.0, rest.1)) (ts, after) e in
    let b = bind_ok (pointers_at read s (i + 1) n a.0.1) (λ rest. Ok (tree.tree a.0.0 rest.0, rest.1)) (ts, after) a.2 in
    ap (λ (us : Trees). are_deeper us k) (sym (first_is (tree.tree a.0.0 b.0.0) ts b.0.1 after b.2))
    ∙ none_append (parts a.0.0 k) (parts_of_all b.0.0 k) (h s i v a.0.0 a.0.1 a.1) (pointers_shallow read k h s (i + 1) n a.0.1 b.0.0 b.0.1 b.1)

structs_shallow : (m : List (List ℕ)) (read : ℕ → ℕ → ℕ → Reading Tree) (k : ℕ) → AreShallow read k → (s d p i n v : ℕ) (ss : Structs) (after : ℕ) → structs_at m read s d p i n v ≡ Ok (ss, after)
    → some_part is_too_deep (parts_of_structs ss k) ≡ false
unfolding structs_at
structs_shallow m read k h s d p i zero v ss after e = ap (λ (us : Structs). some_part is_too_deep (parts_of_structs us k)) (sym (first_is tree.no_structs ss v after e))
structs_shallow m read k h s d p i (suc n) v ss after e =
    let ws = take d (drop i (segment_of m s)) in
    let a = bind_ok (pointers_at read s (i + d) p v) (λ first. structs_at m read s d p (i + (d + p)) n first.1 >>= λ rest. Ok (tree.struct_of ws first.0 rest.0, rest.1)) (ss, after) e in
    let b = bind_ok (structs_at m read s d p (i + (d + p)) n a.0.1) (λ rest. Ok (tree.struct_of ws a.0.0 rest.0, rest.1)) (ss, after) a.2 in
    ap (λ (us : Structs). some_part is_too_deep (parts_of_structs us k)) (sym (first_is (tree.struct_of ws a.0.0 b.0.0) ss b.0.1 after b.2))
    ∙ none_append (parts_of_all a.0.0 k) (parts_of_structs b.0.0 k) (pointers_shallow read k h s (i + d) p v a.0.0 a.0.1 a.1) (structs_shallow m read k h s d p (i + (d + p)) n a.0.1 b.0.0 b.0.1 b.1)

-- a content where there is a level for it, and what it holds
over : (k : ℕ) (b : Bool) → 0 < k → b ≡ false → ((true && eqb k 0) || b) ≡ false
over k b some e =
    let more : eqb k 0 ≡ false = ne_eqb k 0 (λ none. omega arith) in
    rw (more, e) refl

content_shallow : (m : List (List ℕ)) (read : ℕ → ℕ → ℕ → Reading Tree) (k : ℕ) → 0 < k → AreShallow read (k - 1) → (s : ℕ) (place : Layout) (v : ℕ) (t : Tree) (after : ℕ) → content_of m read s place v ≡ Ok (t, after)
    → is_deeper t k ≡ false
unfolding content_of
content_shallow m read k some h s (layout.Struct start d p) v t after e =
    let ws = take d (drop start (segment_of m s)) in
    let a = bind_ok (pointers_at read s (start + d) p v) (λ found. Ok (tree.struct ws found.0, found.1)) (t, after) e in
    ap (λ (u : Tree). is_deeper u k) (sym (first_is (tree.struct ws a.0.0) t a.0.1 after a.2))
    ∙ over k (are_deeper a.0.0 (k - 1)) some (pointers_shallow read (k - 1) h s (start + d) p v a.0.0 a.0.1 a.1)
content_shallow m read k some h s (layout.Packed start width count) v t after e =
    ap (λ (u : Tree). is_deeper u k) (sym (first_is (tree.list (tree.packed (bits_of width) (elements (drop start (segment_of m s)) (bits_of width) 0 count))) t v after e))
    ∙ over k false some refl
content_shallow m read k some h s (layout.Pointers start count) v t after e =
    let a = bind_ok (pointers_at read s start count v) (λ found. Ok (tree.list (tree.pointers found.0), found.1)) (t, after) e in
    ap (λ (u : Tree). is_deeper u k) (sym (first_is (tree.list (tree.pointers a.0.0)) t a.0.1 after a.2))
    ∙ over k (are_deeper a.0.0 (k - 1)) some (pointers_shallow read (k - 1) h s start count v a.0.0 a.0.1 a.1)
content_shallow m read k some h s (layout.Structs start count d p words) v t after e =
    let a = bind_ok (structs_at m read s d p start count v) (λ found. Ok (tree.list (tree.structs d p found.0), found.1)) (t, after) e in
    ap (λ (u : Tree). is_deeper u k) (sym (first_is (tree.list (tree.structs d p a.0.0)) t a.0.1 after a.2))
    ∙ over k (some_part is_too_deep (parts_of_structs a.0.0 (k - 1))) some (structs_shallow m read (k - 1) h s d p start count v a.0.0 a.0.1 a.1)

shallow_flat : (k : ℕ) (r : Referent) (v : ℕ) (t : Tree) (after : ℕ) → shallow r v ≡ Ok (t, after) → is_deeper t k ≡ false
unfolding shallow
shallow_flat k referent.Null v t after e = ap (λ (u : Tree). is_deeper u k) (sym (first_is tree.null t v after e))
shallow_flat k (referent.Capability index) v t after e = ap (λ (u : Tree). is_deeper u k) (sym (first_is (tree.capability index) t v after e))
shallow_flat k (referent.Content c) v t after e = absurd cc

deep_shallow : (m : List (List ℕ)) (read : ℕ → ℕ → ℕ → Reading Tree) (k : ℕ) → 0 < k → AreShallow read (k - 1) → (r : Referent) (v : ℕ) (t : Tree) (after : ℕ) → deep m read r v ≡ Ok (t, after) → is_deeper t k ≡ false
unfolding deep
deep_shallow m read k some h referent.Null v t after e = ap (λ (u : Tree). is_deeper u k) (sym (first_is tree.null t v after e))
deep_shallow m read k some h (referent.Capability index) v t after e = ap (λ (u : Tree). is_deeper u k) (sym (first_is (tree.capability index) t v after e))
deep_shallow m read k some h (referent.Content c) v t after e =
    let a = bind_ok (laid m c) (λ place. visit v (weight place) >>= λ next. content_of m read c.segment place next) (t, after) e in
    let b = bind_ok (visit v (weight a.0)) (λ next. content_of m read c.segment a.0 next) (t, after) a.2 in
    content_shallow m read k some h c.segment a.0 b.0 t after b.2

pub reading_shallow : (m : List (List ℕ)) (caps levels k : ℕ) → levels ≤ k → AreShallow (reading m caps levels) k
unfolding reading
reading_shallow m caps zero k le s i v t after e =
    let a = bind_ok (followed m caps s i v) (λ found. shallow found.0 found.1) (t, after) e in
    shallow_flat k a.0.0 a.0.1 t after a.2
reading_shallow m caps (suc levels) k le s i v t after e =
    let a = bind_ok (followed m caps s i v) (λ found. deep m (reading m caps levels) found.0 found.1) (t, after) e in
    deep_shallow m (reading m caps levels) k (omega arith) (reading_shallow m caps levels (k - 1) (omega arith)) a.0.0 a.0.1 t after a.2
