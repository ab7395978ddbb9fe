-- The elements of lists that are places themselves: pointers, and structs.
use Rattle.std.proofs.Common.{◌≡◌, ℕ, zero, suc, ◌+◌, ◌-◌, ◌*◌, ◌<◌, ◌≤◌, false, ltb, List, drop, take, length, Option, Some, None, Ok, refl, sym, ap, subst, ◌∙◌, arith}
use Rattle.std.proofs.lemmas.Bool.{ltb-false, le-ltb}
use Rattle.std.proofs.Math.Nat.{mul-le-mul_right}
use Rattle.capn_trees.specs.declared.faults.PayloadFault.TheVariants.{BadTag}
use Rattle.capn_reading.specs.declared.pointer.Shape.{Shape}
use Rattle.capn_reading.specs.declared.pointer.Shape.TheVariants as shape
use Rattle.capn_reading.specs.declared.pointer.Tag.{Tag}
use Rattle.capn_reading.specs.declared.referent.Content.{Content}
use Rattle.capn_reading.specs.declared.referent.Referent.TheVariants as referent
use Rattle.capn_reading.specs.declared.layout.Layout.{Layout}
use Rattle.capn_reading.specs.declared.layout.Layout.TheVariants as layout
use Rattle.capn_reading.specs.Pointers.{words_of, tag_of}
use Rattle.capn_reading.specs.Segments.{segment_of, word_at}
use Rattle.capn_reading.specs.Following.{◌>>=◌, most_counted}
use Rattle.capn_reading.specs.Layouts.{placed, tagged, shaped, laid, weight}
use Rattle.capn_trees.specs.Trees as tree
use Rattle.capn_trees.specs.Trees.{Tree, Trees, Structs, pointer_at}
use Rattle.capn_reading.specs.Reading.{Reading, pointers_at, structs_at, content_of, deep, reading}
use Rattle.capn_reading.proofs.Rooted.{bind_ok, passed, read_as, first_is}
use Rattle.capn_reading.specs.Looking.{StandsFor, LeadsTo, item_of, struct_at}
use Rattle.capn_reading.proofs.Places.{ok_is, struct_read, pointers_read, pointers_past, reading_stands, null_stands}
use Rattle.capn_reading.proofs.Shown.{read_at}
use Rattle.capn_reading.proofs.Grown.{Grows, grows_not, grows_on, visited, reading_grows, pointers_grow}

-- ---- The words of a list of structs are no more than it says

abbrev room : Layout → ℕ × ℕ
room (layout.Struct start d p) = (0, 0)
room (layout.Packed start width count) = (0, 0)
room (layout.Pointers start count) = (0, 0)
room (layout.Structs start count d p words) = (count * (d + p), words)

tag_fits : (i words : ℕ) (o : Option Tag) (l : Layout) → tagged i words o ≡ Ok l → (room l).0 ≤ (room l).1
tag_fits i words None l e = absurd cc
tag_fits i words (Some tag) l e =
    let made = layout.Structs (i + 1) tag.count tag.data_words tag.pointer_words words in
    let p = passed (ltb words (tag.count * (tag.data_words + tag.pointer_words))) BadTag (Ok made) l e in
    subst (λ (x : Layout). (room x).0 ≤ (room x).1) (ok_is made l p.1) (ltb-false words (tag.count * (tag.data_words + tag.pointer_words)) p.0)

shape_fits : (m : List (List ℕ)) (s i : ℕ) (sh : Shape) (l : Layout) → shaped m s i sh ≡ Ok l → (room l).0 ≤ (room l).1
shape_fits m s i (shape.Struct d p) l e = subst (λ (x : Layout). (room x).0 ≤ (room x).1) (ok_is (layout.Struct i d p) l e) (omega arith)
shape_fits m s i (shape.Packed width count) l e = subst (λ (x : Layout). (room x).0 ≤ (room x).1) (ok_is (layout.Packed i width count) l e) (omega arith)
shape_fits m s i (shape.Pointers count) l e = subst (λ (x : Layout). (room x).0 ≤ (room x).1) (ok_is (layout.Pointers i count) l e) (omega arith)
shape_fits m s i (shape.Composite words) l e = tag_fits i words (tag_of (word_at m s i)) l e

structs_fit : (m : List (List ℕ)) (c : Content) (start count d p words : ℕ) → Ok (layout.Structs start count d p words) ≡ laid m c → count * (d + p) ≤ words
unfolding laid
structs_fit m c start count d p words is_laid =
    let a = bind_ok (placed c.start (words_of c.shape) (length (segment_of m c.segment))) (λ at. shaped m c.segment at c.shape) (layout.Structs start count d p words) (sym is_laid) in
    shape_fits m c.segment a.0 c.shape (layout.Structs start count d p words) a.2

-- ---- Each struct was read from its place

pub record IsStruct (m : List (List ℕ)) (read : ℕ → ℕ → ℕ → Reading Tree) (s d p at from : ℕ) (t : Tree) : Type 0 where
  pub pointers : Trees
  pub before : ℕ
  pub after : ℕ
  pub grown : Grows from before
  pub is_read : pointers_at read s (at + d) p before ≡ Ok (pointers, after)
  pub is : t ≡ tree.struct (take d (drop at (segment_of m s))) pointers

module _ (m : List (List ℕ)) (caps levels s d p : ℕ) where
  abbrev read : ℕ → ℕ → ℕ → Reading Tree
  read = reading m caps levels

  struct_then : (i j from : ℕ) (t u : Tree) → i ≡ j → t ≡ u → IsStruct m read s d p i from t → IsStruct m read s d p j from u
  struct_then i j from t u e f k = subst (λ (x : Tree). IsStruct m read s d p j from x) f (subst (λ (x : ℕ). IsStruct m read s d p x from t) e k)

  pub structs_read : (i n v : ℕ) (ss : Structs) (w k : ℕ) → structs_at m read s d p i n v ≡ Ok (ss, w) → k < n → IsStruct m read s d p (i + k * (d + p)) v (struct_at ss k)
  unfolding structs_at
  structs_read i zero v ss w k e lt = absurd (omega arith)
  structs_read i (suc n) v ss w zero e lt =
      let own = take d (drop i (segment_of m s)) in
      let a = bind_ok (pointers_at read s (i + d) p v) (λ first. structs_at m read s d p (i + (d + p)) n first.1 >>= λ rest. Ok (tree.struct_of own first.0 rest.0, rest.1)) (ss, w) e in
      let b = bind_ok (structs_at m read s d p (i + (d + p)) n a.0.1) (λ rest. Ok (tree.struct_of own a.0.0 rest.0, rest.1)) (ss, w) a.2 in
      let whole : tree.struct_of own a.0.0 b.0.0 ≡ ss = first_is (tree.struct_of own a.0.0 b.0.0) ss b.0.1 w b.2 in
      let here : i ≡ i + 0 * (d + p) = omega arith in
      struct_then i (i + 0 * (d + p)) v (tree.struct own a.0.0) (struct_at ss 0) here (ap (λ (x : Structs). struct_at x 0) whole)
      (record { pointers = a.0.0; before = v; after = a.0.1; grown = grows_not v; is_read = a.1; is = refl })
  structs_read i (suc n) v ss w (suc k) e lt =
      let own = take d (drop i (segment_of m s)) in
      let a = bind_ok (pointers_at read s (i + d) p v) (λ first. structs_at m read s d p (i + (d + p)) n first.1 >>= λ rest. Ok (tree.struct_of own first.0 rest.0, rest.1)) (ss, w) e in
      let b = bind_ok (structs_at m read s d p (i + (d + p)) n a.0.1) (λ rest. Ok (tree.struct_of own a.0.0 rest.0, rest.1)) (ss, w) a.2 in
      let whole : tree.struct_of own a.0.0 b.0.0 ≡ ss = first_is (tree.struct_of own a.0.0 b.0.0) ss b.0.1 w b.2 in
      let r = structs_read (i + (d + p)) n a.0.1 b.0.0 b.0.1 k b.1 (omega arith) in
      let there : i + (d + p) + k * (d + p) ≡ i + suc k * (d + p) = omega arith in
      struct_then (i + (d + p) + k * (d + p)) (i + suc k * (d + p)) v (struct_at b.0.0 k) (struct_at ss (suc k)) there (ap (λ (x : Structs). struct_at x (suc k)) whole)
      (record { pointers = r.pointers; before = r.before; after = r.after; grown = grows_on v a.0.1 r.before (pointers_grow read (reading_grows m caps levels) s (i + d) p v a.0.0 a.0.1 a.1) r.grown; is_read = r.is_read; is = r.is })

  pub structs_past : (i n v : ℕ) (ss : Structs) (w k : ℕ) → structs_at m read s d p i n v ≡ Ok (ss, w) → n ≤ k → struct_at ss k ≡ tree.null
  unfolding structs_at
  structs_past i zero v ss w k e le = ap (λ (x : Structs). struct_at x k) (sym (first_is tree.no_structs ss v w e))
  structs_past i (suc n) v ss w zero e le = absurd (omega arith)
  structs_past i (suc n) v ss w (suc k) e le =
      let own = take d (drop i (segment_of m s)) in
      let a = bind_ok (pointers_at read s (i + d) p v) (λ first. structs_at m read s d p (i + (d + p)) n first.1 >>= λ rest. Ok (tree.struct_of own first.0 rest.0, rest.1)) (ss, w) e in
      let b = bind_ok (structs_at m read s d p (i + (d + p)) n a.0.1) (λ rest. Ok (tree.struct_of own a.0.0 rest.0, rest.1)) (ss, w) a.2 in
      let whole : tree.struct_of own a.0.0 b.0.0 ≡ ss = first_is (tree.struct_of own a.0.0 b.0.0) ss b.0.1 w b.2 in
      ap (λ (x : Structs). struct_at x (suc k)) (sym whole) ∙ structs_past (i + (d + p)) n a.0.1 b.0.0 b.0.1 k b.1 (omega arith)

-- a struct of a list, as the content of a pointer would be
abbrev pub struct_content : ℕ → ℕ → ℕ → ℕ → Content
struct_content s at d p = record { segment = s; start = Some at; shape = shape.Struct d p }

struct_stands : (m : List (List ℕ)) (caps levels s d p at from : ℕ) (t : Tree) → IsStruct m (reading m caps levels) s d p at from t → at + (d + p) ≤ length (segment_of m s) → d + p ≤ from → from ≤ most_counted
    → StandsFor m caps (referent.Content (struct_content s at d p)) t
unfolding laid deep content_of
struct_stands m caps levels s d p at from t k inside room_before bounded =
    let grown : from ≤ k.before = k.grown.more in
    let below : k.before ≤ most_counted = k.grown.within bounded in
    let first : ltb (length (segment_of m s)) (at + (d + p)) ≡ false = le-ltb (length (segment_of m s)) (at + (d + p)) inside in
    let sum : k.before - (d + p) + (d + p) ≡ k.before = omega (arith, grown) in
    let second : ltb most_counted (k.before - (d + p) + (d + p)) ≡ false = le-ltb most_counted (k.before - (d + p) + (d + p)) (omega (arith, sum, below)) in
    record {
      levels = suc levels;
      before = k.before - (d + p);
      after = k.after;
      reads = rw (first, second, sum, k.is_read) (ap (λ (u : Tree). read_as u k.after) (sym k.is));
    }

-- ---- What is handed out

abbrev as_some : Tree → Option Tree
as_some u = Some u

pub struct_item : (m : List (List ℕ)) (caps : ℕ) (c : Content) (t : Tree) (start count d p words k : ℕ) → StandsFor m caps (referent.Content c) t → Ok (layout.Structs start count d p words) ≡ laid m c
    → start + count * (d + p) ≤ length (segment_of m c.segment) → k < count
    → (u : Tree) × (item_of t k ≡ Some u) × StandsFor m caps (referent.Content (struct_content c.segment (start + k * (d + p)) d p)) u
unfolding content_of
struct_item m caps c t start count d p words k stands is_laid inside lt =
    let r = read_at m caps c t (layout.Structs start count d p words) stands is_laid in
    let a = bind_ok (structs_at m (reading m caps r.levels) c.segment d p start count r.before) (λ found. Ok (tree.list (tree.structs d p found.0), found.1)) (t, r.after) r.is_read in
    let is : tree.list (tree.structs d p a.0.0) ≡ t = first_is (tree.list (tree.structs d p a.0.0)) t a.0.1 r.after a.2 in
    let one = structs_read m caps r.levels c.segment d p start count r.before a.0.0 a.0.1 k a.1 lt in
    let fit = structs_fit m c start count d p words is_laid in
    let v = visited r.start (weight (layout.Structs start count d p words)) r.before r.weighed in
    let rows : (k + 1) * (d + p) ≤ count * (d + p) = mul-le-mul_right (d + p) (omega (arith, lt)) in
    let split : (k + 1) * (d + p) ≡ k * (d + p) + (d + p) = omega arith in (
      struct_at a.0.0 k,
      ap (λ (u : Tree). item_of u k) (sym is),
      struct_stands m caps r.levels c.segment d p (start + k * (d + p)) r.before (struct_at a.0.0 k) one (omega (arith, inside, rows, split)) (omega (arith, fit, v.0, rows, split)) v.1,
    )

pub struct_item_past : (m : List (List ℕ)) (caps : ℕ) (c : Content) (t : Tree) (start count d p words k : ℕ) → StandsFor m caps (referent.Content c) t → Ok (layout.Structs start count d p words) ≡ laid m c → count ≤ k
    → (u : Tree) × (item_of t k ≡ Some u) × StandsFor m caps referent.Null u
unfolding content_of
struct_item_past m caps c t start count d p words k stands is_laid le =
    let r = read_at m caps c t (layout.Structs start count d p words) stands is_laid in
    let a = bind_ok (structs_at m (reading m caps r.levels) c.segment d p start count r.before) (λ found. Ok (tree.list (tree.structs d p found.0), found.1)) (t, r.after) r.is_read in
    let is : tree.list (tree.structs d p a.0.0) ≡ t = first_is (tree.list (tree.structs d p a.0.0)) t a.0.1 r.after a.2 in
    (tree.null, ap (λ (u : Tree). item_of u k) (sym is) ∙ ap as_some (structs_past m caps r.levels c.segment d p start count r.before a.0.0 a.0.1 k a.1 le), null_stands m caps)

pub pointer_item : (m : List (List ℕ)) (caps : ℕ) (c : Content) (t : Tree) (start count k : ℕ) → StandsFor m caps (referent.Content c) t → Ok (layout.Pointers start count) ≡ laid m c → k < count
    → (u : Tree) × (item_of t k ≡ Some u) × LeadsTo m caps c.segment (start + k) u
unfolding content_of
pointer_item m caps c t start count k stands is_laid lt =
    let r = read_at m caps c t (layout.Pointers start count) stands is_laid in
    let a = bind_ok (pointers_at (reading m caps r.levels) c.segment start count r.before) (λ found. Ok (tree.list (tree.pointers found.0), found.1)) (t, r.after) r.is_read in
    let is : tree.list (tree.pointers a.0.0) ≡ t = first_is (tree.list (tree.pointers a.0.0)) t a.0.1 r.after a.2 in
    let b = pointers_read (reading m caps r.levels) c.segment start count r.before a.0.0 a.0.1 k a.1 lt in
    let f = reading_stands m caps r.levels c.segment (start + k) b.0 (pointer_at a.0.0 k) b.1 b.2 in
    (pointer_at a.0.0 k, ap (λ (u : Tree). item_of u k) (sym is), record { next = f.0; visited = f.1; is_followed = f.2; stands = f.3 })

pub pointer_item_past : (m : List (List ℕ)) (caps : ℕ) (c : Content) (t : Tree) (start count k : ℕ) → StandsFor m caps (referent.Content c) t → Ok (layout.Pointers start count) ≡ laid m c → count ≤ k
    → (u : Tree) × (item_of t k ≡ Some u) × StandsFor m caps referent.Null u
unfolding content_of
pointer_item_past m caps c t start count k stands is_laid le =
    let r = read_at m caps c t (layout.Pointers start count) stands is_laid in
    let a = bind_ok (pointers_at (reading m caps r.levels) c.segment start count r.before) (λ found. Ok (tree.list (tree.pointers found.0), found.1)) (t, r.after) r.is_read in
    let is : tree.list (tree.pointers a.0.0) ≡ t = first_is (tree.list (tree.pointers a.0.0)) t a.0.1 r.after a.2 in
    (tree.null, ap (λ (u : Tree). item_of u k) (sym is) ∙ ap as_some (pointers_past (reading m caps r.levels) c.segment start count r.before a.0.0 a.0.1 k a.1 le), null_stands m caps)

-- ---- What is no such list

not_held : (m : List (List ℕ)) (read : ℕ → ℕ → ℕ → Reading Tree) (s start : ℕ) (t : Tree) (v after k : ℕ) → (d p : ℕ) → content_of m read s (layout.Struct start d p) v ≡ Ok (t, after) → item_of t k ≡ None
not_held m read s start t v after k d p e =
    let a = struct_read m read s start d p v t after e in
    ap (λ (u : Tree). item_of u k) a.3

pub struct_no_item : (m : List (List ℕ)) (caps : ℕ) (c : Content) (t : Tree) (start d p k : ℕ) → StandsFor m caps (referent.Content c) t → Ok (layout.Struct start d p) ≡ laid m c → item_of t k ≡ None
struct_no_item m caps c t start d p k stands is_laid =
    let r = read_at m caps c t (layout.Struct start d p) stands is_laid in
    not_held m (reading m caps r.levels) c.segment start t r.before r.after k d p r.is_read
