-- What a place stands for, by the reading that led to it.
use Rattle.std.proofs.Common.{◌≡◌, ℕ, zero, suc, ◌+◌, ◌<◌, ◌≤◌, Bool, true, false, ltb, List, take, drop, Option, Some, None, Result, Ok, refl, sym, ap, subst, ◌∙◌, arith}
use Rattle.capn_trees.specs.declared.faults.PayloadFault.{PayloadFault}
use Rattle.capn_trees.specs.declared.faults.PayloadFault.TheVariants.{OutOfBounds}
use Rattle.capn_reading.specs.declared.pointer.Pointer.{Pointer}
use Rattle.capn_reading.specs.declared.pointer.Pointer.TheVariants as pointer
use Rattle.capn_reading.specs.declared.referent.Content.{Content}
use Rattle.capn_reading.specs.declared.referent.Referent.{Referent}
use Rattle.capn_reading.specs.declared.referent.Referent.TheVariants as referent
use Rattle.capn_reading.specs.declared.layout.Layout.{Layout}
use Rattle.capn_reading.specs.declared.layout.Layout.TheVariants as layout
use Rattle.capn_reading.specs.Pointers.{decoded}
use Rattle.capn_reading.specs.Segments.{segment_of, word_at, size_of}
use Rattle.capn_reading.specs.Following.{◌>>=◌, visit, target, pad_words, pad_at, far, capability, leads, followed}
use Rattle.capn_reading.specs.Layouts.{laid, weight}
use Rattle.capn_trees.specs.Trees as tree
use Rattle.capn_trees.specs.Trees.{Tree, Trees, pointer_at}
use Rattle.capn_reading.specs.Reading.{Reading, pointers_at, structs_at, content_of, shallow, deep, reading}
use Rattle.capn_reading.specs.Looking.{field, meaning, StandsFor, LeadsTo}
use Rattle.capn_reading.proofs.Rooted.{bind_ok, passed, read_as, first_is}

abbrev some : Tree → Option Tree
some t = Some t

abbrev done : {A : Type 0} → A → Result A PayloadFault
done x = Ok x

pub ok_is : {A : Type 0} (x y : A) → done x ≡ done y → x ≡ y
ok_is x y e = cc

fresh_pad : (b : Bool) → visit 0 (pad_words b) ≡ Ok (pad_words b)
fresh_pad true = refl
fresh_pad false = refl

-- what a pointer leads to does not depend on the visited words before it
far_fresh : (m : List (List ℕ)) (b : Bool) (s : ℕ) (size : Option ℕ) (i v : ℕ) (r : Referent) (after : ℕ) → far m b s size i v ≡ Ok (r, after) → (n : ℕ) × (far m b s size i 0 ≡ Ok (r, n))
unfolding far
far_fresh m b s None i v r after e = absurd cc
far_fresh m b s (Some size) i v r after e =
    let p = passed (ltb size (i + pad_words b)) OutOfBounds (visit v (pad_words b) >>= λ next. pad_at m b s i >>= λ content. Ok (content, next)) (r, after) e in
    let a = bind_ok (visit v (pad_words b)) (λ next. pad_at m b s i >>= λ content. Ok (content, next)) (r, after) p.1 in
    let c = bind_ok (pad_at m b s i) (λ content. Ok (content, a.0)) (r, after) a.2 in
    let same : c.0 ≡ r = first_is c.0 r a.0 after c.2 in
    let pad : pad_at m b s i ≡ Ok r = c.1 ∙ ap done same in
    (pad_words b, rw (p.0, fresh_pad b, pad) refl)

leads_fresh : (m : List (List ℕ)) (caps s i v : ℕ) (p : Pointer) (r : Referent) (after : ℕ) → leads m caps s i p v ≡ Ok (r, after) → (n : ℕ) × (leads m caps s i p 0 ≡ Ok (r, n))
unfolding leads
leads_fresh m caps s i v pointer.Null r after h = (0, ap (λ (x : Referent). read_as x 0) (first_is referent.Null r v after h))
leads_fresh m caps s i v (pointer.Content offset shape) r after h = (0, ap (λ (x : Referent). read_as x 0) (first_is (referent.Content (record { segment = s; start = target i offset; shape = shape })) r v after h))
leads_fresh m caps s i v (pointer.Far is_double offset segment) r after h = far_fresh m is_double segment (size_of m segment) offset v r after h
leads_fresh m caps s i v (pointer.Other middle index) r after h =
    let a = bind_ok (capability caps middle index) (λ found. Ok (found, v)) (r, after) h in
    (0, rw a.1 (ap (λ (x : Referent). read_as x 0) (first_is a.0 r v after a.2)))

pub followed_fresh : (m : List (List ℕ)) (caps s i v : ℕ) (r : Referent) (after : ℕ) → followed m caps s i v ≡ Ok (r, after) → (n : ℕ) × (followed m caps s i 0 ≡ Ok (r, n))
followed_fresh m caps s i v r after e = leads_fresh m caps s i v (decoded (word_at m s i)) r after e

-- a pointer that is read leads to a place that stands for the tree
pub reading_stands : (m : List (List ℕ)) (caps levels s i v : ℕ) (t : Tree) (after : ℕ) → reading m caps levels s i v ≡ Ok (t, after)
    → (r : Referent) × (n : ℕ) × (followed m caps s i 0 ≡ Ok (r, n)) × StandsFor m caps r t
unfolding reading
reading_stands m caps zero s i v t after e =
    let a = bind_ok (followed m caps s i v) (λ found. shallow found.0 found.1) (t, after) e in
    let f = followed_fresh m caps s i v a.0.0 a.0.1 a.1 in
    (a.0.0, f.0, f.1, record { levels = 0; before = a.0.1; after = after; reads = a.2 })
reading_stands m caps (suc n) s i v t after e =
    let a = bind_ok (followed m caps s i v) (λ found. deep m (reading m caps n) found.0 found.1) (t, after) e in
    let f = followed_fresh m caps s i v a.0.0 a.0.1 a.1 in
    (a.0.0, f.0, f.1, record { levels = suc n; before = a.0.1; after = after; reads = a.2 })

-- pointer n of a pointer section was read from its place
pub pointers_read : (read : ℕ → ℕ → ℕ → Reading Tree) (s i count v : ℕ) (ts : Trees) (after n : ℕ) → pointers_at read s i count v ≡ Ok (ts, after) → n < count
    → (before : ℕ) × (next : ℕ) × (read s (i + n) before ≡ Ok (pointer_at ts n, next))
unfolding pointers_at
pointers_read read s i zero v ts after n e lt = absurd (omega arith)
pointers_read read s i (suc count) v ts after zero e lt =
    let a = bind_ok (read s i v) (λ first. pointers_at read s (i + 1) count first.1 >>= λ rest. Ok (tree.tree first.0 rest.0, rest.1)) (ts, after) e in
    let b = bind_ok (pointers_at read s (i + 1) count a.0.1) (λ rest. Ok (tree.tree a.0.0 rest.0, rest.1)) (ts, after) a.2 in
    let whole : tree.tree a.0.0 b.0.0 ≡ ts = first_is (tree.tree a.0.0 b.0.0) ts b.0.1 after b.2 in
    let here : i ≡ i + 0 = omega arith in
    (v, a.0.1, ap (λ (j : ℕ). read s j v) (sym here) ∙ a.1 ∙ ap (λ (us : Trees). read_as (pointer_at us 0) a.0.1) whole)
pointers_read read s i (suc count) v ts after (suc n) e lt =
    let a = bind_ok (read s i v) (λ first. pointers_at read s (i + 1) count first.1 >>= λ rest. Ok (tree.tree first.0 rest.0, rest.1)) (ts, after) e in
    let b = bind_ok (pointers_at read s (i + 1) count a.0.1) (λ rest. Ok (tree.tree a.0.0 rest.0, rest.1)) (ts, after) a.2 in
    let whole : tree.tree a.0.0 b.0.0 ≡ ts = first_is (tree.tree a.0.0 b.0.0) ts b.0.1 after b.2 in
    let r = pointers_read read s (i + 1) count a.0.1 b.0.0 b.0.1 n b.1 (omega arith) in
    let there : i + suc n ≡ i + 1 + n = omega arith in
    (r.0, r.1, ap (λ (j : ℕ). read s j r.0) there ∙ r.2 ∙ ap (λ (us : Trees). read_as (pointer_at us (suc n)) r.1) whole)

-- past the end of a pointer section
pub pointers_past : (read : ℕ → ℕ → ℕ → Reading Tree) (s i count v : ℕ) (ts : Trees) (after n : ℕ) → pointers_at read s i count v ≡ Ok (ts, after) → count ≤ n → pointer_at ts n ≡ tree.null
unfolding pointers_at
pointers_past read s i zero v ts after n e le = ap (λ (us : Trees). pointer_at us n) (sym (first_is tree.no_trees ts v after e))
pointers_past read s i (suc count) v ts after zero e le = absurd (omega arith)
pointers_past read s i (suc count) v ts after (suc n) e le =
    let a = bind_ok (read s i v) (λ first. pointers_at read s (i + 1) count first.1 >>= λ rest. Ok (tree.tree first.0 rest.0, rest.1)) (ts, after) e in
    let b = bind_ok (pointers_at read s (i + 1) count a.0.1) (λ rest. Ok (tree.tree a.0.0 rest.0, rest.1)) (ts, after) a.2 in
    let whole : tree.tree a.0.0 b.0.0 ≡ ts = first_is (tree.tree a.0.0 b.0.0) ts b.0.1 after b.2 in
    ap (λ (us : Trees). pointer_at us (suc n)) (sym whole) ∙ pointers_past read s (i + 1) count a.0.1 b.0.0 b.0.1 n b.1 (omega arith)

pub null_stands : (m : List (List ℕ)) (caps : ℕ) → StandsFor m caps referent.Null tree.null
unfolding shallow
null_stands m caps = record { levels = 0; before = 0; after = 0; reads = refl }

null_means : (m : List (List ℕ)) (caps levels v : ℕ) (t : Tree) (after : ℕ) → meaning m caps levels referent.Null v ≡ Ok (t, after) → t ≡ tree.null
unfolding shallow deep
null_means m caps zero v t after e = sym (first_is tree.null t v after e)
null_means m caps (suc n) v t after e = sym (first_is tree.null t v after e)

capability_means : (m : List (List ℕ)) (caps levels v index : ℕ) (t : Tree) (after : ℕ) → meaning m caps levels (referent.Capability index) v ≡ Ok (t, after) → t ≡ tree.capability index
unfolding shallow deep
capability_means m caps zero v index t after e = sym (first_is (tree.capability index) t v after e)
capability_means m caps (suc n) v index t after e = sym (first_is (tree.capability index) t v after e)

pub is_null : (m : List (List ℕ)) (caps : ℕ) (t : Tree) → StandsFor m caps referent.Null t → t ≡ tree.null
is_null m caps t stands = null_means m caps stands.levels stands.before t stands.after stands.reads

pub is_capability : (m : List (List ℕ)) (caps index : ℕ) (t : Tree) → StandsFor m caps (referent.Capability index) t → t ≡ tree.capability index
is_capability m caps index t stands = capability_means m caps stands.levels stands.before index t stands.after stands.reads

-- a content that stands for a tree has a place, from which the tree was read
pub record IsRead (m : List (List ℕ)) (caps : ℕ) (c : Content) (t : Tree) : Type 0 where
  pub levels : ℕ
  pub place : Layout
  pub before : ℕ
  pub after : ℕ
  pub is_laid : laid m c ≡ Ok place
  pub start : ℕ
  pub weighed : visit start (weight place) ≡ Ok before
  pub is_read : content_of m (reading m caps levels) c.segment place before ≡ Ok (t, after)

content_means : (m : List (List ℕ)) (caps levels v : ℕ) (c : Content) (t : Tree) (after : ℕ) → meaning m caps levels (referent.Content c) v ≡ Ok (t, after) → IsRead m caps c t
unfolding shallow deep
content_means m caps zero v c t after e = absurd cc
content_means m caps (suc n) v c t after e =
    let a = bind_ok (laid m c) (λ place. visit v (weight place) >>= λ next. content_of m (reading m caps n) c.segment place next) (t, after) e in
    let b = bind_ok (visit v (weight a.0)) (λ next. content_of m (reading m caps n) c.segment a.0 next) (t, after) a.2 in
    record { levels = n; place = a.0; before = b.0; after = after; is_laid = a.1; start = v; weighed = b.1; is_read = b.2 }

pub content_read : (m : List (List ℕ)) (caps : ℕ) (c : Content) (t : Tree) → StandsFor m caps (referent.Content c) t → IsRead m caps c t
content_read m caps c t stands = content_means m caps stands.levels stands.before c t stands.after stands.reads

pub struct_read : (m : List (List ℕ)) (read : ℕ → ℕ → ℕ → Reading Tree) (s start d p v : ℕ) (t : Tree) (after : ℕ) → content_of m read s (layout.Struct start d p) v ≡ Ok (t, after)
    → (ts : Trees) × (next : ℕ) × (pointers_at read s (start + d) p v ≡ Ok (ts, next)) × (t ≡ tree.struct (take d (drop start (segment_of m s))) ts)
unfolding content_of
struct_read m read s start d p v t after e =
    let a = bind_ok (pointers_at read s (start + d) p v) (λ found. Ok (tree.struct (take d (drop start (segment_of m s))) found.0, found.1)) (t, after) e in
    (a.0.0, a.0.1, a.1, sym (first_is (tree.struct (take d (drop start (segment_of m s))) a.0.0) t a.0.1 after a.2))

-- what is no struct has no fields
pub no_field : (m : List (List ℕ)) (read : ℕ → ℕ → ℕ → Reading Tree) (s : ℕ) (place : Layout) (v : ℕ) (t : Tree) (after n : ℕ) → content_of m read s place v ≡ Ok (t, after)
    → ((start d p : ℕ) → place ≡ layout.Struct start d p → ⊥) → field t n ≡ None
unfolding content_of
no_field m read s (layout.Struct start d p) v t after n e none = absurd (none start d p refl)
no_field m read s (layout.Packed start width count) v t after n e none = ap (λ (u : Tree). field u n) (sym (first_is _ t v after e))
no_field m read s (layout.Pointers start count) v t after n e none =
    let a = bind_ok (pointers_at read s start count v) (λ found. Ok (tree.list (tree.pointers found.0), found.1)) (t, after) e in
    ap (λ (u : Tree). field u n) (sym (first_is (tree.list (tree.pointers a.0.0)) t a.0.1 after a.2))
no_field m read s (layout.Structs start count d p words) v t after n e none =
    let a = bind_ok (structs_at m read s d p start count v) (λ found. Ok (tree.list (tree.structs d p found.0), found.1)) (t, after) e in
    ap (λ (u : Tree). field u n) (sym (first_is (tree.list (tree.structs d p a.0.0)) t a.0.1 after a.2))

-- a field of what stands at a place, and the pointer that leads to it
pub struct_field : (m : List (List ℕ)) (caps : ℕ) (c : Content) (t : Tree) (start d p n : ℕ) → StandsFor m caps (referent.Content c) t → Ok (layout.Struct start d p) ≡ laid m c → n < p
    → (u : Tree) × (field t n ≡ Some u) × LeadsTo m caps c.segment (start + d + n) u
struct_field m caps c t start d p n stands is_laid lt =
    let r = content_read m caps c t stands in
    let same : r.place ≡ layout.Struct start d p = ok_is r.place (layout.Struct start d p) (sym r.is_laid ∙ sym is_laid) in
    let read : content_of m (reading m caps r.levels) c.segment (layout.Struct start d p) r.before ≡ Ok (t, r.after) = subst (λ (l : Layout). content_of m (reading m caps r.levels) c.segment l r.before ≡ Ok (t, r.after)) same r.is_read in
    let a = struct_read m (reading m caps r.levels) c.segment start d p r.before t r.after read in
    let b = pointers_read (reading m caps r.levels) c.segment (start + d) p r.before a.0 a.1 n a.2 lt in
    let f = reading_stands m caps r.levels c.segment (start + d + n) b.0 (pointer_at a.0 n) b.1 b.2 in
    (pointer_at a.0 n, ap (λ (u : Tree). field u n) a.3, record { next = f.0; visited = f.1; is_followed = f.2; stands = f.3 })

pub struct_past : (m : List (List ℕ)) (caps : ℕ) (c : Content) (t : Tree) (start d p n : ℕ) → StandsFor m caps (referent.Content c) t → Ok (layout.Struct start d p) ≡ laid m c → p ≤ n
    → (u : Tree) × (field t n ≡ Some u) × StandsFor m caps referent.Null u
struct_past m caps c t start d p n stands is_laid le =
    let r = content_read m caps c t stands in
    let same : r.place ≡ layout.Struct start d p = ok_is r.place (layout.Struct start d p) (sym r.is_laid ∙ sym is_laid) in
    let read : content_of m (reading m caps r.levels) c.segment (layout.Struct start d p) r.before ≡ Ok (t, r.after) = subst (λ (l : Layout). content_of m (reading m caps r.levels) c.segment l r.before ≡ Ok (t, r.after)) same r.is_read in
    let a = struct_read m (reading m caps r.levels) c.segment start d p r.before t r.after read in
    let none = pointers_past (reading m caps r.levels) c.segment (start + d) p r.before a.0 a.1 n a.2 le in
    (tree.null, ap (λ (u : Tree). field u n) a.3 ∙ ap (λ (u : Tree). some u) none, null_stands m caps)

pub null_field : (m : List (List ℕ)) (caps : ℕ) (t : Tree) (n : ℕ) → StandsFor m caps referent.Null t → (u : Tree) × (field t n ≡ Some u) × StandsFor m caps referent.Null u
null_field m caps t n stands = (tree.null, ap (λ (u : Tree). field u n) (is_null m caps t stands), null_stands m caps)

pub not_struct : (m : List (List ℕ)) (caps : ℕ) (c : Content) (t : Tree) (place : Layout) (n : ℕ) → StandsFor m caps (referent.Content c) t → Ok place ≡ laid m c
    → ((start d p : ℕ) → place ≡ layout.Struct start d p → ⊥) → field t n ≡ None
not_struct m caps c t place n stands is_laid none =
    let r = content_read m caps c t stands in
    let same : r.place ≡ place = ok_is r.place place (sym r.is_laid ∙ sym is_laid) in
    no_field m (reading m caps r.levels) c.segment place r.before t r.after n (subst (λ (l : Layout). content_of m (reading m caps r.levels) c.segment l r.before ≡ Ok (t, r.after)) same r.is_read) none
