-- The visited words that reading counts: they never fall, and never pass the limit.
use Rattle.std.proofs.Common.{◌≡◌, ℕ, zero, suc, ◌+◌, ◌≤◌, Bool, ltb, List, drop, take, Option, Some, None, Ok, Err, ap, subst, arith}
use Rattle.std.proofs.lemmas.Bool.{ltb-false}
use Rattle.capn_trees.specs.declared.faults.PayloadFault.TheVariants.{OutOfBounds, Traversal}
use Rattle.capn_reading.specs.declared.pointer.Pointer.{Pointer}
use Rattle.capn_reading.specs.declared.pointer.Pointer.TheVariants as pointer
use Rattle.capn_reading.specs.declared.referent.Referent.{Referent}
use Rattle.capn_reading.specs.declared.referent.Referent.TheVariants as referent
use Rattle.capn_reading.specs.declared.layout.Layout.{Layout}
use Rattle.capn_reading.specs.declared.layout.Layout.TheVariants as layout
use Rattle.capn_reading.specs.Pointers.{decoded}
use Rattle.capn_reading.specs.Segments.{segment_of, word_at, size_of}
use Rattle.capn_reading.specs.Following.{◌>>=◌, most_counted, visit, target, pad_words, pad_at, far, capability, leads, followed}
use Rattle.capn_reading.specs.Layouts.{laid, weight}
use Rattle.capn_trees.specs.Trees as tree
use Rattle.capn_trees.specs.Trees.{Tree, Trees, Structs}
use Rattle.capn_reading.specs.Reading.{Reading, pointers_at, structs_at, content_of, shallow, deep, reading}
use Rattle.capn_reading.proofs.Rooted.{bind_ok, passed, read_as}
use Rattle.capn_reading.proofs.Places.{ok_is}

-- from v visited words to w
pub record Grows (v w : ℕ) : Type 0 where
  pub more : v ≤ w
  pub within : v ≤ most_counted → w ≤ most_counted

pub grows_not : (v : ℕ) → Grows v v
grows_not v = record { more = omega arith; within = λ le. le }

pub grows_on : (u v w : ℕ) → Grows u v → Grows v w → Grows u w
grows_on u v w a b = record { more = omega (arith, a.more, b.more); within = λ le. b.within (a.within le) }

after_of : {A : Type 0} → Reading A → ℕ
after_of (Ok x) = x.1
after_of (Err e) = 0

pub after_is : {A : Type 0} (a b : A) (m n : ℕ) → read_as a m ≡ read_as b n → m ≡ n
unfolding after_of
after_is a b m n e = ap after_of e

same_words : {A : Type 0} (a b : A) (v w : ℕ) → read_as a v ≡ read_as b w → Grows v w
same_words a b v w e = subst (Grows v) (after_is a b v w e) (grows_not v)

pub visited : (v more w : ℕ) → visit v more ≡ Ok w → (v + more ≡ w) × (w ≤ most_counted)
visited v more w e =
    let p = passed (ltb most_counted (v + more)) Traversal (Ok (v + more)) w e in
    let same = ok_is (v + more) w p.1 in
    (same, omega (arith, ltb-false most_counted (v + more) p.0, same))

visit_grows : (v more w : ℕ) → visit v more ≡ Ok w → Grows v w
visit_grows v more w e = let k = visited v more w e in record { more = omega (arith, k.0); within = λ le. k.1 }

far_grows : (m : List (List ℕ)) (b : Bool) (s : ℕ) (size : Option ℕ) (i v : ℕ) (r : Referent) (w : ℕ) → far m b s size i v ≡ Ok (r, w) → Grows v w
unfolding far
far_grows m b s None i v r w e = absurd cc
far_grows m b s (Some size) i v r w e =
    let p = passed (ltb size (i + pad_words b)) OutOfBounds (visit v (pad_words b) >>= λ next. pad_at m b s i >>= λ content. Ok (content, next)) (r, w) e in
    let a = bind_ok (visit v (pad_words b)) (λ next. pad_at m b s i >>= λ content. Ok (content, next)) (r, w) p.1 in
    let c = bind_ok (pad_at m b s i) (λ content. Ok (content, a.0)) (r, w) a.2 in
    grows_on v a.0 w (visit_grows v (pad_words b) a.0 a.1) (same_words c.0 r a.0 w c.2)

pub leads_grow : (m : List (List ℕ)) (caps s i v : ℕ) (p : Pointer) (r : Referent) (w : ℕ) → leads m caps s i p v ≡ Ok (r, w) → Grows v w
unfolding leads
leads_grow m caps s i v pointer.Null r w e = same_words referent.Null r v w e
leads_grow m caps s i v (pointer.Content offset shape) r w e = same_words (referent.Content (record { segment = s; start = target i offset; shape = shape })) r v w e
leads_grow m caps s i v (pointer.Far is_double offset segment) r w e = far_grows m is_double segment (size_of m segment) offset v r w e
leads_grow m caps s i v (pointer.Other middle index) r w e =
    let a = bind_ok (capability caps middle index) (λ found. Ok (found, v)) (r, w) e in
    same_words a.0 r v w a.2

abbrev pub ReadsGrow : (ℕ → ℕ → ℕ → Reading Tree) → Type 0
ReadsGrow read = (s i v : ℕ) (t : Tree) (w : ℕ) → read s i v ≡ Ok (t, w) → Grows v w

module _ (read : ℕ → ℕ → ℕ → Reading Tree) (grow : ReadsGrow read) where
  pub pointers_grow : (s i n v : ℕ) (ts : Trees) (w : ℕ) → pointers_at read s i n v ≡ Ok (ts, w) → Grows v w
  unfolding pointers_at
  pointers_grow s i zero v ts w e = same_words tree.no_trees ts v w e
  pointers_grow s i (suc n) v ts w e =
      let a = bind_ok (read s i v) (λ first. pointers_at read s (i + 1) n first.1 >>= λ rest. Ok (tree.tree first.0 rest.0, rest.1)) (ts, w) e in
      let b = bind_ok (pointers_at read s (i + 1) n a.0.1) (λ rest. Ok (tree.tree a.0.0 rest.0, rest.1)) (ts, w) a.2 in
      grows_on v a.0.1 w (grow s i v a.0.0 a.0.1 a.1) (grows_on a.0.1 b.0.1 w (pointers_grow s (i + 1) n a.0.1 b.0.0 b.0.1 b.1) (same_words (tree.tree a.0.0 b.0.0) ts b.0.1 w b.2))

  pub structs_grow : (m : List (List ℕ)) (s d p i n v : ℕ) (ss : Structs) (w : ℕ) → structs_at m read s d p i n v ≡ Ok (ss, w) → Grows v w
  unfolding structs_at
  structs_grow m s d p i zero v ss w e = same_words tree.no_structs ss v w e
  structs_grow m s d p i (suc n) v ss w e =
      let own = take d (drop i (segment_of m s)) in
      let a = bind_ok (pointers_at read s (i + d) p v) (λ first. structs_at m read s d p (i + (d + p)) n first.1 >>= λ rest. Ok (tree.struct_of own first.0 rest.0, rest.1)) (ss, w) e in
      let b = bind_ok (structs_at m read s d p (i + (d + p)) n a.0.1) (λ rest. Ok (tree.struct_of own a.0.0 rest.0, rest.1)) (ss, w) a.2 in
      grows_on v a.0.1 w (pointers_grow s (i + d) p v a.0.0 a.0.1 a.1) (grows_on a.0.1 b.0.1 w (structs_grow m s d p (i + (d + p)) n a.0.1 b.0.0 b.0.1 b.1) (same_words (tree.struct_of own a.0.0 b.0.0) ss b.0.1 w b.2))

  content_grows : (m : List (List ℕ)) (s : ℕ) (place : Layout) (v : ℕ) (t : Tree) (w : ℕ) → content_of m read s place v ≡ Ok (t, w) → Grows v w
  unfolding content_of
  content_grows m s (layout.Struct start d p) v t w e =
      let a = bind_ok (pointers_at read s (start + d) p v) (λ found. Ok (tree.struct (take d (drop start (segment_of m s))) found.0, found.1)) (t, w) e in
      grows_on v a.0.1 w (pointers_grow s (start + d) p v a.0.0 a.0.1 a.1) (same_words (tree.struct (take d (drop start (segment_of m s))) a.0.0) t a.0.1 w a.2)
  content_grows m s (layout.Packed start width count) v t w e = same_words _ t v w e
  content_grows m s (layout.Pointers start count) v t w e =
      let a = bind_ok (pointers_at read s start count v) (λ found. Ok (tree.list (tree.pointers found.0), found.1)) (t, w) e in
      grows_on v a.0.1 w (pointers_grow s start count v a.0.0 a.0.1 a.1) (same_words (tree.list (tree.pointers a.0.0)) t a.0.1 w a.2)
  content_grows m s (layout.Structs start count d p words) v t w e =
      let a = bind_ok (structs_at m read s d p start count v) (λ found. Ok (tree.list (tree.structs d p found.0), found.1)) (t, w) e in
      grows_on v a.0.1 w (structs_grow m s d p start count v a.0.0 a.0.1 a.1) (same_words (tree.list (tree.structs d p a.0.0)) t a.0.1 w a.2)

  deep_grows : (m : List (List ℕ)) (r : Referent) (v : ℕ) (t : Tree) (w : ℕ) → deep m read r v ≡ Ok (t, w) → Grows v w
  unfolding deep
  deep_grows m referent.Null v t w e = same_words tree.null t v w e
  deep_grows m (referent.Capability index) v t w e = same_words (tree.capability index) t v w e
  deep_grows m (referent.Content c) v t w e =
      let a = bind_ok (laid m c) (λ place. visit v (weight place) >>= λ next. content_of m read c.segment place next) (t, w) e in
      let b = bind_ok (visit v (weight a.0)) (λ next. content_of m read c.segment a.0 next) (t, w) a.2 in
      grows_on v b.0 w (visit_grows v (weight a.0) b.0 b.1) (content_grows m c.segment a.0 b.0 t w b.2)

shallow_grows : (r : Referent) (v : ℕ) (t : Tree) (w : ℕ) → shallow r v ≡ Ok (t, w) → Grows v w
unfolding shallow
shallow_grows referent.Null v t w e = same_words tree.null t v w e
shallow_grows (referent.Capability index) v t w e = same_words (tree.capability index) t v w e
shallow_grows (referent.Content c) v t w e = absurd cc

pub reading_grows : (m : List (List ℕ)) (caps levels : ℕ) → ReadsGrow (reading m caps levels)
unfolding reading
reading_grows m caps zero s i v t w e =
    let a = bind_ok (followed m caps s i v) (λ found. shallow found.0 found.1) (t, w) e in
    grows_on v a.0.1 w (leads_grow m caps s i v (decoded (word_at m s i)) a.0.0 a.0.1 a.1) (shallow_grows a.0.0 a.0.1 t w a.2)
reading_grows m caps (suc n) s i v t w e =
    let a = bind_ok (followed m caps s i v) (λ found. deep m (reading m caps n) found.0 found.1) (t, w) e in
    grows_on v a.0.1 w (leads_grow m caps s i v (decoded (word_at m s i)) a.0.0 a.0.1 a.1) (deep_grows (reading m caps n) (reading_grows m caps n) m a.0.0 a.0.1 t w a.2)
