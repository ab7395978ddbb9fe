-- What is read with some levels left is read with more.
use Rattle.std.proofs.Common.{◌≡◌, ℕ, zero, suc, ◌+◌, List, take, drop, Ok, ap, subst, ◌∙◌, arith}
use Rattle.capn_trees.specs.Trees as tree
use Rattle.capn_trees.specs.Trees.{Tree, Trees, Structs}
use Rattle.capn_reading.specs.declared.referent.Referent.{Referent}
use Rattle.capn_reading.specs.declared.referent.Referent.TheVariants as referent
use Rattle.capn_reading.specs.declared.layout.Layout.{Layout}
use Rattle.capn_reading.specs.declared.layout.Layout.TheVariants as layout
use Rattle.capn_reading.specs.Segments.{segment_of}
use Rattle.capn_reading.specs.Following.{◌>>=◌, visit, followed}
use Rattle.capn_reading.specs.Layouts.{laid, weight}
use Rattle.capn_reading.specs.Reading.{Reading, pointers_at, structs_at, content_of, shallow, deep, reading}
use Rattle.capn_reading.proofs.Rooted.{bind_ok}

-- what the first reads, the second reads
abbrev pub Extends : (ℕ → ℕ → ℕ → Reading Tree) → (ℕ → ℕ → ℕ → Reading Tree) → Type 0
Extends read more = (s i v : ℕ) (t : Tree) (after : ℕ) → read s i v ≡ Ok (t, after) → more s i v ≡ Ok (t, after)

module _ (read more : ℕ → ℕ → ℕ → Reading Tree) (h : Extends read more) where
  pointers_more : (s i n v : ℕ) (ts : Trees) (after : ℕ) → pointers_at read s i n v ≡ Ok (ts, after) → pointers_at more s i n v ≡ Ok (ts, after)
  unfolding pointers_at
  pointers_more s i zero v ts after e = e
  pointers_more s i (suc n) v ts after e =
      let a = bind_ok (read s i v) (λ first. pointers_at read s (i + 1) n first.1 >>= λ rest. Ok (tree.tree first.0 rest.0, rest.1)) (ts, after) e in
      let b = bind_ok (pointers_at read s (i + 1) n a.0.1) (λ rest. Ok (tree.tree a.0.0 rest.0, rest.1)) (ts, after) a.2 in
      ap (λ r. r >>= λ first. pointers_at more s (i + 1) n first.1 >>= λ rest. Ok (tree.tree first.0 rest.0, rest.1)) (h s i v a.0.0 a.0.1 a.1)
      ∙ ap (λ r. r >>= λ rest. Ok (tree.tree a.0.0 rest.0, rest.1)) (pointers_more s (i + 1) n a.0.1 b.0.0 b.0.1 b.1)
      ∙ b.2

  structs_more : (m : List (List ℕ)) (s d p i n v : ℕ) (ss : Structs) (after : ℕ) → structs_at m read s d p i n v ≡ Ok (ss, after) → structs_at m more s d p i n v ≡ Ok (ss, after)
  unfolding structs_at
  structs_more m s d p i zero v ss after e = e
  structs_more m s d p i (suc n) v ss after e =
      let ws = take d (drop i (segment_of m s)) in
      let a = bind_ok (pointers_at read s (i + d) p v) (λ first. structs_at m read s d p (i + (d + p)) n first.1 >>= λ rest. Ok (tree.struct_of ws first.0 rest.0, rest.1)) (ss, after) e in
      let b = bind_ok (structs_at m read s d p (i + (d + p)) n a.0.1) (λ rest. Ok (tree.struct_of ws a.0.0 rest.0, rest.1)) (ss, after) a.2 in
      ap (λ r. r >>= λ first. structs_at m more s d p (i + (d + p)) n first.1 >>= λ rest. Ok (tree.struct_of ws first.0 rest.0, rest.1)) (pointers_more s (i + d) p v a.0.0 a.0.1 a.1)
      ∙ ap (λ r. r >>= λ rest. Ok (tree.struct_of ws a.0.0 rest.0, rest.1)) (structs_more m s d p (i + (d + p)) n a.0.1 b.0.0 b.0.1 b.1)
      ∙ b.2

  content_more : (m : List (List ℕ)) (s : ℕ) (place : Layout) (v : ℕ) (t : Tree) (after : ℕ) → content_of m read s place v ≡ Ok (t, after) → content_of m more s place v ≡ Ok (t, after)
  unfolding content_of
  content_more m s (layout.Struct start d p) v t after e =
      let ws = take d (drop start (segment_of m s)) in
      let a = bind_ok (pointers_at read s (start + d) p v) (λ found. Ok (tree.struct ws found.0, found.1)) (t, after) e in
      ap (λ r. r >>= λ found. Ok (tree.struct ws found.0, found.1)) (pointers_more s (start + d) p v a.0.0 a.0.1 a.1) ∙ a.2
  content_more m s (layout.Packed start width count) v t after e = e
  content_more m s (layout.Pointers start count) v t after e =
      let a = bind_ok (pointers_at read s start count v) (λ found. Ok (tree.list (tree.pointers found.0), found.1)) (t, after) e in
      ap (λ r. r >>= λ found. Ok (tree.list (tree.pointers found.0), found.1)) (pointers_more s start count v a.0.0 a.0.1 a.1) ∙ a.2
  content_more m s (layout.Structs start count d p words) v t after e =
      let a = bind_ok (structs_at m read s d p start count v) (λ found. Ok (tree.list (tree.structs d p found.0), found.1)) (t, after) e in
      ap (λ r. r >>= λ found. Ok (tree.list (tree.structs d p found.0), found.1)) (structs_more m s d p start count v a.0.0 a.0.1 a.1) ∙ a.2

  deep_more : (m : List (List ℕ)) (r : Referent) (v : ℕ) (t : Tree) (after : ℕ) → deep m read r v ≡ Ok (t, after) → deep m more r v ≡ Ok (t, after)
  unfolding deep
  deep_more m referent.Null v t after e = e
  deep_more m (referent.Capability index) v t after e = e
  deep_more m (referent.Content c) v t after e =
      let a = bind_ok (laid m c) (λ place. visit v (weight place) >>= λ next. content_of m read c.segment place next) (t, after) e in
      let b = bind_ok (visit v (weight a.0)) (λ next. content_of m read c.segment a.0 next) (t, after) a.2 in
      ap (λ r. r >>= λ place. visit v (weight place) >>= λ next. content_of m more c.segment place next) a.1
      ∙ ap (λ r. r >>= λ next. content_of m more c.segment a.0 next) b.1
      ∙ content_more m c.segment a.0 b.0 t after b.2

shallow_deep : (m : List (List ℕ)) (more : ℕ → ℕ → ℕ → Reading Tree) (r : Referent) (v : ℕ) (t : Tree) (after : ℕ) → shallow r v ≡ Ok (t, after) → deep m more r v ≡ Ok (t, after)
unfolding shallow deep
shallow_deep m more referent.Null v t after e = e
shallow_deep m more (referent.Capability index) v t after e = e
shallow_deep m more (referent.Content c) v t after e = absurd cc

pub reading_more : (m : List (List ℕ)) (caps levels : ℕ) → Extends (reading m caps levels) (reading m caps (suc levels))
unfolding reading
reading_more m caps zero s i v t after e =
    let a = bind_ok (followed m caps s i v) (λ found. shallow found.0 found.1) (t, after) e in
    ap (λ r. r >>= λ found. deep m (reading m caps zero) found.0 found.1) a.1 ∙ shallow_deep m (reading m caps zero) a.0.0 a.0.1 t after a.2
reading_more m caps (suc levels) s i v t after e =
    let a = bind_ok (followed m caps s i v) (λ found. deep m (reading m caps levels) found.0 found.1) (t, after) e in
    ap (λ r. r >>= λ found. deep m (reading m caps (suc levels)) found.0 found.1) a.1
    ∙ deep_more (reading m caps levels) (reading m caps (suc levels)) (reading_more m caps levels) m a.0.0 a.0.1 t after a.2

pub reading_by : (m : List (List ℕ)) (caps levels k : ℕ) → Extends (reading m caps levels) (reading m caps (k + levels))
reading_by m caps levels zero s i v t after e =
    let same : levels ≡ 0 + levels = omega arith in
    subst (λ n. reading m caps n s i v ≡ Ok (t, after)) same e
reading_by m caps levels (suc k) s i v t after e =
    let same : suc (k + levels) ≡ suc k + levels = omega arith in
    subst (λ n. reading m caps n s i v ≡ Ok (t, after)) same (reading_more m caps (k + levels) s i v t after (reading_by m caps levels k s i v t after e))
