-- Trees that were built, and those that are left to read.
use Rattle.std.proofs.Common.{◌≡◌, ℕ, zero, suc, ◌+◌, ◌-◌, ◌<◌, ◌≤◌, List, [], ◌∷◌, ◌++◌, take, drop, Result, Ok, Err, refl, sym, ap, subst, ◌∙◌, arith}
use Rattle.std.specs.Prelude.{IsOk}
use Rattle.capn_trees.specs.declared.faults.PayloadFault.{PayloadFault}
use Rattle.capn_trees.specs.declared.faults.PayloadFault.TheVariants.{Depth}
use Rattle.capn_reading.specs.declared.referent.Content.{Content}
use Rattle.capn_reading.specs.declared.referent.Referent.{Referent}
use Rattle.capn_reading.specs.declared.referent.Referent.TheVariants as referent
use Rattle.capn_reading.specs.declared.layout.Layout.{Layout}
use Rattle.capn_reading.specs.declared.layout.Layout.TheVariants as layout
use Rattle.capn_trees.specs.declared.tree.Tree as program
use Rattle.capn_reading.specs.Segments.{segment_of}
use Rattle.capn_reading.specs.Following.{◌>>=◌, visit, followed}
use Rattle.capn_reading.specs.Layouts.{laid, weight}
use Rattle.capn_trees.specs.Trees as tree
use Rattle.capn_trees.specs.Trees.{Tree, Trees, Structs}
use Rattle.capn_trees.specs.declared.width.Width.{Width}
use Rattle.capn_trees.specs.Widths.{bits_of}
use Rattle.capn_trees.specs.Views.{view, fields_view, trees_view, structs_view}
use Rattle.capn_trees.specs.declared.tree.Fields.{Fields}
use Rattle.capn_reading.specs.Reading.{Reading, elements, pointers_at, structs_at, content_of, shallow, deep, reading}
use Rattle.capn_reading.proofs.Rooted.{read_as, bind_ok}

abbrev pub join : Trees → Trees → Trees
join tree.no_trees ts = ts
join (tree.tree t us) ts = tree.tree t (join us ts)

abbrev pub join_structs : Structs → Structs → Structs
join_structs tree.no_structs ss = ss
join_structs (tree.struct_of ws ts us) ss = tree.struct_of ws ts (join_structs us ss)

abbrev pub with_trees : Trees → Reading Trees → Reading Trees
with_trees front read = read >>= λ x. Ok (join front x.0, x.1)

abbrev pub with_structs : Structs → Reading Structs → Reading Structs
with_structs front read = read >>= λ x. Ok (join_structs front x.0, x.1)

-- a step of what reads does read
pub ok_bind : {A B : Type 0} (r : Result A PayloadFault) (f : A → Result B PayloadFault) → IsOk (r >>= f) → (x : A) × (r ≡ Ok x) × IsOk (f x)
ok_bind (Ok x) f ok = (x, refl, ok)
ok_bind (Err e) f ok = absurd cc

pub is_ok_from : {A : Type 0} (r : Result A PayloadFault) (x : A) → r ≡ Ok x → IsOk r
is_ok_from (Ok y) x e = refl
is_ok_from (Err d) x e = absurd cc

join_one : (us ts : Trees) (t : Tree) → join (join us (tree.tree t tree.no_trees)) ts ≡ join us (tree.tree t ts)
join_one tree.no_trees ts t = refl
join_one (tree.tree u us) ts t = ap (λ (x : Trees). tree.tree u x) (join_one us ts t)

join_none : (us : Trees) → join us tree.no_trees ≡ us
join_none tree.no_trees = refl
join_none (tree.tree u us) = ap (λ (x : Trees). tree.tree u x) (join_none us)

regroup : (front : Trees) (t : Tree) (read : Reading Trees) → with_trees front (read >>= λ x. Ok (tree.tree t x.0, x.1)) ≡ with_trees (join front (tree.tree t tree.no_trees)) read
regroup front t (Ok x) = ap (λ (ts : Trees). read_as ts x.1) (sym (join_one front x.0 t))
regroup front t (Err e) = refl

pub with_no_trees : (read : Reading Trees) → with_trees tree.no_trees read ≡ read
with_no_trees (Ok x) = refl
with_no_trees (Err e) = refl

pub pointers_go_on : (read : ℕ → ℕ → ℕ → Reading Tree) (s i n k v : ℕ) (front : Trees) (t : Tree) (after : ℕ) (total : Reading Trees) → k < n → read s (i + k) v ≡ Ok (t, after)
    → with_trees front (pointers_at read s (i + k) (n - k) v) ≡ total
    → with_trees (join front (tree.tree t tree.no_trees)) (pointers_at read s (i + (k + 1)) (n - (k + 1)) after) ≡ total
unfolding pointers_at
pointers_go_on read s i n k v front t after total lt h so_far =
    let one : n - k ≡ suc (n - (k + 1)) = omega arith in
    let place : i + k + 1 ≡ i + (k + 1) = omega arith in
    ap (λ (j : ℕ). with_trees (join front (tree.tree t tree.no_trees)) (pointers_at read s j (n - (k + 1)) after)) (sym place)
    ∙ sym (regroup front t (pointers_at read s (i + k + 1) (n - (k + 1)) after))
    ∙ ap (λ (r : Reading Tree). with_trees front (r >>= λ first. pointers_at read s (i + k + 1) (n - (k + 1)) first.1 >>= λ rest. Ok (tree.tree first.0 rest.0, rest.1))) (sym h)
    ∙ ap (λ (m : ℕ). with_trees front (pointers_at read s (i + k) m v)) (sym one) ∙ so_far

pub pointers_over : (read : ℕ → ℕ → ℕ → Reading Tree) (s i n k v : ℕ) (front : Trees) (total : Reading Trees) → n ≤ k
    → with_trees front (pointers_at read s (i + k) (n - k) v) ≡ total → total ≡ Ok (front, v)
unfolding pointers_at
pointers_over read s i n k v front total le so_far =
    let none : n - k ≡ 0 = omega arith in
    sym so_far ∙ ap (λ (m : ℕ). with_trees front (pointers_at read s (i + k) m v)) none ∙ ap (λ (ts : Trees). read_as ts v) (join_none front)

-- the next pointer reads, where all of them do
pub next_reads : (read : ℕ → ℕ → ℕ → Reading Tree) (s i n k v : ℕ) (front : Trees) (total : Reading Trees) → k < n → IsOk total
    → with_trees front (pointers_at read s (i + k) (n - k) v) ≡ total → IsOk (read s (i + k) v)
unfolding pointers_at
next_reads read s i n k v front total lt ok so_far =
    let one : n - k ≡ suc (n - (k + 1)) = omega arith in
    let all : IsOk (with_trees front (pointers_at read s (i + k) (suc (n - (k + 1))) v)) =
    subst (λ (r : Reading Trees). IsOk r) (sym so_far ∙ ap (λ (m : ℕ). with_trees front (pointers_at read s (i + k) m v)) one) ok in
    let a = ok_bind (pointers_at read s (i + k) (suc (n - (k + 1))) v) (λ x. Ok (join front x.0, x.1)) all in
    let b = bind_ok (read s (i + k) v) (λ first. pointers_at read s (i + k + 1) (n - (k + 1)) first.1 >>= λ rest. Ok (tree.tree first.0 rest.0, rest.1)) a.0 a.1 in
    is_ok_from (read s (i + k) v) b.0 b.1

joined_one : (ts us : Structs) (ws : List ℕ) (ps : Trees) → join_structs (join_structs ts (tree.struct_of ws ps tree.no_structs)) us ≡ join_structs ts (tree.struct_of ws ps us)
joined_one tree.no_structs us ws ps = refl
joined_one (tree.struct_of xs qs ts) us ws ps = ap (λ (x : Structs). tree.struct_of xs qs x) (joined_one ts us ws ps)

joined_none : (ts : Structs) → join_structs ts tree.no_structs ≡ ts
joined_none tree.no_structs = refl
joined_none (tree.struct_of xs qs ts) = ap (λ (x : Structs). tree.struct_of xs qs x) (joined_none ts)

regroup_structs : (front : Structs) (ws : List ℕ) (ps : Trees) (read : Reading Structs) → with_structs front (read >>= λ x. Ok (tree.struct_of ws ps x.0, x.1)) ≡ with_structs (join_structs front (tree.struct_of ws ps tree.no_structs)) read
regroup_structs front ws ps (Ok x) = ap (λ (ts : Structs). read_as ts x.1) (sym (joined_one front x.0 ws ps))
regroup_structs front ws ps (Err e) = refl

pub with_no_structs : (read : Reading Structs) → with_structs tree.no_structs read ≡ read
with_no_structs (Ok x) = refl
with_no_structs (Err e) = refl

module _ (m : List (List ℕ)) (read : ℕ → ℕ → ℕ → Reading Tree) (s d p at n k v : ℕ) (front : Structs) (total : Reading Structs) (so_far : with_structs front (structs_at m read s d p at (n - k) v) ≡ total) where
  pub structs_go_on : (next : ℕ) (ps : Trees) (after : ℕ) → k < n → next ≡ at + (d + p) → pointers_at read s (at + d) p v ≡ Ok (ps, after)
      → with_structs (join_structs front (tree.struct_of (take d (drop at (segment_of m s))) ps tree.no_structs)) (structs_at m read s d p next (n - (k + 1)) after) ≡ total
  unfolding structs_at
  structs_go_on next ps after lt is_next h =
      let one : n - k ≡ suc (n - (k + 1)) = omega arith in
      ap (λ (j : ℕ). with_structs (join_structs front (tree.struct_of (take d (drop at (segment_of m s))) ps tree.no_structs)) (structs_at m read s d p j (n - (k + 1)) after)) is_next
      ∙ sym (regroup_structs front (take d (drop at (segment_of m s))) ps (structs_at m read s d p (at + (d + p)) (n - (k + 1)) after))
      ∙ ap (λ (r : Reading Trees). with_structs front (r >>= λ first. structs_at m read s d p (at + (d + p)) (n - (k + 1)) first.1 >>= λ rest. Ok (tree.struct_of (take d (drop at (segment_of m s))) first.0 rest.0, rest.1))) (sym h)
      ∙ ap (λ (r : ℕ). with_structs front (structs_at m read s d p at r v)) (sym one) ∙ so_far

  pub structs_over : n ≤ k → total ≡ Ok (front, v)
  unfolding structs_at
  structs_over le =
      let none : n - k ≡ 0 = omega arith in
      sym so_far ∙ ap (λ (r : ℕ). with_structs front (structs_at m read s d p at r v)) none ∙ ap (λ (ts : Structs). read_as ts v) (joined_none front)

  pub next_struct_reads : k < n → IsOk total → IsOk (pointers_at read s (at + d) p v)
  unfolding structs_at
  next_struct_reads lt ok =
      let one : n - k ≡ suc (n - (k + 1)) = omega arith in
      let all : IsOk (with_structs front (structs_at m read s d p at (suc (n - (k + 1))) v)) =
      subst (λ (r : Reading Structs). IsOk r) (sym so_far ∙ ap (λ (r : ℕ). with_structs front (structs_at m read s d p at r v)) one) ok in
      let a = ok_bind (structs_at m read s d p at (suc (n - (k + 1))) v) (λ x. Ok (join_structs front x.0, x.1)) all in
      let b = bind_ok (pointers_at read s (at + d) p v) (λ first. structs_at m read s d p (at + (d + p)) (n - (k + 1)) first.1 >>= λ rest. Ok (tree.struct_of (take d (drop at (segment_of m s))) first.0 rest.0, rest.1)) a.0 a.1 in
      is_ok_from (pointers_at read s (at + d) p v) b.0 b.1

pub trees_view_push : (ts : List program.Tree) (t : program.Tree) → trees_view (ts ++ t ∷ []) ≡ join (trees_view ts) (tree.tree (view t) tree.no_trees)
trees_view_push [] t = refl
trees_view_push (u ∷ ts) t = ap (λ (x : Trees). tree.tree (view u) x) (trees_view_push ts t)

pub structs_view_push : (ss : List Fields) (s : Fields) → structs_view (ss ++ s ∷ []) ≡ join_structs (structs_view ss) (tree.struct_of (fields_view s).0 (fields_view s).1 tree.no_structs)
structs_view_push [] s = refl
structs_view_push (u ∷ ss) s = ap (λ (x : Structs). tree.struct_of (fields_view u).0 (fields_view u).1 x) (structs_view_push ss s)

-- the parts of a content that reads
module _ (m : List (List ℕ)) (read : ℕ → ℕ → ℕ → Reading Tree) (s v : ℕ) where
  pub struct_reads : (start d p : ℕ) → IsOk (content_of m read s (layout.Struct start d p) v) → IsOk (pointers_at read s (start + d) p v)
  unfolding content_of
  struct_reads start d p ok =
      let a = ok_bind (pointers_at read s (start + d) p v) (λ found. Ok (tree.struct (take d (drop start (segment_of m s))) found.0, found.1)) ok in
      is_ok_from (pointers_at read s (start + d) p v) a.0 a.1

  pub pointers_read_ok : (start count : ℕ) → IsOk (content_of m read s (layout.Pointers start count) v) → IsOk (pointers_at read s start count v)
  unfolding content_of
  pointers_read_ok start count ok =
      let a = ok_bind (pointers_at read s start count v) (λ found. Ok (tree.list (tree.pointers found.0), found.1)) ok in
      is_ok_from (pointers_at read s start count v) a.0 a.1

  pub structs_read_ok : (start count d p words : ℕ) → IsOk (content_of m read s (layout.Structs start count d p words) v) → IsOk (structs_at m read s d p start count v)
  unfolding content_of
  structs_read_ok start count d p words ok =
      let a = ok_bind (structs_at m read s d p start count v) (λ found. Ok (tree.list (tree.structs d p found.0), found.1)) ok in
      is_ok_from (structs_at m read s d p start count v) a.0 a.1

  pub struct_is : (start d p : ℕ) (ts : Trees) (after : ℕ) → pointers_at read s (start + d) p v ≡ Ok (ts, after) → content_of m read s (layout.Struct start d p) v ≡ Ok (tree.struct (take d (drop start (segment_of m s))) ts, after)
  unfolding content_of
  struct_is start d p ts after e = ap (λ (r : Reading Trees). r >>= λ found. read_as (tree.struct (take d (drop start (segment_of m s))) found.0) found.1) e

  pub packed_is : (start : ℕ) (width : Width) (count : ℕ) → content_of m read s (layout.Packed start width count) v ≡ Ok (tree.list (tree.packed (bits_of width) (elements (drop start (segment_of m s)) (bits_of width) 0 count)), v)
  unfolding content_of
  packed_is start width count = refl

  pub pointers_is : (start count : ℕ) (ts : Trees) (after : ℕ) → pointers_at read s start count v ≡ Ok (ts, after) → content_of m read s (layout.Pointers start count) v ≡ Ok (tree.list (tree.pointers ts), after)
  unfolding content_of
  pointers_is start count ts after e = ap (λ (r : Reading Trees). r >>= λ found. read_as (tree.list (tree.pointers found.0)) found.1) e

  pub structs_is : (start count d p words : ℕ) (ss : Structs) (after : ℕ) → structs_at m read s d p start count v ≡ Ok (ss, after) → content_of m read s (layout.Structs start count d p words) v ≡ Ok (tree.list (tree.structs d p ss), after)
  unfolding content_of
  structs_is start count d p words ss after e = ap (λ (r : Reading Structs). r >>= λ found. read_as (tree.list (tree.structs d p found.0)) found.1) e

-- the parts of a pointer that reads
pub reads_followed : (m : List (List ℕ)) (caps levels s i v : ℕ) → IsOk (reading m caps levels s i v) → (x : Referent × ℕ) × (followed m caps s i v ≡ Ok x)
unfolding reading
reads_followed m caps zero s i v ok = let a = ok_bind (followed m caps s i v) (λ found. shallow found.0 found.1) ok in (a.0, a.1)
reads_followed m caps (suc n) s i v ok = let a = ok_bind (followed m caps s i v) (λ found. deep m (reading m caps n) found.0 found.1) ok in (a.0, a.1)

pub reading_null : (m : List (List ℕ)) (caps levels s i v after : ℕ) → Ok (referent.Null, after) ≡ followed m caps s i v → reading m caps levels s i v ≡ Ok (tree.null, after)
unfolding reading shallow deep
reading_null m caps zero s i v after found = sym (ap (λ (f : Reading Referent). f >>= λ found. shallow found.0 found.1) found)
reading_null m caps (suc n) s i v after found = sym (ap (λ (f : Reading Referent). f >>= λ found. deep m (reading m caps n) found.0 found.1) found)

pub reading_capability : (m : List (List ℕ)) (caps levels s i v index after : ℕ) → Ok (referent.Capability index, after) ≡ followed m caps s i v → reading m caps levels s i v ≡ Ok (tree.capability index, after)
unfolding reading shallow deep
reading_capability m caps zero s i v index after found = sym (ap (λ (f : Reading Referent). f >>= λ found. shallow found.0 found.1) found)
reading_capability m caps (suc n) s i v index after found = sym (ap (λ (f : Reading Referent). f >>= λ found. deep m (reading m caps n) found.0 found.1) found)

abbrev too_deep : Reading Tree
too_deep = Err Depth

pub not_too_deep : (m : List (List ℕ)) (caps levels s i v : ℕ) (c : Content) (after : ℕ) → Ok (referent.Content c, after) ≡ followed m caps s i v → levels ≡ 0 → IsOk (reading m caps levels s i v) → ⊥
unfolding reading shallow
not_too_deep m caps levels s i v c after found none ok =
    let e : reading m caps levels s i v ≡ too_deep = ap (λ (n : ℕ). reading m caps n s i v) none ∙ sym (ap (λ (f : Reading Referent). f >>= λ found. shallow found.0 found.1) found) in
    absurd (let no : IsOk too_deep = subst (λ (r : Reading Tree). IsOk r) e ok in cc)

module _ (m : List (List ℕ)) (caps n levels s i v : ℕ) (c : Content) (after : ℕ) (found : Ok (referent.Content c, after) ≡ followed m caps s i v) (more : levels ≡ suc n) where
  pub reading_deep : (laid m c >>= λ place. visit after (weight place) >>= λ next. content_of m (reading m caps n) c.segment place next) ≡ reading m caps levels s i v
  unfolding reading deep
  reading_deep = ap (λ (f : Reading Referent). f >>= λ found. deep m (reading m caps n) found.0 found.1) found ∙ ap (λ (k : ℕ). reading m caps k s i v) (sym more)

  pub deep_laid : IsOk (reading m caps levels s i v) → (place : Layout) × (laid m c ≡ Ok place)
  deep_laid ok =
      let a = ok_bind (laid m c) (λ place. visit after (weight place) >>= λ next. content_of m (reading m caps n) c.segment place next) (subst (λ (r : Reading Tree). IsOk r) (sym reading_deep) ok) in
      (a.0, a.1)

  pub deep_place : (place : Layout) → Ok place ≡ laid m c → (visit after (weight place) >>= λ next. content_of m (reading m caps n) c.segment place next) ≡ reading m caps levels s i v
  deep_place place is_laid = ap (λ (l : Result Layout PayloadFault). l >>= λ place. visit after (weight place) >>= λ next. content_of m (reading m caps n) c.segment place next) is_laid ∙ reading_deep

  pub deep_visited : (place : Layout) → Ok place ≡ laid m c → IsOk (reading m caps levels s i v) → (next : ℕ) × (visit after (weight place) ≡ Ok next)
  deep_visited place is_laid ok =
      let a = ok_bind (visit after (weight place)) (λ next. content_of m (reading m caps n) c.segment place next) (subst (λ (r : Reading Tree). IsOk r) (sym (deep_place place is_laid)) ok) in
      (a.0, a.1)

  pub deep_content : (place : Layout) (next : ℕ) → Ok place ≡ laid m c → Ok next ≡ visit after (weight place) → content_of m (reading m caps n) c.segment place next ≡ reading m caps levels s i v
  deep_content place next is_laid is_next = ap (λ (w : Result ℕ PayloadFault). w >>= λ next. content_of m (reading m caps n) c.segment place next) is_next ∙ deep_place place is_laid
