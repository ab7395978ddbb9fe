-- What is read of words of 64 bits has numbers within their widths.
use Rattle.std.proofs.Common.{◌≡◌, ℕ, zero, suc, ◌+◌, ◌/◌, ◌%◌, ◌^◌, ◌<◌, Bool, true, false, cond, eqb, ltb, List, [], ◌∷◌, take, drop, Option, Some, None, Ok, refl, subst, arith}
use Rattle.std.specs.Prelude.{⊤, ◌*◌, length}
use Rattle.std.specs.List.{AllByRecursion}
use Rattle.std.proofs.Math.Nat.{mod-lt}
use Rattle.std.proofs.lemmas.Nat.{pow_pos}
use Rattle.capn_trees.specs.declared.faults.PayloadFault.TheVariants.{BadTag}
use Rattle.capn_trees.specs.declared.width.Width.{Width}
use Rattle.capn_trees.specs.Trees as tree
use Rattle.capn_trees.specs.Trees.{Tree, Trees, Elements, Structs}
use Rattle.capn_trees.specs.Widths.{bits_of, AreOf}
use Rattle.capn_reading.specs.declared.pointer.Shape.{Shape}
use Rattle.capn_reading.specs.declared.pointer.Shape.TheVariants as shape
use Rattle.capn_reading.specs.declared.pointer.Tag.{Tag}
use Rattle.capn_reading.specs.declared.referent.Content.{Content}
use Rattle.capn_reading.specs.declared.referent.Referent.{Referent}
use Rattle.capn_reading.specs.declared.referent.Referent.TheVariants as referent
use Rattle.capn_reading.specs.declared.layout.Layout.{Layout}
use Rattle.capn_reading.specs.declared.layout.Layout.TheVariants as layout
use Rattle.capn_reading.specs.Pointers.{middle, upper, words_of, tag_of}
use Rattle.capn_reading.specs.Segments.{segment_of, word_at}
use Rattle.capn_reading.specs.Following.{◌>>=◌, visit, followed}
use Rattle.capn_reading.specs.Layouts.{placed, tagged, shaped, laid, weight}
use Rattle.capn_reading.specs.Reading.{Reading, elements, pointers_at, structs_at, content_of, shallow, deep, reading}
use Rattle.capn_reading.proofs.Counted.{HaveBits}
use Rattle.capn_reading.proofs.Places.{ok_is}
use Rattle.capn_reading.proofs.Rooted.{bind_ok, passed, first_is}

abbrev pub AllFit : List ℕ → Type 0
AllFit ws = AllByRecursion (λ w. w < 2 ^ 64) ws

-- The numbers of a tree are within their widths. (Of the indices of capabilities `AreGood` says more.)
abbrev mutual
  pub HasWidths : Tree → Type 0
  HasWidths tree.null = ⊤
  HasWidths (tree.capability index) = ⊤
  HasWidths (tree.struct ws ts) = AllFit ws × HaveWidths ts
  HasWidths (tree.list es) = ListHasWidths es

  pub HaveWidths : Trees → Type 0
  HaveWidths tree.no_trees = ⊤
  HaveWidths (tree.tree t ts) = HasWidths t × HaveWidths ts

  pub ListHasWidths : Elements → Type 0
  ListHasWidths (tree.packed bits xs) = ((w : Width) × (bits ≡ bits_of w)) × AreOf bits xs
  ListHasWidths (tree.pointers ts) = HaveWidths ts
  ListHasWidths (tree.structs d p ss) = ((d < 2 ^ 16) × (p < 2 ^ 16)) × StructsHaveWidths ss

  pub StructsHaveWidths : Structs → Type 0
  StructsHaveWidths tree.no_structs = ⊤
  StructsHaveWidths (tree.struct_of ws ts ss) = (AllFit ws × HaveWidths ts) × StructsHaveWidths ss

-- ---- words

take_fits : (n : ℕ) (ws : List ℕ) → AllFit ws → AllFit (take n ws)
take_fits zero ws fit = tt
take_fits (suc n) [] fit = tt
take_fits (suc n) (w ∷ ws) fit = (fit.0, take_fits n ws fit.1)

drop_fits : (n : ℕ) (ws : List ℕ) → AllFit ws → AllFit (drop n ws)
drop_fits zero ws fit = fit
drop_fits (suc n) [] fit = tt
drop_fits (suc n) (w ∷ ws) fit = drop_fits n ws fit.1

elements_fit : (ws : List ℕ) (bits k n : ℕ) → AreOf bits (elements ws bits k n)
unfolding elements
elements_fit ws bits k zero i = pow_pos bits
elements_fit ws bits k (suc n) zero = mod-lt _ (pow_pos bits)
elements_fit ws bits k (suc n) (suc i) = elements_fit ws bits (k + 1) n i

-- ---- the sizes of structs in a list

abbrev IsTagged : Layout → Type 0
IsTagged (layout.Struct start d p) = ⊤
IsTagged (layout.Packed start w n) = ⊤
IsTagged (layout.Pointers start n) = ⊤
IsTagged (layout.Structs start n d p words) = (d < 2 ^ 16) × (p < 2 ^ 16)

abbrev ToNarrow : Option Tag → Type 0
ToNarrow None = ⊤
ToNarrow (Some tag) = (tag.data_words < 2 ^ 16) × (tag.pointer_words < 2 ^ 16)

tag_by : (b : Bool) (count d p : ℕ) → d < 2 ^ 16 → p < 2 ^ 16 → ToNarrow (cond b (Some (record { count = count; data_words = d; pointer_words = p })) None)
tag_by true count d p few fewer = (few, fewer)
tag_by false count d p few fewer = tt

tag_narrow : (word : ℕ) → word < 2 ^ 64 → ToNarrow (tag_of word)
tag_narrow word lt = tag_by (eqb (word % 4) 0) (middle word) (upper word % 2 ^ 16) (upper word / 2 ^ 16) (omega arith) (omega arith)

tagged_by : (i words : ℕ) (o : Option Tag) (place : Layout) → ToNarrow o → tagged i words o ≡ Ok place → IsTagged place
tagged_by i words None place narrow e = absurd cc
tagged_by i words (Some tag) place narrow e =
    let p = passed (ltb words (tag.count * (tag.data_words + tag.pointer_words))) BadTag (Ok (layout.Structs (i + 1) tag.count tag.data_words tag.pointer_words words)) place e in
    subst IsTagged (ok_is (layout.Structs (i + 1) tag.count tag.data_words tag.pointer_words words) place p.1) narrow

module _ (m : List (List ℕ)) (bits : HaveBits m) where
  shaped_tagged : (s i : ℕ) (sh : Shape) (place : Layout) → shaped m s i sh ≡ Ok place → IsTagged place
  shaped_tagged s i (shape.Struct d p) place e = subst IsTagged (ok_is (layout.Struct i d p) place e) tt
  shaped_tagged s i (shape.Packed w n) place e = subst IsTagged (ok_is (layout.Packed i w n) place e) tt
  shaped_tagged s i (shape.Pointers n) place e = subst IsTagged (ok_is (layout.Pointers i n) place e) tt
  shaped_tagged s i (shape.Composite words) place e = tagged_by i words (tag_of (word_at m s i)) place (tag_narrow (word_at m s i) (bits s i)) e

  laid_tagged : (c : Content) (place : Layout) → laid m c ≡ Ok place → IsTagged place
  unfolding laid
  laid_tagged c place e =
      let a = bind_ok (placed c.start (words_of c.shape) (length (segment_of m c.segment))) (λ start. shaped m c.segment start c.shape) place e in
      shaped_tagged c.segment a.0 c.shape place a.2

-- ---- what is read

abbrev ReadsWidths : (ℕ → ℕ → ℕ → Reading Tree) → Type 0
ReadsWidths read = (s i v : ℕ) (t : Tree) (w : ℕ) → read s i v ≡ Ok (t, w) → HasWidths t

module _ (m : List (List ℕ)) (fit : (s : ℕ) → AllFit (segment_of m s)) (read : ℕ → ℕ → ℕ → Reading Tree) (h : ReadsWidths read) where
  pointers_widths : (s i n v : ℕ) (ts : Trees) (w : ℕ) → pointers_at read s i n v ≡ Ok (ts, w) → HaveWidths ts
  unfolding pointers_at
  pointers_widths s i zero v ts w e = subst HaveWidths (first_is tree.no_trees ts v w e) tt
  pointers_widths s i (suc n) v ts w e =
      let a = bind_ok (read s i v) (λ first. pointers_at read s (i + 1) n first.1 >>= λ rest. Ok (tree.tree first.0 rest.0, rest.1)) (ts, w) e in
      let b = bind_ok (pointers_at read s (i + 1) n a.0.1) (λ rest. Ok (tree.tree a.0.0 rest.0, rest.1)) (ts, w) a.2 in
      subst HaveWidths (first_is (tree.tree a.0.0 b.0.0) ts b.0.1 w b.2) (h s i v a.0.0 a.0.1 a.1, pointers_widths s (i + 1) n a.0.1 b.0.0 b.0.1 b.1)

  words_there : (s i d : ℕ) → AllFit (take d (drop i (segment_of m s)))
  words_there s i d = take_fits d (drop i (segment_of m s)) (drop_fits i (segment_of m s) (fit s))

  structs_widths : (s d p i n v : ℕ) (ss : Structs) (w : ℕ) → structs_at m read s d p i n v ≡ Ok (ss, w) → StructsHaveWidths ss
  unfolding structs_at
  structs_widths s d p i zero v ss w e = subst StructsHaveWidths (first_is tree.no_structs ss v w e) tt
  structs_widths s d p i (suc n) v ss w e =
      let ws = take d (drop i (segment_of m s)) in
      let a = bind_ok (pointers_at read s (i + d) p v) (λ first. structs_at m read s d p (i + (d + p)) n first.1 >>= λ rest. Ok (tree.struct_of ws first.0 rest.0, rest.1)) (ss, w) e in
      let b = bind_ok (structs_at m read s d p (i + (d + p)) n a.0.1) (λ rest. Ok (tree.struct_of ws a.0.0 rest.0, rest.1)) (ss, w) a.2 in
      subst StructsHaveWidths (first_is (tree.struct_of ws a.0.0 b.0.0) ss b.0.1 w b.2)
      ((words_there s i d, pointers_widths s (i + d) p v a.0.0 a.0.1 a.1), structs_widths s d p (i + (d + p)) n a.0.1 b.0.0 b.0.1 b.1)

  content_widths : (s : ℕ) (place : Layout) (v : ℕ) (t : Tree) (w : ℕ) → IsTagged place → content_of m read s place v ≡ Ok (t, w) → HasWidths t
  unfolding content_of
  content_widths s (layout.Struct start d p) v t w narrow e =
      let ws = take d (drop start (segment_of m s)) in
      let a = bind_ok (pointers_at read s (start + d) p v) (λ found. Ok (tree.struct ws found.0, found.1)) (t, w) e in
      subst HasWidths (first_is (tree.struct ws a.0.0) t a.0.1 w a.2) (words_there s start d, pointers_widths s (start + d) p v a.0.0 a.0.1 a.1)
  content_widths s (layout.Packed start wide count) v t w narrow e =
      let xs = elements (drop start (segment_of m s)) (bits_of wide) 0 count in
      subst HasWidths (first_is (tree.list (tree.packed (bits_of wide) xs)) t v w e) ((wide, refl), elements_fit (drop start (segment_of m s)) (bits_of wide) 0 count)
  content_widths s (layout.Pointers start count) v t w narrow e =
      let a = bind_ok (pointers_at read s start count v) (λ found. Ok (tree.list (tree.pointers found.0), found.1)) (t, w) e in
      subst HasWidths (first_is (tree.list (tree.pointers a.0.0)) t a.0.1 w a.2) (pointers_widths s start count v a.0.0 a.0.1 a.1)
  content_widths s (layout.Structs start count d p words) v t w narrow e =
      let a = bind_ok (structs_at m read s d p start count v) (λ found. Ok (tree.list (tree.structs d p found.0), found.1)) (t, w) e in
      subst HasWidths (first_is (tree.list (tree.structs d p a.0.0)) t a.0.1 w a.2) (narrow, structs_widths s d p start count v a.0.0 a.0.1 a.1)

module _ (m : List (List ℕ)) (caps : ℕ) (bits : HaveBits m) (fit : (s : ℕ) → AllFit (segment_of m s)) where
  shallow_widths : (r : Referent) (v : ℕ) (t : Tree) (w : ℕ) → shallow r v ≡ Ok (t, w) → HasWidths t
  unfolding shallow
  shallow_widths referent.Null v t w e = subst HasWidths (first_is tree.null t v w e) tt
  shallow_widths (referent.Capability index) v t w e = subst HasWidths (first_is (tree.capability index) t v w e) tt
  shallow_widths (referent.Content c) v t w e = absurd cc

  deep_widths : (read : ℕ → ℕ → ℕ → Reading Tree) → ReadsWidths read → (r : Referent) (v : ℕ) (t : Tree) (w : ℕ) → deep m read r v ≡ Ok (t, w) → HasWidths t
  unfolding deep
  deep_widths read h referent.Null v t w e = subst HasWidths (first_is tree.null t v w e) tt
  deep_widths read h (referent.Capability index) v t w e = subst HasWidths (first_is (tree.capability index) t v w e) tt
  deep_widths read h (referent.Content c) v t w e =
      let a = bind_ok (laid m c) (λ place. visit v (weight place) >>= λ next. content_of m read c.segment place next) (t, w) e in
      let b = bind_ok (visit v (weight a.0)) (λ next. content_of m read c.segment a.0 next) (t, w) a.2 in
      content_widths m fit read h c.segment a.0 b.0 t w (laid_tagged m bits c a.0 a.1) b.2

  pub reading_widths : (levels : ℕ) → ReadsWidths (reading m caps levels)
  unfolding reading
  reading_widths zero s i v t w e =
      let a = bind_ok (followed m caps s i v) (λ found. shallow found.0 found.1) (t, w) e in
      shallow_widths a.0.0 a.0.1 t w a.2
  reading_widths (suc levels) s i v t w e =
      let a = bind_ok (followed m caps s i v) (λ found. deep m (reading m caps levels) found.0 found.1) (t, w) e in
      deep_widths (reading m caps levels) (reading_widths levels) a.0.0 a.0.1 t w a.2
