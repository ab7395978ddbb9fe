-- What is read can be written, and no more words are written than were visited.
use Rattle.std.proofs.Common.{◌≡◌, ℕ, zero, suc, ◌+◌, ◌-◌, ◌*◌, ◌/◌, ◌%◌, ◌^◌, ◌<◌, ◌≤◌, Bool, true, false, cond, eqb, ltb, not, ◌&&◌, ◌||◌, List, [], ◌∷◌, ◌++◌, length, take, drop, Option, Some, None, Result, Ok, Err, refl, sym, ap, subst, ◌∙◌, arith}
use Rattle.std.specs.Prelude.{⊤}
use Rattle.std.proofs.lemmas.Bool.{ltb-false, ltb-true, ne_eqb, eq-eqb, le-ltb, lt-ltb}
use Rattle.std.proofs.lemmas.List.{length-take-le, length-drop}
use Rattle.capn_trees.specs.declared.faults.PayloadFault.{PayloadFault}
use Rattle.capn_trees.specs.declared.faults.PayloadFault.TheVariants.{OutOfBounds, BadTag, CapIndex, BadOther}
use Rattle.capn_trees.specs.declared.width.Width.TheVariants as width
use Rattle.capn_trees.specs.Trees as tree
use Rattle.capn_trees.specs.Trees.{Tree, Trees, Structs, trees_count, structs_count}
use Rattle.capn_trees.specs.Widths.{bits_of, packed_size}
use Rattle.capn_trees.specs.Writable.{Part, parts, parts_of_all, parts_of_structs, are_even, is_uneven, is_too_deep, is_beyond, is_too_wide, words_visited, all_words}
use Rattle.capn_trees.proofs.Parts.{words_append}
use Rattle.capn_reading.specs.declared.pointer.Shape.{Shape}
use Rattle.capn_reading.specs.declared.pointer.Shape.TheVariants as shape
use Rattle.capn_reading.specs.declared.pointer.Pointer.{Pointer}
use Rattle.capn_reading.specs.declared.pointer.Pointer.TheVariants as pointer
use Rattle.capn_reading.specs.declared.pointer.Tag.{Tag}
use Rattle.capn_reading.specs.declared.referent.Content.{Content}
use Rattle.capn_reading.specs.declared.referent.Referent.{Referent}
use Rattle.capn_reading.specs.declared.referent.Referent.TheVariants as referent
use Rattle.capn_reading.specs.declared.layout.Layout.{Layout}
use Rattle.capn_reading.specs.declared.layout.Layout.TheVariants as layout
use Rattle.capn_reading.specs.Pointers.{middle, upper, list_shape, struct_shape, decoded, words_of, tag_of}
use Rattle.capn_reading.specs.Segments.{segment_of, word_at, size_of}
use Rattle.capn_reading.specs.Following.{◌>>=◌, visit, target, pad_words, single_pad, pad_tag, double_pad, pad_at, far, capability, leads, followed}
use Rattle.capn_reading.specs.Layouts.{placed, tagged, shaped, laid, weight}
use Rattle.capn_reading.specs.Reading.{Reading, elements, pointers_at, structs_at, content_of, shallow, deep, reading}
use Rattle.capn_reading.proofs.Rooted.{bind_ok, passed, read_as, first_is}
use Rattle.capn_reading.proofs.Places.{ok_is}
use Rattle.capn_reading.proofs.Grown.{visited, after_is, leads_grow}
use Rattle.capn_reading.proofs.Building.{elements_counted}

-- ---- pointers of words of 64 bits

abbrev pub HaveBits : List (List ℕ) → Type 0
HaveBits m = (s i : ℕ) → word_at m s i < 2 ^ 64

abbrev IsNarrow : Shape → Type 0
IsNarrow (shape.Struct d p) = ⊤
IsNarrow (shape.Packed w n) = n < 2 ^ 29
IsNarrow (shape.Pointers n) = ⊤
IsNarrow (shape.Composite n) = ⊤

abbrev ToNarrow : Pointer → Type 0
ToNarrow pointer.Null = ⊤
ToNarrow (pointer.Content offset s) = IsNarrow s
ToNarrow (pointer.Far is_double offset segment) = ⊤
ToNarrow (pointer.Other middle index) = ⊤

-- one of these by tests
shape_by : (a b c d e f g : Bool) (n : ℕ) → n < 2 ^ 29
    → IsNarrow (cond a (shape.Packed width.Void n) (cond b (shape.Packed width.Bit n) (cond c (shape.Packed width.Byte n) (cond d (shape.Packed width.TwoBytes n)
    (cond e (shape.Packed width.FourBytes n) (cond f (shape.Packed width.EightBytes n) (cond g (shape.Pointers n) (shape.Composite n))))))))
shape_by true b c d e f g n lt = lt
shape_by false true c d e f g n lt = lt
shape_by false false true d e f g n lt = lt
shape_by false false false true e f g n lt = lt
shape_by false false false false true f g n lt = lt
shape_by false false false false false true g n lt = lt
shape_by false false false false false false true n lt = tt
shape_by false false false false false false false n lt = tt

list_narrow : (half : ℕ) → half < 2 ^ 32 → IsNarrow (list_shape half)
list_narrow half lt =
    shape_by (eqb (half % 8) 0) (eqb (half % 8) 1) (eqb (half % 8) 2) (eqb (half % 8) 3) (eqb (half % 8) 4) (eqb (half % 8) 5) (eqb (half % 8) 6) (half / 8) (omega arith)

pointer_by : (a b c d : Bool) (offset half : ℕ) (s : Shape) (p q : Pointer) → IsNarrow s → ToNarrow p → ToNarrow q
    → ToNarrow (cond a pointer.Null (cond b (pointer.Content offset (struct_shape half)) (cond c (pointer.Content offset s) (cond d p q))))
pointer_by true b c d offset half s p q h i j = tt
pointer_by false true c d offset half s p q h i j = tt
pointer_by false false true d offset half s p q h i j = h
pointer_by false false false true offset half s p q h i j = i
pointer_by false false false false offset half s p q h i j = j

decoded_narrow : (word : ℕ) → word < 2 ^ 64 → ToNarrow (decoded word)
decoded_narrow word lt =
    pointer_by (eqb word 0) (eqb (word % 4) 0) (eqb (word % 4) 1) (eqb (word % 4) 2) (middle word) (upper word) (list_shape (upper word))
    (pointer.Far (eqb (middle word % 2) 1) (middle word / 2) (upper word)) (pointer.Other (middle word) (upper word)) (list_narrow (upper word) (omega arith)) tt tt

-- ---- what they lead to

abbrev IsSound : ℕ → Referent → Type 0
IsSound caps referent.Null = ⊤
IsSound caps (referent.Capability index) = index < caps
IsSound caps (referent.Content c) = IsNarrow c.shape

-- a test that passed the other way
taken_then : {A : Type 0} (b : Bool) (d : PayloadFault) (r : Result A PayloadFault) (y : A) → cond b r (Err d) ≡ Ok y → (b ≡ true) × (r ≡ Ok y)
taken_then true d r y e = (refl, e)
taken_then false d r y e = absurd cc

sound_as : (caps : ℕ) (a b : Referent) → a ≡ b → IsSound caps a → IsSound caps b
sound_as caps a b e h = subst (IsSound caps) e h

single_sound : (caps s i : ℕ) (p : Pointer) (r : Referent) → ToNarrow p → single_pad s i p ≡ Ok r → IsSound caps r
single_sound caps s i (pointer.Content offset sh) r h e = sound_as caps (referent.Content (record { segment = s; start = target i offset; shape = sh })) r (ok_is _ r e) h
single_sound caps s i pointer.Null r h e = absurd cc
single_sound caps s i (pointer.Far is_double offset segment) r h e = absurd cc
single_sound caps s i (pointer.Other mid index) r h e = absurd cc

tag_sound : (m : List (List ℕ)) (caps s i : ℕ) (p : Pointer) (r : Referent) → ToNarrow p → pad_tag m s i p ≡ Ok r → IsSound caps r
tag_sound m caps s i (pointer.Content offset sh) r h e =
    let c : Referent = referent.Content (record { segment = s; start = Some i; shape = sh }) in
    let a = taken_then _ _ _ r e in
    let b = taken_then _ _ (Ok c) r a.1 in
    sound_as caps c r (ok_is c r b.1) h
tag_sound m caps s i pointer.Null r h e = absurd cc
tag_sound m caps s i (pointer.Far is_double offset segment) r h e = absurd cc
tag_sound m caps s i (pointer.Other mid index) r h e = absurd cc

double_sound : (m : List (List ℕ)) (caps : ℕ) (p t : Pointer) (r : Referent) → ToNarrow t → double_pad m p t ≡ Ok r → IsSound caps r
double_sound m caps (pointer.Far false offset segment) t r h e = tag_sound m caps segment offset t r h e
double_sound m caps (pointer.Far true offset segment) t r h e = absurd cc
double_sound m caps (pointer.Content offset sh) t r h e = absurd cc
double_sound m caps pointer.Null t r h e = absurd cc
double_sound m caps (pointer.Other mid index) t r h e = absurd cc

pad_sound : (m : List (List ℕ)) (caps : ℕ) → HaveBits m → (b : Bool) (s i : ℕ) (r : Referent) → pad_at m b s i ≡ Ok r → IsSound caps r
pad_sound m caps bits false s i r e = single_sound caps s i (decoded (word_at m s i)) r (decoded_narrow (word_at m s i) (bits s i)) e
pad_sound m caps bits true s i r e = double_sound m caps (decoded (word_at m s i)) (decoded (word_at m s (i + 1))) r (decoded_narrow (word_at m s (i + 1)) (bits s (i + 1))) e

far_sound : (m : List (List ℕ)) (caps : ℕ) → HaveBits m → (b : Bool) (s : ℕ) (size : Option ℕ) (i v : ℕ) (r : Referent) (w : ℕ) → far m b s size i v ≡ Ok (r, w) → IsSound caps r
unfolding far
far_sound m caps bits b s None i v r w e = absurd cc
far_sound m caps bits b s (Some size) i v r w e =
    let p = passed (ltb size (i + pad_words b)) OutOfBounds (visit v (pad_words b) >>= λ next. pad_at m b s i >>= λ content. Ok (content, next)) (r, w) e in
    let a = bind_ok (visit v (pad_words b)) (λ next. pad_at m b s i >>= λ content. Ok (content, next)) (r, w) p.1 in
    let c = bind_ok (pad_at m b s i) (λ content. Ok (content, a.0)) (r, w) a.2 in
    sound_as caps c.0 r (first_is c.0 r a.0 w c.2) (pad_sound m caps bits b s i c.0 c.1)

capability_sound : (caps mid index : ℕ) (r : Referent) → capability caps mid index ≡ Ok r → IsSound caps r
capability_sound caps mid index r e =
    let a = taken_then _ BadOther _ r e in
    let b = taken_then _ CapIndex (Ok (referent.Capability index)) r a.1 in
    sound_as caps (referent.Capability index) r (ok_is (referent.Capability index) r b.1) (ltb-true index caps b.0)

leads_sound : (m : List (List ℕ)) (caps : ℕ) → HaveBits m → (s i v : ℕ) (p : Pointer) (r : Referent) (w : ℕ) → ToNarrow p → leads m caps s i p v ≡ Ok (r, w) → IsSound caps r
unfolding leads
leads_sound m caps bits s i v pointer.Null r w h e = sound_as caps referent.Null r (first_is referent.Null r v w e) tt
leads_sound m caps bits s i v (pointer.Content offset sh) r w h e = sound_as caps (referent.Content (record { segment = s; start = target i offset; shape = sh })) r (first_is _ r v w e) h
leads_sound m caps bits s i v (pointer.Far is_double offset segment) r w h e = far_sound m caps bits is_double segment (size_of m segment) offset v r w e
leads_sound m caps bits s i v (pointer.Other mid index) r w h e =
    let a = bind_ok (capability caps mid index) (λ found. Ok (found, v)) (r, w) e in
    sound_as caps a.0 r (first_is a.0 r v w a.2) (capability_sound caps mid index a.0 a.1)

-- ---- where it lies

abbrev IsPlaced : ℕ → Layout → Type 0
IsPlaced size (layout.Struct start d p) = start + d ≤ size
IsPlaced size (layout.Packed start w n) = n < 2 ^ 29
IsPlaced size (layout.Pointers start n) = ⊤
IsPlaced size (layout.Structs start n d p words) = (n * (d + p) ≤ words) × (start + words ≤ size)

placed_as : (size : ℕ) (a b : Layout) → a ≡ b → IsPlaced size a → IsPlaced size b
placed_as size a b e h = subst (IsPlaced size) e h

tagged_placed : (size i words : ℕ) (o : Option Tag) (place : Layout) → i + (words + 1) ≤ size → tagged i words o ≡ Ok place → IsPlaced size place
tagged_placed size i words None place le e = absurd cc
tagged_placed size i words (Some tag) place le e =
    let p = passed (ltb words (tag.count * (tag.data_words + tag.pointer_words))) BadTag (Ok (layout.Structs (i + 1) tag.count tag.data_words tag.pointer_words words)) place e in
    placed_as size (layout.Structs (i + 1) tag.count tag.data_words tag.pointer_words words) place (ok_is _ place p.1) (ltb-false _ _ p.0, omega arith)

shaped_placed : (m : List (List ℕ)) (s i : ℕ) (sh : Shape) (place : Layout) → IsNarrow sh → i + words_of sh ≤ length (segment_of m s) → shaped m s i sh ≡ Ok place → IsPlaced (length (segment_of m s)) place
shaped_placed m s i (shape.Struct d p) place h le e = placed_as _ (layout.Struct i d p) place (ok_is _ place e) (omega arith)
shaped_placed m s i (shape.Packed w n) place h le e = placed_as _ (layout.Packed i w n) place (ok_is _ place e) h
shaped_placed m s i (shape.Pointers n) place h le e = placed_as _ (layout.Pointers i n) place (ok_is _ place e) tt
shaped_placed m s i (shape.Composite words) place h le e = tagged_placed (length (segment_of m s)) i words (tag_of (word_at m s i)) place le e

start_inside : (o : Option ℕ) (words size start : ℕ) → placed o words size ≡ Ok start → start + words ≤ size
start_inside None words size start e = absurd cc
start_inside (Some i) words size start e =
    let p = passed (ltb size (i + words)) OutOfBounds (Ok i) start e in
    let le = ltb-false size (i + words) p.0 in
    let same = ok_is i start p.1 in
    omega (arith, le, same)

laid_placed : (m : List (List ℕ)) (c : Content) (place : Layout) → IsNarrow c.shape → laid m c ≡ Ok place → IsPlaced (length (segment_of m c.segment)) place
unfolding laid
laid_placed m c place h e =
    let a = bind_ok (placed c.start (words_of c.shape) (length (segment_of m c.segment))) (λ start. shaped m c.segment start c.shape) place e in
    shaped_placed m c.segment a.0 c.shape place h (start_inside c.start (words_of c.shape) (length (segment_of m c.segment)) a.0 a.1) a.2

-- ---- parts that can be written, but that a section may be too long

pub record IsFine (caps : ℕ) (p : Part) : Type 0 where
  pub even : is_uneven p.what ≡ false
  pub shallow : is_too_deep p ≡ false
  pub there : is_beyond caps p.what ≡ false
  pub narrow : words_visited p.what ≤ 65535 → is_too_wide p.what ≡ false

abbrev pub AreFine : ℕ → List Part → Type 0
AreFine caps [] = ⊤
AreFine caps (p ∷ ps) = IsFine caps p × AreFine caps ps

-- these parts were read, from v visited words to w
pub record Counts (caps : ℕ) (ps : List Part) (v w : ℕ) : Type 0 where
  pub fine : AreFine caps ps
  pub words : v + all_words words_visited ps ≤ w

both_fine : (caps : ℕ) (ps qs : List Part) → AreFine caps ps → AreFine caps qs → AreFine caps (ps ++ qs)
both_fine caps [] qs a b = b
both_fine caps (p ∷ ps) qs a b = (a.0, both_fine caps ps qs a.1 b)

counts_none : (caps v : ℕ) → Counts caps [] v v
counts_none caps v = record { fine = tt; words = omega arith }

counts_both : (caps : ℕ) (ps qs : List Part) (u v w : ℕ) → Counts caps ps u v → Counts caps qs v w → Counts caps (ps ++ qs) u w
counts_both caps ps qs u v w a b =
    let sum = words_append words_visited ps qs in
    let first = a.words in
    let rest = b.words in
    record { fine = both_fine caps ps qs a.fine b.fine; words = omega (arith, sum, first, rest) }

-- a part, and those in it
counts_more : (caps : ℕ) (p : Part) (ps : List Part) (u v w : ℕ) → u + words_visited p.what ≤ v → IsFine caps p → Counts caps ps v w → Counts caps (p ∷ ps) u w
counts_more caps p ps u v w le fine a = let rest = a.words in record { fine = (fine, a.fine); words = omega (arith, rest) }

counts_after : (caps : ℕ) (ps : List Part) (u v w : ℕ) → v ≡ w → Counts caps ps u v → Counts caps ps u w
counts_after caps ps u v w e a = subst (λ n. Counts caps ps u n) e a

counts_before : (caps : ℕ) (ps : List Part) (u v w : ℕ) → u ≤ v → Counts caps ps v w → Counts caps ps u w
counts_before caps ps u v w le a = let rest = a.words in record { fine = a.fine; words = omega (arith, rest) }

-- each tree that is read, where so many levels are left
abbrev pub ReadsFine : (ℕ → ℕ → ℕ → Reading Tree) → ℕ → ℕ → Type 0
ReadsFine read caps k = (s i v : ℕ) (t : Tree) (w : ℕ) → read s i v ≡ Ok (t, w) → Counts caps (parts t k) v w

module _ (read : ℕ → ℕ → ℕ → Reading Tree) (caps k : ℕ) (h : ReadsFine read caps k) where
  pointers_fine : (s i n v : ℕ) (ts : Trees) (w : ℕ) → pointers_at read s i n v ≡ Ok (ts, w) → Counts caps (parts_of_all ts k) v w × (trees_count ts ≡ n)
  unfolding pointers_at
  pointers_fine s i zero v ts w e =
      let same = first_is tree.no_trees ts v w e in
      (subst (λ us. Counts caps (parts_of_all us k) v w) same (counts_after caps [] v v w (after_is tree.no_trees ts v w e) (counts_none caps v)), ap trees_count (sym same))
  pointers_fine s i (suc n) v ts w e =
      let a = bind_ok (read s i v) (λ first. pointers_at read s (i + 1) n first.1 >>= λ rest. Ok (tree.tree first.0 rest.0, rest.1)) (ts, w) e in
      let b = bind_ok (pointers_at read s (i + 1) n a.0.1) (λ rest. Ok (tree.tree a.0.0 rest.0, rest.1)) (ts, w) a.2 in
      let rest = pointers_fine s (i + 1) n a.0.1 b.0.0 b.0.1 b.1 in
      let same = first_is (tree.tree a.0.0 b.0.0) ts b.0.1 w b.2 in
      let ends = after_is (tree.tree a.0.0 b.0.0) ts b.0.1 w b.2 in (
        subst (λ us. Counts caps (parts_of_all us k) v w) same
            (counts_both caps (parts a.0.0 k) (parts_of_all b.0.0 k) v a.0.1 w (h s i v a.0.0 a.0.1 a.1) (counts_after caps (parts_of_all b.0.0 k) a.0.1 b.0.1 w ends rest.0)),
        ap trees_count (sym same) ∙ ap suc rest.1,
      )

  structs_fine : (m : List (List ℕ)) (s d p i n v : ℕ) (ss : Structs) (w : ℕ) → i + n * (d + p) ≤ length (segment_of m s) → structs_at m read s d p i n v ≡ Ok (ss, w)
      → Counts caps (parts_of_structs ss k) v w × (structs_count ss ≡ n) × (are_even d p ss ≡ true)
  unfolding structs_at
  structs_fine m s d p i zero v ss w le e =
      let same = first_is tree.no_structs ss v w e in
      (subst (λ us. Counts caps (parts_of_structs us k) v w) same (counts_after caps [] v v w (after_is tree.no_structs ss v w e) (counts_none caps v)), ap structs_count (sym same), ap (are_even d p) (sym same))
  structs_fine m s d p i (suc n) v ss w le e =
      let ws = take d (drop i (segment_of m s)) in
      let a = bind_ok (pointers_at read s (i + d) p v) (λ first. structs_at m read s d p (i + (d + p)) n first.1 >>= λ rest. Ok (tree.struct_of ws first.0 rest.0, rest.1)) (ss, w) e in
      let b = bind_ok (structs_at m read s d p (i + (d + p)) n a.0.1) (λ rest. Ok (tree.struct_of ws a.0.0 rest.0, rest.1)) (ss, w) a.2 in
      let first = pointers_fine s (i + d) p v a.0.0 a.0.1 a.1 in
      let more : suc n * (d + p) ≡ (d + p) + n * (d + p) = omega arith in
      let rest = structs_fine m s d p (i + (d + p)) n a.0.1 b.0.0 b.0.1 (omega (arith, more)) b.1 in
      let same = first_is (tree.struct_of ws a.0.0 b.0.0) ss b.0.1 w b.2 in
      let ends = after_is (tree.struct_of ws a.0.0 b.0.0) ss b.0.1 w b.2 in
      let left = length-drop i (segment_of m s) in
      let long : length ws ≡ d = length-take-le d (drop i (segment_of m s)) (omega (arith, left, more)) in
      let is_d : eqb (length ws) d ≡ true = eq-eqb _ _ long in
      let is_p : eqb (trees_count a.0.0) p ≡ true = eq-eqb _ _ first.1 in
      let even : are_even d p (tree.struct_of ws a.0.0 b.0.0) ≡ true = rw (is_d, is_p, rest.2) refl in (
        subst (λ us. Counts caps (parts_of_structs us k) v w) same
            (counts_both caps (parts_of_all a.0.0 k) (parts_of_structs b.0.0 k) v a.0.1 w first.0 (counts_after caps (parts_of_structs b.0.0 k) a.0.1 b.0.1 w ends rest.0)),
        ap structs_count (sym same) ∙ ap suc rest.1,
        ap (are_even d p) (sym same) ∙ even,
      )

there_is : (b : Bool) (k : ℕ) → 0 < k → (true && eqb k 0) ≡ false
there_is b k some = ne_eqb k 0 (λ none. omega arith)

neither : (a b : Bool) → a ≡ false → b ≡ false → (a || b) ≡ false
neither a b h i = rw (h, i) refl

few_void : (bits n : ℕ) → n < 2 ^ 29 → (eqb bits 0 && ltb 536870911 n) ≡ false
few_void bits n lt =
    let few : ltb 536870911 n ≡ false = le-ltb _ _ (omega arith) in
    rw few (no_more (eqb bits 0))
  where
    no_more : (b : Bool) → (b && false) ≡ false
    no_more true = refl
    no_more false = refl

extra_same : (d p n k : ℕ) → n ≡ k → n * (d + p) + 1 + cond (eqb (d + p) 0) n 0 ≡ k * (d + p) + 1 + cond (eqb (d + p) 0) k 0
extra_same d p n k e = ap (λ x. x * (d + p) + 1 + cond (eqb (d + p) 0) x 0) e

content_fine : (m : List (List ℕ)) (read : ℕ → ℕ → ℕ → Reading Tree) (caps k : ℕ) → 0 < k → ReadsFine read caps (k - 1) → (s : ℕ) (place : Layout) (u v : ℕ) (t : Tree) (w : ℕ)
    → IsPlaced (length (segment_of m s)) place → u + weight place ≡ v → content_of m read s place v ≡ Ok (t, w) → Counts caps (parts t k) u w
unfolding content_of
content_fine m read caps k some h s (layout.Struct start d p) u v t w here is_v e =
    let ws = take d (drop start (segment_of m s)) in
    let a = bind_ok (pointers_at read s (start + d) p v) (λ found. Ok (tree.struct ws found.0, found.1)) (t, w) e in
    let inner = pointers_fine read caps (k - 1) h s (start + d) p v a.0.0 a.0.1 a.1 in
    let left = length-drop start (segment_of m s) in
    let long : length ws ≡ d = length-take-le d (drop start (segment_of m s)) (omega (arith, left)) in
    let count = inner.1 in
    let what : Tree = tree.struct ws a.0.0 in
    subst (λ us. Counts caps (parts us k) u w) (first_is what t a.0.1 w a.2)
    (counts_more caps (record { levels = k; what = what }) (parts_of_all a.0.0 (k - 1)) u v w (omega (arith, long, count))
    (record {
      even = refl;
      shallow = there_is true k some;
      there = refl;
      narrow = λ few. neither (ltb 65535 (length ws)) (ltb 65535 (trees_count a.0.0)) (le-ltb _ _ (omega arith)) (le-ltb _ _ (omega arith));
    })
    (counts_after caps (parts_of_all a.0.0 (k - 1)) v a.0.1 w (after_is what t a.0.1 w a.2) inner.0))
content_fine m read caps k some h s (layout.Packed start wide count) u v t w here is_v e =
    let xs = elements (drop start (segment_of m s)) (bits_of wide) 0 count in
    let what : Tree = tree.list (tree.packed (bits_of wide) xs) in
    let long : length xs ≡ count = elements_counted (drop start (segment_of m s)) (bits_of wide) 0 count in
    let size : packed_size (bits_of wide) (length xs) ≡ packed_size (bits_of wide) count = ap (packed_size (bits_of wide)) long in
    subst (λ us. Counts caps (parts us k) u w) (first_is what t v w e)
    (counts_more caps (record { levels = k; what = what }) [] u v w (omega (arith, size))
    (record {
      even = refl;
      shallow = there_is true k some;
      there = refl;
      narrow = λ few. few_void (bits_of wide) (length xs) (omega (arith, long));
    })
    (counts_after caps [] v v w (after_is what t v w e) (counts_none caps v)))
content_fine m read caps k some h s (layout.Pointers start count) u v t w here is_v e =
    let a = bind_ok (pointers_at read s start count v) (λ found. Ok (tree.list (tree.pointers found.0), found.1)) (t, w) e in
    let inner = pointers_fine read caps (k - 1) h s start count v a.0.0 a.0.1 a.1 in
    let long = inner.1 in
    let what : Tree = tree.list (tree.pointers a.0.0) in
    subst (λ us. Counts caps (parts us k) u w) (first_is what t a.0.1 w a.2)
    (counts_more caps (record { levels = k; what = what }) (parts_of_all a.0.0 (k - 1)) u v w (omega (arith, long))
    (record { even = refl; shallow = there_is true k some; there = refl; narrow = λ few. refl })
    (counts_after caps (parts_of_all a.0.0 (k - 1)) v a.0.1 w (after_is what t a.0.1 w a.2) inner.0))
content_fine m read caps k some h s (layout.Structs start count d p words) u v t w here is_v e =
    let a = bind_ok (structs_at m read s d p start count v) (λ found. Ok (tree.list (tree.structs d p found.0), found.1)) (t, w) e in
    let fits = here.0 in
    let ends = here.1 in
    let inner = structs_fine read caps (k - 1) h m s d p start count v a.0.0 a.0.1 (omega (arith, fits, ends)) a.1 in
    let same = extra_same d p (structs_count a.0.0) count inner.1 in
    let what : Tree = tree.list (tree.structs d p a.0.0) in
    subst (λ us. Counts caps (parts us k) u w) (first_is what t a.0.1 w a.2)
    (counts_more caps (record { levels = k; what = what }) (parts_of_structs a.0.0 (k - 1)) u v w (omega (arith, same, fits))
    (record { even = ap not inner.2; shallow = there_is true k some; there = refl; narrow = λ few. refl })
    (counts_after caps (parts_of_structs a.0.0 (k - 1)) v a.0.1 w (after_is what t a.0.1 w a.2) inner.0))

capability_fine : (caps k v index : ℕ) (t : Tree) (w : ℕ) → index < caps → read_as (tree.capability index) v ≡ Ok (t, w) → Counts caps (parts t k) v w
capability_fine caps k v index t w h e =
    let inside : ltb index caps ≡ true = lt-ltb _ _ h in
    subst (λ us. Counts caps (parts us k) v w) (first_is (tree.capability index) t v w e)
    (counts_more caps (record { levels = k; what = tree.capability index }) [] v v w (omega arith)
    (record { even = refl; shallow = refl; there = ap not inside; narrow = λ few. refl })
    (counts_after caps [] v v w (after_is (tree.capability index) t v w e) (counts_none caps v)))

flat_fine : (caps k v : ℕ) (r : Referent) (t : Tree) (w : ℕ) → IsSound caps r → shallow r v ≡ Ok (t, w) → Counts caps (parts t k) v w
unfolding shallow
flat_fine caps k v referent.Null t w h e = subst (λ us. Counts caps (parts us k) v w) (first_is tree.null t v w e) (counts_after caps [] v v w (after_is tree.null t v w e) (counts_none caps v))
flat_fine caps k v (referent.Capability index) t w h e = capability_fine caps k v index t w h e
flat_fine caps k v (referent.Content c) t w h e = absurd cc

deep_fine : (m : List (List ℕ)) (read : ℕ → ℕ → ℕ → Reading Tree) (caps k : ℕ) → 0 < k → ReadsFine read caps (k - 1) → (r : Referent) (v : ℕ) (t : Tree) (w : ℕ) → IsSound caps r → deep m read r v ≡ Ok (t, w) → Counts caps (parts t k) v w
unfolding deep
deep_fine m read caps k some h referent.Null v t w sound e = subst (λ us. Counts caps (parts us k) v w) (first_is tree.null t v w e) (counts_after caps [] v v w (after_is tree.null t v w e) (counts_none caps v))
deep_fine m read caps k some h (referent.Capability index) v t w sound e = capability_fine caps k v index t w sound e
deep_fine m read caps k some h (referent.Content c) v t w sound e =
    let a = bind_ok (laid m c) (λ place. visit v (weight place) >>= λ next. content_of m read c.segment place next) (t, w) e in
    let b = bind_ok (visit v (weight a.0)) (λ next. content_of m read c.segment a.0 next) (t, w) a.2 in
    content_fine m read caps k some h c.segment a.0 v b.0 t w (laid_placed m c a.0 sound a.1) (visited v (weight a.0) b.0 b.1).0 b.2

module _ (m : List (List ℕ)) (caps : ℕ) (bits : HaveBits m) where
  followed_sound : (s i v : ℕ) (r : Referent) (w : ℕ) → followed m caps s i v ≡ Ok (r, w) → IsSound caps r
  followed_sound s i v r w e = leads_sound m caps bits s i v (decoded (word_at m s i)) r w (decoded_narrow (word_at m s i) (bits s i)) e

  leads_more : (s i v : ℕ) (r : Referent) (w : ℕ) → followed m caps s i v ≡ Ok (r, w) → v ≤ w
  leads_more s i v r w e = (leads_grow m caps s i v (decoded (word_at m s i)) r w e).more

  -- what is read, with as many levels as there were
  pub reading_fine : (levels : ℕ) → ReadsFine (reading m caps levels) caps levels
  unfolding reading
  reading_fine zero s i v t w e =
      let a = bind_ok (followed m caps s i v) (λ found. shallow found.0 found.1) (t, w) e in
      counts_before caps (parts t 0) v a.0.1 w (leads_more s i v a.0.0 a.0.1 a.1) (flat_fine caps 0 a.0.1 a.0.0 t w (followed_sound s i v a.0.0 a.0.1 a.1) a.2)
  reading_fine (suc levels) s i v t w e =
      let one_less : levels ≡ suc levels - 1 = omega arith in
      let a = bind_ok (followed m caps s i v) (λ found. deep m (reading m caps levels) found.0 found.1) (t, w) e in
      counts_before caps (parts t (suc levels)) v a.0.1 w (leads_more s i v a.0.0 a.0.1 a.1)
      (deep_fine m (reading m caps levels) caps (suc levels) (omega arith) (subst (ReadsFine (reading m caps levels) caps) one_less (reading_fine levels)) a.0.0 a.0.1 t w (followed_sound s i v a.0.0 a.0.1 a.1) a.2)
