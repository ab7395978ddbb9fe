-- What was laid down for a tree is read as that tree, in any segment that has its words in their place.
use Rattle.std.proofs.Common.{◌≡◌, ℕ, zero, suc, ◌+◌, ◌-◌, ◌*◌, ◌/◌, ◌^◌, ◌<◌, ◌≤◌, Bool, true, false, cond, eqb, ltb, ◌&&◌, List, [], ◌∷◌, ◌++◌, length, take, drop, get_or, Option, Some, Ok, refl, sym, ap, subst, ◌∙◌, append_assoc, arith}
use Rattle.std.specs.Prelude.{⊤}
use Rattle.std.proofs.lemmas.List.{length-append, get_or_at, drop_at, take_at, take-append-drop, length-take-le}
use Rattle.std.proofs.lemmas.Bool.{eqb-true, eqb-false, ltb-false, le-ltb, and_parts, or_parts, not-false}
use Rattle.capn_trees.specs.declared.width.Width.{Width}
use Rattle.capn_trees.specs.declared.width.Width.TheVariants as width
use Rattle.capn_reading.specs.declared.pointer.Shape.{Shape}
use Rattle.capn_reading.specs.declared.pointer.Shape.TheVariants as shape
use Rattle.capn_reading.specs.declared.pointer.Pointer.{Pointer}
use Rattle.capn_reading.specs.declared.pointer.Pointer.TheVariants as pointer
use Rattle.capn_reading.specs.declared.referent.Referent.{Referent}
use Rattle.capn_reading.specs.declared.referent.Referent.TheVariants as referent
use Rattle.capn_reading.specs.declared.layout.Layout.{Layout}
use Rattle.capn_reading.specs.declared.layout.Layout.TheVariants as layout
use Rattle.capn_trees.specs.Widths.{AreOf, bits_of, packed_size}
use Rattle.capn_reading.specs.Pointers.{decoded, tag_of}
use Rattle.capn_reading.specs.Following.{◌>>=◌, most_counted, visit, target, leads, followed}
use Rattle.capn_reading.specs.Layouts.{laid, weight, tagged}
use Rattle.capn_trees.specs.Trees as tree
use Rattle.capn_trees.specs.Trees.{Tree, Trees, Elements, Structs, trees_count, structs_count}
use Rattle.capn_reading.specs.Reading.{Reading, elements, pointers_at, structs_at, content_of, reading}
use Rattle.capn_writing.specs.Placing.{packed_words, size_number, struct_word, list_word, struct_pointer, offset_of, placed, placed_all, placed_list, placed_structs}
use Rattle.capn_writing.specs.Fitting.{Fits, FitsAll, FitsList, FitsStructs}
use Rattle.capn_trees.specs.Writable.{Part, parts, parts_of_all, parts_of_list, parts_of_structs, are_even, is_content, is_too_deep, is_too_wide, words_visited, all_words}
use Rattle.capn_reading.proofs.Rooted.{read_as}
use Rattle.capn_reading.proofs.Joining.{reading_null, reading_capability, deep_content, struct_is, packed_is, pointers_is, structs_is}
use Rattle.capn_wire.proofs.Packed.{elements_again}
use Rattle.capn_wire.proofs.Words.{decoded_struct, tag_again, decoded_packed, decoded_pointers, decoded_structs, decoded_capability, target_ahead, target_here}
use Rattle.capn_trees.proofs.Parts.{AreGood, IsGood, words_append, even_parts}
use Rattle.capn_writing.proofs.Lengths.{length-packed, length-placed_all, length-placed_structs}

-- the segment has these words from word i on
pub record Has (seg : List ℕ) (i : ℕ) (ws : List ℕ) : Type 0 where
  pub front : List ℕ
  pub back : List ℕ
  pub whole : seg ≡ front ++ (ws ++ back)
  pub place : length front ≡ i

has_left : (seg : List ℕ) (i : ℕ) (xs ys : List ℕ) → Has seg i (xs ++ ys) → Has seg i xs
has_left seg i xs ys h = record {
  front = h.front;
  back = ys ++ h.back;
  whole = h.whole ∙ ap (λ (l : List ℕ). h.front ++ l) (append_assoc xs ys h.back);
  place = h.place;
}

has_right : (seg : List ℕ) (i : ℕ) (xs ys : List ℕ) → Has seg i (xs ++ ys) → (j : ℕ) → j ≡ i + length xs → Has seg j ys
has_right seg i xs ys h j e = record {
  front = h.front ++ xs;
  back = h.back;
  whole = h.whole ∙ ap (λ (l : List ℕ). h.front ++ l) (append_assoc xs ys h.back) ∙ sym (append_assoc h.front xs (ys ++ h.back));
  place = length-append h.front xs ∙ (let p = h.place in omega (arith, p, e));
}

has_tail : (seg : List ℕ) (i w : ℕ) (ws : List ℕ) → Has seg i (w ∷ ws) → Has seg (i + 1) ws
has_tail seg i w ws h = has_right seg i (w ∷ []) ws h (i + 1) refl

has_inside : (seg : List ℕ) (i : ℕ) (ws : List ℕ) → Has seg i ws → i + length ws ≤ length seg
has_inside seg i ws h =
    let a = length-append h.front (ws ++ h.back) in
    let b = length-append ws h.back in
    let c = ap length h.whole in
    let d = h.place in
    omega (arith, a, b, c, d)

has_word : (seg : List ℕ) (i w : ℕ) (ws : List ℕ) → Has seg i (w ∷ ws) → get_or seg i 0 ≡ w
has_word seg i w ws h = ap (λ (l : List ℕ). get_or l i 0) h.whole ∙ get_or_at h.front w (ws ++ h.back) 0 i h.place

has_drop : (seg : List ℕ) (i : ℕ) (ws : List ℕ) (h : Has seg i ws) → drop i seg ≡ ws ++ h.back
has_drop seg i ws h = ap (drop i) h.whole ∙ drop_at h.front (ws ++ h.back) i h.place

has_words : (seg : List ℕ) (i : ℕ) (ws : List ℕ) → Has seg i ws → take (length ws) (drop i seg) ≡ ws
has_words seg i ws h = ap (take (length ws)) (has_drop seg i ws h) ∙ take_at ws h.back (length ws) refl

good_left : (caps : ℕ) (ps qs : List Part) → AreGood caps (ps ++ qs) → AreGood caps ps
good_left caps [] qs g = tt
good_left caps (p ∷ ps) qs g = (g.0, good_left caps ps qs g.1)

good_right : (caps : ℕ) (ps qs : List Part) → AreGood caps (ps ++ qs) → AreGood caps qs
good_right caps [] qs g = g
good_right caps (p ∷ ps) qs g = good_right caps ps qs g.1

abbrev content_at : ℕ → Shape → Referent
content_at start s = referent.Content (record { segment = 0; start = Some start; shape = s })

module _ (seg : List ℕ) (caps : ℕ) (few : length seg ≤ 65536) where
  abbrev m : List (List ℕ)
  m = seg ∷ []

  -- what a pointer word leads to
  content_follows : (at w offset start v : ℕ) (s : Shape) → get_or seg at 0 ≡ w → decoded w ≡ pointer.Content offset s → target at offset ≡ Some start
      → followed m caps 0 at v ≡ Ok (content_at start s, v)
  unfolding leads
  content_follows at w offset start v s is_w is_content is_start =
      ap (λ (x : ℕ). leads m caps 0 at (decoded x) v) is_w
      ∙ ap (λ (p : Pointer). leads m caps 0 at p v) is_content
      ∙ ap (λ (o : Option ℕ). read_as (referent.Content (record { segment = 0; start = o; shape = s })) v) is_start

  null_follows : (at v : ℕ) → get_or seg at 0 ≡ 0 → followed m caps 0 at v ≡ Ok (referent.Null, v)
  unfolding leads
  null_follows at v is_w = ap (λ (x : ℕ). leads m caps 0 at (decoded x) v) is_w

  capability_follows : (at w index v : ℕ) → get_or seg at 0 ≡ w → decoded w ≡ pointer.Other 0 index → ltb index caps ≡ true → followed m caps 0 at v ≡ Ok (referent.Capability index, v)
  unfolding leads
  capability_follows at w index v is_w is_other below =
      ap (λ (x : ℕ). leads m caps 0 at (decoded x) v) is_w
      ∙ ap (λ (p : Pointer). leads m caps 0 at p v) is_other
      ∙ rw below refl

  visited_more : (v more : ℕ) → v + more ≤ 4194304 → visit v more ≡ Ok (v + more)
  visited_more v more le = let ok : ltb most_counted (v + more) ≡ false = le-ltb _ _ le in rw ok refl

  -- the content of a pointer, where all checks pass
  content_reads : (levels at start v final : ℕ) (s : Shape) (place : Layout) (t : Tree) → levels ≡ suc (levels - 1) → followed m caps 0 at v ≡ Ok (content_at start s, v)
      → laid m (record { segment = 0; start = Some start; shape = s }) ≡ Ok place → v + weight place ≤ 4194304
      → content_of m (reading m caps (levels - 1)) 0 place (v + weight place) ≡ Ok (t, final) → reading m caps levels 0 at v ≡ Ok (t, final)
  content_reads levels at start v final s place t more found is_laid le content =
      sym (deep_content m caps (levels - 1) levels 0 at v (record { segment = 0; start = Some start; shape = s }) v (sym found) more place (v + weight place) (sym is_laid) (sym (visited_more v (weight place) le))) ∙ content

  laid_struct : (start d p : ℕ) → start + (d + p) ≤ length seg → laid m (record { segment = 0; start = Some start; shape = shape.Struct d p }) ≡ Ok (layout.Struct start d p)
  unfolding laid
  laid_struct start d p le = let ok : ltb (length seg) (start + (d + p)) ≡ false = le-ltb _ _ le in rw ok refl

  laid_packed : (w : Width) (start count : ℕ) → start + packed_size (bits_of w) count ≤ length seg → laid m (record { segment = 0; start = Some start; shape = shape.Packed w count }) ≡ Ok (layout.Packed start w count)
  unfolding laid
  laid_packed w start count le = let ok : ltb (length seg) (start + packed_size (bits_of w) count) ≡ false = le-ltb _ _ le in rw ok refl

  laid_pointers : (start count : ℕ) → start + count ≤ length seg → laid m (record { segment = 0; start = Some start; shape = shape.Pointers count }) ≡ Ok (layout.Pointers start count)
  unfolding laid
  laid_pointers start count le = let ok : ltb (length seg) (start + count) ≡ false = le-ltb _ _ le in rw ok refl

  laid_structs : (start n d p : ℕ) → start + (n * (d + p) + 1) ≤ length seg → tag_of (get_or seg start 0) ≡ Some (record { count = n; data_words = d; pointer_words = p })
      → laid m (record { segment = 0; start = Some start; shape = shape.Composite (n * (d + p)) }) ≡ Ok (layout.Structs (start + 1) n d p (n * (d + p)))
  unfolding laid
  laid_structs start n d p le is_tag =
      let ok : ltb (length seg) (start + (n * (d + p) + 1)) ≡ false = le-ltb _ _ le in
      let enough : ltb (n * (d + p)) (n * (d + p)) ≡ false = le-ltb _ _ (omega arith) in
      rw ok (ap (tagged start (n * (d + p))) is_tag ∙ rw enough refl)

  struct_at : (levels at start v d p final : ℕ) (ds : List ℕ) (ts : Trees) → levels ≡ suc (levels - 1) → followed m caps 0 at v ≡ Ok (content_at start (shape.Struct d p), v)
      → start + (d + p) ≤ length seg → v + (d + p) ≤ 4194304 → take d (drop start seg) ≡ ds
      → pointers_at (reading m caps (levels - 1)) 0 (start + d) p (v + (d + p)) ≡ Ok (ts, final) → reading m caps levels 0 at v ≡ Ok (tree.struct ds ts, final)
  struct_at levels at start v d p final ds ts more found inside le is_ds read =
      content_reads levels at start v final (shape.Struct d p) (layout.Struct start d p) (tree.struct ds ts) more found (laid_struct start d p inside) le
      (struct_is m (reading m caps (levels - 1)) 0 (v + (d + p)) start d p ts final read
      ∙ ap (λ (x : List ℕ). read_as (tree.struct x ts) final) is_ds)

  abbrev more_of : List Part → ℕ
  more_of ps = all_words words_visited ps

  has_nothing : (i : ℕ) → i ≤ length seg → Has seg i []
  has_nothing i le = record { front = take i seg; back = drop i seg; whole = sym (take-append-drop i seg); place = length-take-le i seg le }

  levels_left : (t : Tree) (levels : ℕ) → is_content t ≡ true → (is_content t && eqb levels 0) ≡ false → levels ≡ suc (levels - 1)
  levels_left t levels content shallow =
      let e : eqb levels 0 ≡ false = sym (ap (λ (b : Bool). b && eqb levels 0) content) ∙ shallow in
      let some = eqb-false levels 0 e in
      go levels some
    where
      go : (n : ℕ) → (n ≡ 0 → ⊥) → n ≡ suc (n - 1)
      go zero h = absurd (h refl)
      go (suc n) h = omega arith

  same_read : {X : Type 0} (x : X) (r : Reading X) (a b : ℕ) → r ≡ Ok (x, a) → a ≡ b → r ≡ Ok (x, b)
  same_read x r a b e same = e ∙ ap (λ (n : ℕ). read_as x n) same

  struct_case : (levels at next v : ℕ) (ds : List ℕ) (ts : Trees) → is_too_deep (record { levels = levels; what = tree.struct ds ts }) ≡ false → is_too_wide (tree.struct ds ts) ≡ false
      → v + (length ds + trees_count ts) ≤ 4194304 → at < next → get_or seg at 0 ≡ struct_pointer at next (length ds) (trees_count ts) → Has seg next ds → next + (length ds + trees_count ts) ≤ length seg
      → (final : ℕ) → pointers_at (reading m caps (levels - 1)) 0 (next + length ds) (trees_count ts) (v + (length ds + trees_count ts)) ≡ Ok (ts, final)
      → reading m caps levels 0 at v ≡ Ok (tree.struct ds ts, final)
  unfolding pointers_at
  struct_case levels at next v ds ts shallow narrow le ahead is_w has inside final read =
      let more = levels_left (tree.struct ds ts) levels refl shallow in
      let n = or_parts (ltb 65535 (length ds)) (ltb 65535 (trees_count ts)) narrow in
      let nd = ltb-false 65535 (length ds) n.0 in
      let np = ltb-false 65535 (trees_count ts) n.1 in
      go (length ds) (trees_count ts) (eqb (length ds + trees_count ts) 0) refl more nd np is_w (has_words seg next ds has) le inside read
    where
      go : (d p : ℕ) (none : Bool) → eqb (d + p) 0 ≡ none → levels ≡ suc (levels - 1) → d ≤ 65535 → p ≤ 65535
          → get_or seg at 0 ≡ cond none (struct_word (2 ^ 30 - 1) 0 0) (struct_word (offset_of at next) d p)
          → take d (drop next seg) ≡ ds → v + (d + p) ≤ 4194304 → next + (d + p) ≤ length seg
          → pointers_at (reading m caps (levels - 1)) 0 (next + d) p (v + (d + p)) ≡ Ok (ts, final) → reading m caps levels 0 at v ≡ Ok (tree.struct ds ts, final)
      go d p false e more nd np is_w is_ds le inside read =
          let some = eqb-false (d + p) 0 e in
          let positive : 0 < offset_of at next + d + p = omega (arith, some) in
          struct_at levels at next v d p final ds ts more
          (content_follows at (struct_word (offset_of at next) d p) (offset_of at next) next v (shape.Struct d p) is_w (decoded_struct (offset_of at next) d p (omega arith) (omega arith) (omega arith) positive) (target_ahead at next ahead (omega arith)))
          inside le is_ds read
      go (suc d) p true e more nd np is_w is_ds le inside read = absurd (let z = eqb-true (suc d + p) 0 e in omega arith)
      go zero (suc p) true e more nd np is_w is_ds le inside read = absurd (let z = eqb-true (zero + suc p) 0 e in omega arith)
      go zero zero true e more nd np is_w is_ds le inside read =
          struct_at levels at at v 0 0 final ds ts more
          (content_follows at (struct_word (2 ^ 30 - 1) 0 0) (2 ^ 30 - 1) at v (shape.Struct 0 0) is_w (decoded_struct (2 ^ 30 - 1) 0 0 (omega arith) (omega arith) (omega arith) (omega arith)) (target_here at))
          (omega arith) le is_ds read

  abbrev Packed : ℕ → ℕ → ℕ → ℕ → ℕ → List ℕ → Type 0
  Packed levels at next v b xs =
      AreOf b xs → is_too_deep (record { levels = levels; what = tree.list (tree.packed b xs) }) ≡ false → is_too_wide (tree.list (tree.packed b xs)) ≡ false
      → v + packed_size b (length xs) ≤ 4194304 → at < next → get_or seg at 0 ≡ list_word (offset_of at next) (size_number b) (length xs) → Has seg next (packed_words b (packed_size b (length xs)) xs)
      → reading m caps levels 0 at v ≡ Ok (tree.list (tree.packed b xs), v + packed_size b (length xs))

  short_list : (w : Width) (xs : List ℕ) → is_too_wide (tree.list (tree.packed (bits_of w) xs)) ≡ false → packed_size (bits_of w) (length xs) ≤ 4194304 → length xs < 2 ^ 29
  short_list width.Void xs narrow le = let n = ltb-false 536870911 (length xs) narrow in omega arith
  short_list width.Bit xs narrow le = omega arith
  short_list width.Byte xs narrow le = omega arith
  short_list width.TwoBytes xs narrow le = omega arith
  short_list width.FourBytes xs narrow le = omega arith
  short_list width.EightBytes xs narrow le = omega arith

  packed_case : (w : Width) (levels at next v : ℕ) (xs : List ℕ) → Packed levels at next v (bits_of w) xs
  packed_case w levels at next v xs fit shallow narrow le ahead is_w has =
      let b = bits_of w in
      let n = packed_size b (length xs) in
      let more = levels_left (tree.list (tree.packed b xs)) levels refl shallow in
      let room = has_inside seg next (packed_words b n xs) has in
      let is_n = length-packed b n xs in
      let inside : next + packed_size (bits_of w) (length xs) ≤ length seg = omega (arith, room, is_n) in
      content_reads levels at next v (v + n) (shape.Packed w (length xs)) (layout.Packed next w (length xs)) (tree.list (tree.packed b xs)) more
      (content_follows at (list_word (offset_of at next) (size_number b) (length xs)) (offset_of at next) next v (shape.Packed w (length xs)) is_w
      (decoded_packed w (offset_of at next) (length xs) (omega arith) (short_list w xs narrow (omega arith))) (target_ahead at next ahead (omega arith)))
      (laid_packed w next (length xs) inside) le
      (packed_is m (reading m caps (levels - 1)) 0 (v + n) next w (length xs)
      ∙ ap (λ (l : List ℕ). read_as (tree.list (tree.packed b (elements l b 0 (length xs)))) (v + n)) (has_drop seg next (packed_words b n xs) has)
      ∙ ap (λ (l : List ℕ). read_as (tree.list (tree.packed b l)) (v + n)) (elements_again w xs has.back fit))

  pointers_none : (read : ℕ → ℕ → ℕ → Reading Tree) (at v : ℕ) → pointers_at read 0 at 0 v ≡ Ok (tree.no_trees, v)
  unfolding pointers_at
  pointers_none read at v = refl

  pointers_step : (read : ℕ → ℕ → ℕ → Reading Tree) (at n v : ℕ) (t : Tree) (ts : Trees) (next final : ℕ) → read 0 at v ≡ Ok (t, next) → pointers_at read 0 (at + 1) n next ≡ Ok (ts, final)
      → pointers_at read 0 at (suc n) v ≡ Ok (tree.tree t ts, final)
  unfolding pointers_at
  pointers_step read at n v t ts next final first rest =
      ap (λ (r : Reading Tree). r >>= λ x. pointers_at read 0 (at + 1) n x.1 >>= λ y. read_as (tree.tree x.0 y.0) y.1) first
      ∙ ap (λ (r : Reading Trees). r >>= λ y. read_as (tree.tree t y.0) y.1) rest

  structs_none : (read : ℕ → ℕ → ℕ → Reading Tree) (d p at v : ℕ) → structs_at m read 0 d p at 0 v ≡ Ok (tree.no_structs, v)
  unfolding structs_at
  structs_none read d p at v = refl

  structs_step : (read : ℕ → ℕ → ℕ → Reading Tree) (d p at n v : ℕ) (ws : List ℕ) (ts : Trees) (ss : Structs) (next final : ℕ) → take d (drop at seg) ≡ ws → pointers_at read 0 (at + d) p v ≡ Ok (ts, next)
      → structs_at m read 0 d p (at + (d + p)) n next ≡ Ok (ss, final) → structs_at m read 0 d p at (suc n) v ≡ Ok (tree.struct_of ws ts ss, final)
  unfolding structs_at
  structs_step read d p at n v ws ts ss next final is_ws first rest =
      ap (λ (r : Reading Trees). r >>= λ x. structs_at m read 0 d p (at + (d + p)) n x.1 >>= λ y. read_as (tree.struct_of (take d (drop at seg)) x.0 y.0) y.1) first
      ∙ ap (λ (r : Reading Structs). r >>= λ y. read_as (tree.struct_of (take d (drop at seg)) ts y.0) y.1) rest
      ∙ ap (λ (l : List ℕ). read_as (tree.struct_of l ts ss) final) is_ws

  pointers_case : (levels at next v count : ℕ) (ts : Trees) → is_too_deep (record { levels = levels; what = tree.list (tree.pointers ts) }) ≡ false → v + count ≤ 4194304 → at < next
      → get_or seg at 0 ≡ list_word (offset_of at next) 6 count → next + count ≤ length seg → (final : ℕ) → pointers_at (reading m caps (levels - 1)) 0 next count (v + count) ≡ Ok (ts, final)
      → reading m caps levels 0 at v ≡ Ok (tree.list (tree.pointers ts), final)
  pointers_case levels at next v count ts shallow le ahead is_w inside final read =
      let more = levels_left (tree.list (tree.pointers ts)) levels refl shallow in
      content_reads levels at next v final (shape.Pointers count) (layout.Pointers next count) (tree.list (tree.pointers ts)) more
      (content_follows at (list_word (offset_of at next) 6 count) (offset_of at next) next v (shape.Pointers count) is_w (decoded_pointers (offset_of at next) count (omega arith) (omega arith)) (target_ahead at next ahead (omega arith)))
      (laid_pointers next count inside) le
      (pointers_is m (reading m caps (levels - 1)) 0 (v + count) next count ts final read)

  structs_case : (levels at next v n d p : ℕ) (ss : Structs) → is_too_deep (record { levels = levels; what = tree.list (tree.structs d p ss) }) ≡ false → d < 2 ^ 16 → p < 2 ^ 16
      → v + (n * (d + p) + 1 + cond (eqb (d + p) 0) n 0) ≤ 4194304 → at < next
      → get_or seg at 0 ≡ list_word (offset_of at next) 7 (n * (d + p)) → get_or seg next 0 ≡ struct_word n d p → next + (n * (d + p) + 1) ≤ length seg
      → (final : ℕ) → structs_at m (reading m caps (levels - 1)) 0 d p (next + 1) n (v + (n * (d + p) + 1 + cond (eqb (d + p) 0) n 0)) ≡ Ok (ss, final)
      → reading m caps levels 0 at v ≡ Ok (tree.list (tree.structs d p ss), final)
  structs_case levels at next v n d p ss shallow fd fp le ahead is_w is_tag inside final read =
      let more = levels_left (tree.list (tree.structs d p ss)) levels refl shallow in
      let few_structs : n ≤ 4194304 = counted (d + p) le in
      content_reads levels at next v final (shape.Composite (n * (d + p))) (layout.Structs (next + 1) n d p (n * (d + p))) (tree.list (tree.structs d p ss)) more
      (content_follows at (list_word (offset_of at next) 7 (n * (d + p))) (offset_of at next) next v (shape.Composite (n * (d + p))) is_w (decoded_structs (offset_of at next) (n * (d + p)) (omega arith) (omega arith)) (target_ahead at next ahead (omega arith)))
      (laid_structs next n d p inside (ap tag_of is_tag ∙ tag_again n d p (omega arith) fd fp)) le
      (structs_is m (reading m caps (levels - 1)) 0 (v + (n * (d + p) + 1 + cond (eqb (d + p) 0) n 0)) (next + 1) n d p (n * (d + p)) ss final read)
    where
      counted : (k : ℕ) → v + (n * k + 1 + cond (eqb k 0) n 0) ≤ 4194304 → n ≤ 4194304
      counted zero h = omega arith
      counted (suc k) h = let split : n * suc k ≡ n * k + n = omega arith in omega (arith, split, h)

  mutual
    -- a pointer to a tree is read as that tree
    pub reads : (t : Tree) (levels at next v : ℕ) → Fits t → AreGood caps (parts t levels) → v + more_of (parts t levels) ≤ 4194304 → at < next
        → get_or seg at 0 ≡ (placed t at next).0 → Has seg next (placed t at next).1 → reading m caps levels 0 at v ≡ Ok (t, v + more_of (parts t levels))
    reads tree.null levels at next v fits good le ahead is_w has =
        same_read tree.null (reading m caps levels 0 at v) v (v + 0) (reading_null m caps levels 0 at v v (sym (null_follows at v is_w))) (omega arith)
    reads (tree.capability index) levels at next v fits good le ahead is_w has =
        let below = not-false (ltb index caps) good.0.1.0 in
        same_read (tree.capability index) (reading m caps levels 0 at v) v (v + (0 + 0)) (reading_capability m caps levels 0 at v index v (sym (capability_follows at (placed (tree.capability index) at next).0 index v is_w (decoded_capability index fits) below))) (omega arith)
    reads (tree.struct ds ts) levels at next v fits good le ahead is_w has =
        let d = length ds in
        let p = trees_count ts in
        let found = placed_all ts (next + d) (next + d + p) in
        let own = has_left seg next ds (found.0 ++ found.1) has in
        let below = has_right seg next ds (found.0 ++ found.1) has (next + d) refl in
        let is_p = length-placed_all ts (next + d) (next + d + p) in
        let room = has_inside seg (next + d) found.0 (has_left seg (next + d) found.0 found.1 below) in
        let rest = reads_all ts (levels - 1) (next + d) (next + d + p) (v + (d + p)) fits good.1 (omega arith) (omega arith) (has_left seg (next + d) found.0 found.1 below) (has_right seg (next + d) found.0 found.1 below (next + d + p) (omega (arith, is_p))) in
        struct_case levels at next v ds ts good.0.0.1 good.0.1.1 (omega arith) ahead is_w own (omega (arith, room, is_p)) (v + ((d + p) + more_of (parts_of_all ts (levels - 1))))
        (same_read ts (pointers_at (reading m caps (levels - 1)) 0 (next + d) p (v + (d + p))) (v + (d + p) + more_of (parts_of_all ts (levels - 1))) (v + ((d + p) + more_of (parts_of_all ts (levels - 1)))) rest (omega arith))
    reads (tree.list es) levels at next v fits good le ahead is_w has = reads_list es levels at next v fits good.0 good.1 le ahead is_w has

    pub reads_all : (ts : Trees) (levels at next v : ℕ) → FitsAll ts → AreGood caps (parts_of_all ts levels) → v + more_of (parts_of_all ts levels) ≤ 4194304 → at + trees_count ts ≤ next
        → Has seg at (placed_all ts at next).0 → Has seg next (placed_all ts at next).1 → pointers_at (reading m caps levels) 0 at (trees_count ts) v ≡ Ok (ts, v + more_of (parts_of_all ts levels))
    reads_all tree.no_trees levels at next v fits good le ahead words has =
        same_read tree.no_trees (pointers_at (reading m caps levels) 0 at 0 v) v (v + 0) (pointers_none (reading m caps levels) at v) (omega arith)
    reads_all (tree.tree t ts) levels at next v fits good le ahead words has =
        let first = placed t at next in
        let rest = placed_all ts (at + 1) (next + length first.1) in
        let both = words_append words_visited (parts t levels) (parts_of_all ts levels) in
        let one = reads t levels at next v fits.0 (good_left caps (parts t levels) (parts_of_all ts levels) good) (omega (arith, both)) (omega arith) (has_word seg at first.0 rest.0 words) (has_left seg next first.1 rest.1 has) in
        let others = reads_all ts levels (at + 1) (next + length first.1) (v + more_of (parts t levels)) fits.1 (good_right caps (parts t levels) (parts_of_all ts levels) good) (omega (arith, both)) (omega arith) (has_tail seg at first.0 rest.0 words) (has_right seg next first.1 rest.1 has (next + length first.1) refl) in
        same_read (tree.tree t ts) (pointers_at (reading m caps levels) 0 at (suc (trees_count ts)) v) (v + more_of (parts t levels) + more_of (parts_of_all ts levels)) (v + more_of (parts t levels ++ parts_of_all ts levels))
        (pointers_step (reading m caps levels) at (trees_count ts) v t ts (v + more_of (parts t levels)) (v + more_of (parts t levels) + more_of (parts_of_all ts levels)) one others)
        (omega (arith, both))

    pub reads_list : (es : Elements) (levels at next v : ℕ) → FitsList es → IsGood caps (record { levels = levels; what = tree.list es }) → AreGood caps (parts_of_list es (levels - 1))
        → v + (words_visited (tree.list es) + more_of (parts_of_list es (levels - 1))) ≤ 4194304 → at < next
        → get_or seg at 0 ≡ (placed_list es at next).0 → Has seg next (placed_list es at next).1
        → reading m caps levels 0 at v ≡ Ok (tree.list es, v + (words_visited (tree.list es) + more_of (parts_of_list es (levels - 1))))
    reads_list (tree.packed b xs) levels at next v fits good below le ahead is_w has =
        let w = fits.0.0 in
        same_read (tree.list (tree.packed b xs)) (reading m caps levels 0 at v) (v + packed_size b (length xs)) (v + (packed_size b (length xs) + 0))
        (subst (λ (c : ℕ). Packed levels at next v c xs) (sym fits.0.1) (packed_case w levels at next v xs) fits.1 good.0.1 good.1.1 (omega arith) ahead is_w has)
        (omega arith)
    reads_list (tree.pointers ts) levels at next v fits good below le ahead is_w has =
        let n = trees_count ts in
        let found = placed_all ts next (next + n) in
        let own = has_left seg next found.0 found.1 has in
        let is_n = length-placed_all ts next (next + n) in
        let room = has_inside seg next found.0 own in
        let rest = reads_all ts (levels - 1) next (next + n) (v + n) fits below (omega arith) (omega arith) own (has_right seg next found.0 found.1 has (next + n) (omega (arith, is_n))) in
        pointers_case levels at next v n ts good.0.1 (omega arith) ahead is_w (omega (arith, room, is_n)) (v + (n + more_of (parts_of_all ts (levels - 1))))
        (same_read ts (pointers_at (reading m caps (levels - 1)) 0 next n (v + n)) (v + n + more_of (parts_of_all ts (levels - 1))) (v + (n + more_of (parts_of_all ts (levels - 1)))) rest (omega arith))
    reads_list (tree.structs d p ss) levels at next v fits good below le ahead is_w has =
        let n = structs_count ss in
        let size = n * (d + p) in
        let own = size + 1 + cond (eqb (d + p) 0) n 0 in
        let found = placed_structs ss (next + 1) (next + 1 + size) in
        let tag = struct_word n d p in
        let even = not-false (are_even d p ss) good.0.0 in
        let behind = has_tail seg next tag (found.0 ++ found.1) has in
        let first = has_left seg (next + 1) found.0 found.1 behind in
        let is_size = length-placed_structs ss d p (next + 1) (next + 1 + size) even in
        let room = has_inside seg (next + 1) found.0 first in
        let rest = reads_structs ss d p (levels - 1) (next + 1) (next + 1 + size) (v + own) fits.1 even below (omega arith) (omega arith) first (has_right seg (next + 1) found.0 found.1 behind (next + 1 + size) (omega (arith, is_size))) in
        structs_case levels at next v n d p ss good.0.1 fits.0.0 fits.0.1 (omega arith) ahead is_w (has_word seg next tag (found.0 ++ found.1) has) (omega (arith, room, is_size)) (v + (own + more_of (parts_of_structs ss (levels - 1))))
        (same_read ss (structs_at m (reading m caps (levels - 1)) 0 d p (next + 1) n (v + own)) (v + own + more_of (parts_of_structs ss (levels - 1))) (v + (own + more_of (parts_of_structs ss (levels - 1)))) rest (omega arith))

    pub reads_structs : (ss : Structs) (d p levels at next v : ℕ) → FitsStructs ss → are_even d p ss ≡ true → AreGood caps (parts_of_structs ss levels) → v + more_of (parts_of_structs ss levels) ≤ 4194304
        → at + structs_count ss * (d + p) ≤ next → Has seg at (placed_structs ss at next).0 → Has seg next (placed_structs ss at next).1
        → structs_at m (reading m caps levels) 0 d p at (structs_count ss) v ≡ Ok (ss, v + more_of (parts_of_structs ss levels))
    reads_structs tree.no_structs d p levels at next v fits even good le ahead words has =
        same_read tree.no_structs (structs_at m (reading m caps levels) 0 d p at 0 v) v (v + 0) (structs_none (reading m caps levels) d p at v) (omega arith)
    reads_structs (tree.struct_of ws ts ss) d p levels at next v fits even good le ahead words has =
        let f = even_parts d p ws ts ss even in
        let fd = f.0 in
        let fp = f.1 in
        let n = structs_count ss in
        let own = placed_all ts (at + length ws) next in
        let rest = placed_structs ss (at + length ws + trees_count ts) (next + length own.1) in
        let both = words_append words_visited (parts_of_all ts levels) (parts_of_structs ss levels) in
        let split : suc n * (d + p) ≡ (d + p) + n * (d + p) = omega arith in
        let behind = has_right seg at ws (own.0 ++ rest.0) words (at + length ws) refl in
        let is_p = length-placed_all ts (at + length ws) next in
        let next_at : at + length ws + trees_count ts ≡ at + (d + p) = omega (arith, fd, fp) in
        let first = reads_all ts levels (at + length ws) next v fits.0 (good_left caps (parts_of_all ts levels) (parts_of_structs ss levels) good) (omega (arith, both)) (omega (arith, fd, fp, split, ahead)) (has_left seg (at + length ws) own.0 rest.0 behind) (has_left seg next own.1 rest.1 has) in
        let others = reads_structs ss d p levels (at + length ws + trees_count ts) (next + length own.1) (v + more_of (parts_of_all ts levels)) fits.1 f.2 (good_right caps (parts_of_all ts levels) (parts_of_structs ss levels) good) (omega (arith, both)) (omega (arith, fd, fp, split, ahead))
        (has_right seg (at + length ws) own.0 rest.0 behind (at + length ws + trees_count ts) (omega (arith, is_p))) (has_right seg next own.1 rest.1 has (next + length own.1) refl) in
        same_read (tree.struct_of ws ts ss) (structs_at m (reading m caps levels) 0 d p at (suc n) v) (v + more_of (parts_of_all ts levels) + more_of (parts_of_structs ss levels)) (v + more_of (parts_of_all ts levels ++ parts_of_structs ss levels))
        (structs_step (reading m caps levels) d p at n v ws ts ss (v + more_of (parts_of_all ts levels)) (v + more_of (parts_of_all ts levels) + more_of (parts_of_structs ss levels))
        (ap (λ (k : ℕ). take k (drop at seg)) (sym fd) ∙ has_words seg at ws (has_left seg at ws (own.0 ++ rest.0) words))
        (ap (λ (k : ℕ). pointers_at (reading m caps levels) 0 (at + k) p v) (sym fd) ∙ ap (λ (k : ℕ). pointers_at (reading m caps levels) 0 (at + length ws) k v) (sym fp) ∙ first)
        (ap (λ (k : ℕ). structs_at m (reading m caps levels) 0 d p k n (v + more_of (parts_of_all ts levels))) (sym next_at) ∙ others))
        (omega (arith, both))
