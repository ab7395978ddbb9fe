-- What stands at a place by where its content lies.
use Rattle.std.proofs.Common.{◌≡◌, ℕ, Bool, true, false, cond, eqb, ltb, ◌&&◌, ◌+◌, ◌*◌, ◌/◌, ◌%◌, ◌^◌, ◌<◌, ◌≤◌, zero, suc, List, [], take, drop, length, get_or, Option, Some, None, Ok, Bor, refl, sym, ap, subst, ◌∙◌, arith, inl, inr}
use Rattle.std.specs.Prelude.{MatchOption}
use Rattle.std.proofs.lemmas.List.{get_or-take, get_or_past, length-take}
use Rattle.std.proofs.Math.Nat.{zero-div, zero-mod}
use Rattle.std.proofs.lemmas.Bool.{ne_eqb, eq-eqb, le-ltb, lt-ltb}
use Rattle.capn_reading.specs.declared.referent.Content.{Content}
use Rattle.capn_reading.specs.declared.referent.Referent.{Referent}
use Rattle.capn_reading.specs.declared.referent.Referent.TheVariants as referent
use Rattle.capn_reading.specs.declared.layout.Layout.{Layout}
use Rattle.capn_reading.specs.declared.layout.Layout.TheVariants as layout
use Rattle.capn_reading.specs.Segments.{segment_of}
use Rattle.capn_reading.specs.Following.{◌>>=◌, visit}
use Rattle.capn_reading.specs.Layouts.{laid, weight}
use Rattle.capn_reading.specs.Reading.{Reading, element, elements, pointers_at, structs_at, content_of, reading}
use Rattle.capn_trees.specs.Trees as tree
use Rattle.capn_trees.specs.Trees.{Tree, Trees, Structs, trees_count, structs_count}
use Rattle.capn_trees.specs.declared.width.Width.{Width}
use Rattle.capn_trees.specs.Widths.{bits_of}
use Rattle.capn_reading.specs.declared.place.Kind.{Kind}
use Rattle.capn_reading.specs.declared.place.Kind.TheVariants as kind
use Rattle.capn_reading.specs.Looking.{StandsFor, kind_of, data_of, length_of, element_of, bytes_of, IsTextIn, IsTextOf}
use Rattle.capn_reading.proofs.Rooted.{bind_ok, first_is}
use Rattle.capn_reading.proofs.Building.{elements_counted, elements_get}
use Rattle.capn_reading.proofs.Places.{ok_is, content_read, struct_read, is_null, is_capability}

abbrev pub so : ℕ → Option ℕ
so n = Some n

abbrev pub none_there : Option (List ℕ)
none_there = None

abbrev some_bytes : List ℕ → Option (List ℕ)
some_bytes xs = Some xs

-- the content of a place, read from where it lies
pub record IsReadAt (m : List (List ℕ)) (caps : ℕ) (c : Content) (place : Layout) (t : Tree) : Type 0 where
  pub levels : ℕ
  pub start : ℕ
  pub before : ℕ
  pub after : ℕ
  pub weighed : visit start (weight place) ≡ Ok before
  pub is_read : content_of m (reading m caps levels) c.segment place before ≡ Ok (t, after)

pub read_at : (m : List (List ℕ)) (caps : ℕ) (c : Content) (t : Tree) (place : Layout) → StandsFor m caps (referent.Content c) t → Ok place ≡ laid m c → IsReadAt m caps c place t
read_at m caps c t place stands is_laid =
    let r = content_read m caps c t stands in
    let same : r.place ≡ place = ok_is r.place place (sym r.is_laid ∙ sym is_laid) in
    record {
      levels = r.levels;
      start = r.start;
      before = r.before;
      after = r.after;
      weighed = subst (λ (l : Layout). visit r.start (weight l) ≡ Ok r.before) same r.weighed;
      is_read = subst (λ (l : Layout). content_of m (reading m caps r.levels) c.segment l r.before ≡ Ok (t, r.after)) same r.is_read;
    }

pub struct_words : (m : List (List ℕ)) (caps : ℕ) (c : Content) (t : Tree) (start d p : ℕ) → StandsFor m caps (referent.Content c) t → Ok (layout.Struct start d p) ≡ laid m c
    → data_of t ≡ Some (take d (drop start (segment_of m c.segment)))
struct_words m caps c t start d p stands is_laid =
    let r = read_at m caps c t (layout.Struct start d p) stands is_laid in
    let a = struct_read m (reading m caps r.levels) c.segment start d p r.before t r.after r.is_read in
    ap data_of a.3

pub struct_kind : (m : List (List ℕ)) (caps : ℕ) (c : Content) (t : Tree) (start d p : ℕ) → StandsFor m caps (referent.Content c) t → Ok (layout.Struct start d p) ≡ laid m c → kind.Struct ≡ kind_of t
struct_kind m caps c t start d p stands is_laid =
    let r = read_at m caps c t (layout.Struct start d p) stands is_laid in
    let a = struct_read m (reading m caps r.levels) c.segment start d p r.before t r.after r.is_read in
    sym (ap kind_of a.3)

-- what is laid otherwise is a list
list_read : (m : List (List ℕ)) (read : ℕ → ℕ → ℕ → Reading Tree) (s : ℕ) (place : Layout) (v : ℕ) (t : Tree) (after : ℕ) → content_of m read s place v ≡ Ok (t, after)
    → ((start d p : ℕ) → place ≡ layout.Struct start d p → ⊥) → (kind_of t ≡ kind.List) × (data_of t ≡ None)
unfolding content_of
list_read m read s (layout.Struct start d p) v t after e none = absurd (none start d p refl)
list_read m read s (layout.Packed start width count) v t after e none =
    let is = sym (first_is _ t v after e) in
    (ap kind_of is, ap data_of is)
list_read m read s (layout.Pointers start count) v t after e none =
    let a = bind_ok (pointers_at read s start count v) (λ found. Ok (tree.list (tree.pointers found.0), found.1)) (t, after) e in
    let is = sym (first_is (tree.list (tree.pointers a.0.0)) t a.0.1 after a.2) in
    (ap kind_of is, ap data_of is)
list_read m read s (layout.Structs start count d p words) v t after e none =
    let a = bind_ok (structs_at m read s d p start count v) (λ found. Ok (tree.list (tree.structs d p found.0), found.1)) (t, after) e in
    let is = sym (first_is (tree.list (tree.structs d p a.0.0)) t a.0.1 after a.2) in
    (ap kind_of is, ap data_of is)

pub list_there : (m : List (List ℕ)) (caps : ℕ) (c : Content) (t : Tree) (place : Layout) → StandsFor m caps (referent.Content c) t → Ok place ≡ laid m c
    → ((start d p : ℕ) → place ≡ layout.Struct start d p → ⊥) → (kind_of t ≡ kind.List) × (data_of t ≡ None)
list_there m caps c t place stands is_laid none =
    let r = read_at m caps c t place stands is_laid in
    list_read m (reading m caps r.levels) c.segment place r.before t r.after r.is_read none

-- an element that begins in the first d words, and one past them
pub element_within : (ws : List ℕ) (d bits k : ℕ) → k * bits / 64 < d → element ws bits k ≡ element (take d ws) bits k
element_within ws d bits k lt = ap (λ (w : ℕ). w / 2 ^ (k * bits % 64) % 2 ^ bits) (sym (get_or-take d ws (k * bits / 64) 0 lt))

zero_bits : (a b : ℕ) → 0 / 2 ^ a % 2 ^ b ≡ 0
zero_bits a b =
    let none : 0 / 2 ^ a ≡ 0 = zero-div (2 ^ a) in
    ap (λ (n : ℕ). n % 2 ^ b) none ∙ zero-mod (2 ^ b)

pub element_none : (bits k : ℕ) → element [] bits k ≡ 0
element_none bits k = zero_bits (k * bits % 64) bits

pub element_past : (ws : List ℕ) (d bits k : ℕ) → d ≤ k * bits / 64 → element (take d ws) bits k ≡ 0
element_past ws d bits k le =
    let none : get_or (take d ws) (k * bits / 64) 0 ≡ 0 = get_or_past (take d ws) (k * bits / 64) 0 (omega (arith, length-take d ws)) in
    ap (λ (w : ℕ). w / 2 ^ (k * bits % 64) % 2 ^ bits) none ∙ zero_bits (k * bits % 64) bits

-- ---- Lists

-- so many pointers, and so many structs
pub pointers_counted : (read : ℕ → ℕ → ℕ → Reading Tree) (s i n v : ℕ) (ts : Trees) (after : ℕ) → pointers_at read s i n v ≡ Ok (ts, after) → trees_count ts ≡ n
unfolding pointers_at
pointers_counted read s i zero v ts after e = ap trees_count (sym (first_is tree.no_trees ts v after e))
pointers_counted read s i (suc n) v ts after e =
    let a = bind_ok (read s i v) (λ first. pointers_at read s (i + 1) n first.1 >>= λ rest. Ok (tree.tree first.0 rest.0, rest.1)) (ts, after) e in
    let b = bind_ok (pointers_at read s (i + 1) n a.0.1) (λ rest. Ok (tree.tree a.0.0 rest.0, rest.1)) (ts, after) a.2 in
    ap trees_count (sym (first_is (tree.tree a.0.0 b.0.0) ts b.0.1 after b.2)) ∙ ap suc (pointers_counted read s (i + 1) n a.0.1 b.0.0 b.0.1 b.1)

pub structs_counted : (m : List (List ℕ)) (read : ℕ → ℕ → ℕ → Reading Tree) (s d p i n v : ℕ) (ss : Structs) (after : ℕ) → structs_at m read s d p i n v ≡ Ok (ss, after) → structs_count ss ≡ n
unfolding structs_at
structs_counted m read s d p i zero v ss after e = ap structs_count (sym (first_is tree.no_structs ss v after e))
structs_counted m read s d p i (suc n) v ss after e =
    let a = bind_ok (pointers_at read s (i + d) p v) (λ first. structs_at m read s d p (i + (d + p)) n first.1 >>= λ rest. Ok (tree.struct_of (take d (drop i (segment_of m s))) first.0 rest.0, rest.1)) (ss, after) e in
    let b = bind_ok (structs_at m read s d p (i + (d + p)) n a.0.1) (λ rest. Ok (tree.struct_of (take d (drop i (segment_of m s))) a.0.0 rest.0, rest.1)) (ss, after) a.2 in
    ap structs_count (sym (first_is (tree.struct_of (take d (drop i (segment_of m s))) a.0.0 b.0.0) ss b.0.1 after b.2)) ∙ ap suc (structs_counted m read s d p (i + (d + p)) n a.0.1 b.0.0 b.0.1 b.1)

-- the list that was read from where it lies
pub packed_there : (m : List (List ℕ)) (caps : ℕ) (c : Content) (t : Tree) (start : ℕ) (width : Width) (count : ℕ) → StandsFor m caps (referent.Content c) t → Ok (layout.Packed start width count) ≡ laid m c
    → t ≡ tree.list (tree.packed (bits_of width) (elements (drop start (segment_of m c.segment)) (bits_of width) 0 count))
unfolding content_of
packed_there m caps c t start width count stands is_laid =
    let r = read_at m caps c t (layout.Packed start width count) stands is_laid in
    sym (first_is (tree.list (tree.packed (bits_of width) (elements (drop start (segment_of m c.segment)) (bits_of width) 0 count))) t r.before r.after r.is_read)

pub packed_length : (m : List (List ℕ)) (caps : ℕ) (c : Content) (t : Tree) (start : ℕ) (width : Width) (count : ℕ) → StandsFor m caps (referent.Content c) t → Ok (layout.Packed start width count) ≡ laid m c
    → Some count ≡ length_of t
packed_length m caps c t start width count stands is_laid =
    ap (λ (n : ℕ). so n) (sym (elements_counted (drop start (segment_of m c.segment)) (bits_of width) 0 count)) ∙ sym (ap length_of (packed_there m caps c t start width count stands is_laid))

pub pointers_length : (m : List (List ℕ)) (caps : ℕ) (c : Content) (t : Tree) (start count : ℕ) → StandsFor m caps (referent.Content c) t → Ok (layout.Pointers start count) ≡ laid m c → Some count ≡ length_of t
unfolding content_of
pointers_length m caps c t start count stands is_laid =
    let r = read_at m caps c t (layout.Pointers start count) stands is_laid in
    let a = bind_ok (pointers_at (reading m caps r.levels) c.segment start count r.before) (λ found. Ok (tree.list (tree.pointers found.0), found.1)) (t, r.after) r.is_read in
    ap (λ (n : ℕ). so n) (sym (pointers_counted (reading m caps r.levels) c.segment start count r.before a.0.0 a.0.1 a.1)) ∙ ap length_of (first_is (tree.list (tree.pointers a.0.0)) t a.0.1 r.after a.2)

pub structs_length : (m : List (List ℕ)) (caps : ℕ) (c : Content) (t : Tree) (start count d p words : ℕ) → StandsFor m caps (referent.Content c) t → Ok (layout.Structs start count d p words) ≡ laid m c → Some count ≡ length_of t
unfolding content_of
structs_length m caps c t start count d p words stands is_laid =
    let r = read_at m caps c t (layout.Structs start count d p words) stands is_laid in
    let a = bind_ok (structs_at m (reading m caps r.levels) c.segment d p start count r.before) (λ found. Ok (tree.list (tree.structs d p found.0), found.1)) (t, r.after) r.is_read in
    ap (λ (n : ℕ). so n) (sym (structs_counted m (reading m caps r.levels) c.segment d p start count r.before a.0.0 a.0.1 a.1)) ∙ ap length_of (first_is (tree.list (tree.structs d p a.0.0)) t a.0.1 r.after a.2)

pub struct_length : (m : List (List ℕ)) (caps : ℕ) (c : Content) (t : Tree) (start d p : ℕ) → StandsFor m caps (referent.Content c) t → Ok (layout.Struct start d p) ≡ laid m c → None ≡ length_of t
struct_length m caps c t start d p stands is_laid =
    let r = read_at m caps c t (layout.Struct start d p) stands is_laid in
    let a = struct_read m (reading m caps r.levels) c.segment start d p r.before t r.after r.is_read in
    sym (ap length_of a.3)

-- what is no content has no elements, nor has one that is laid otherwise
pub none_in_content : (m : List (List ℕ)) (caps : ℕ) (r : Referent) (t : Tree) (bits k : ℕ) → StandsFor m caps r t → ((c : Content) → r ≡ referent.Content c → ⊥) → None ≡ element_of bits t k
none_in_content m caps referent.Null t bits k stands none = sym (ap (λ (u : Tree). element_of bits u k) (is_null m caps t stands))
none_in_content m caps (referent.Capability index) t bits k stands none = sym (ap (λ (u : Tree). element_of bits u k) (is_capability m caps index t stands))
none_in_content m caps (referent.Content c) t bits k stands none = absurd (none c refl)

not_packed : (m : List (List ℕ)) (read : ℕ → ℕ → ℕ → Reading Tree) (s : ℕ) (place : Layout) (v : ℕ) (t : Tree) (after : ℕ) → content_of m read s place v ≡ Ok (t, after)
    → ((start : ℕ) (width : Width) (count : ℕ) → place ≡ layout.Packed start width count → ⊥) → ((bits k : ℕ) → None ≡ element_of bits t k) × (none_there ≡ bytes_of t)
unfolding content_of
not_packed m read s (layout.Struct start d p) v t after e none =
    let a = struct_read m read s start d p v t after e in
    ((λ bits k. sym (ap (λ (u : Tree). element_of bits u k) a.3)), sym (ap bytes_of a.3))
not_packed m read s (layout.Packed start width count) v t after e none = absurd (none start width count refl)
not_packed m read s (layout.Pointers start count) v t after e none =
    let a = bind_ok (pointers_at read s start count v) (λ found. Ok (tree.list (tree.pointers found.0), found.1)) (t, after) e in
    let is = first_is (tree.list (tree.pointers a.0.0)) t a.0.1 after a.2 in
    ((λ bits k. ap (λ (u : Tree). element_of bits u k) is), ap bytes_of is)
not_packed m read s (layout.Structs start count d p words) v t after e none =
    let a = bind_ok (structs_at m read s d p start count v) (λ found. Ok (tree.list (tree.structs d p found.0), found.1)) (t, after) e in
    let is = first_is (tree.list (tree.structs d p a.0.0)) t a.0.1 after a.2 in
    ((λ bits k. ap (λ (u : Tree). element_of bits u k) is), ap bytes_of is)

pub none_otherwise : (m : List (List ℕ)) (caps : ℕ) (c : Content) (t : Tree) (place : Layout) → StandsFor m caps (referent.Content c) t → Ok place ≡ laid m c
    → ((start : ℕ) (width : Width) (count : ℕ) → place ≡ layout.Packed start width count → ⊥) → ((bits k : ℕ) → None ≡ element_of bits t k) × (none_there ≡ bytes_of t)
none_otherwise m caps c t place stands is_laid none =
    let r = read_at m caps c t place stands is_laid in
    not_packed m (reading m caps r.levels) c.segment place r.before t r.after r.is_read none

and_none : (x : Bool) → (x && false) ≡ false
and_none true = refl
and_none false = refl

-- elements of another size, past the end, and there
module _ (ws : List ℕ) (b n bits k : ℕ) where
  abbrev pub packed_element : Option ℕ
  packed_element = element_of bits (tree.list (tree.packed b (elements ws b 0 n))) k

  abbrev asked : Bool → Option ℕ
  asked x = cond x (Some (get_or (elements ws b 0 n) k 0)) None

  pub other_size : (b ≡ bits → ⊥) → None ≡ packed_element
  other_size differ = sym (ap (λ (x : Bool). asked (x && ltb k (length (elements ws b 0 n)))) (ne_eqb b bits differ))

  pub past_end : n ≤ k → None ≡ packed_element
  past_end le =
      let long = elements_counted ws b 0 n in
      let past : ltb k (length (elements ws b 0 n)) ≡ false = le-ltb k (length (elements ws b 0 n)) (omega (arith, long)) in
      sym (ap (λ (x : Bool). asked (eqb b bits && x)) past ∙ ap asked (and_none (eqb b bits)))

  pub within : b ≡ bits → k < n → so (element ws bits k) ≡ packed_element
  within same lt =
      let from_none : k ≡ 0 + k = omega arith in
      let long = elements_counted ws b 0 n in
      let here : ltb k (length (elements ws b 0 n)) ≡ true = lt-ltb k (length (elements ws b 0 n)) (omega (arith, long)) in
      ap (λ (c : ℕ). so (element ws c k)) (sym same) ∙ ap (λ (j : ℕ). so (element ws b j)) from_none ∙ ap so (sym (elements_get ws b 0 n k lt))
      ∙ sym (ap (λ (x : Bool). asked (x && ltb k (length (elements ws b 0 n)))) (eq-eqb b bits same) ∙ ap asked here)

abbrev asked_bytes : List ℕ → Bool → Option (List ℕ)
asked_bytes xs x = cond x (Some xs) None

pub other_bytes : (xs : List ℕ) (b : ℕ) → (b ≡ 8 → ⊥) → none_there ≡ bytes_of (tree.list (tree.packed b xs))
other_bytes xs b differ = sym (ap (asked_bytes xs) (ne_eqb b 8 differ))

pub these_bytes : (xs : List ℕ) (b : ℕ) → b ≡ 8 → Some xs ≡ bytes_of (tree.list (tree.packed b xs))
these_bytes xs b same = sym (ap (asked_bytes xs) (eq-eqb b 8 same))

-- ---- Texts

not_kind_null : (t : Tree) (k : Kind) → kind_of t ≡ k → (k ≡ kind.Null → ⊥) → t ≡ tree.null → ⊥
not_kind_null t k is differ none = differ (sym is ∙ ap kind_of none)

content_not_null : (m : List (List ℕ)) (read : ℕ → ℕ → ℕ → Reading Tree) (s : ℕ) (place : Layout) (v : ℕ) (t : Tree) (after : ℕ) → content_of m read s place v ≡ Ok (t, after) → t ≡ tree.null → ⊥
content_not_null m read s (layout.Struct start d p) v t after e =
    let a = struct_read m read s start d p v t after e in
    not_kind_null t kind.Struct (ap kind_of a.3) (λ same. cc)
content_not_null m read s (layout.Packed start width count) v t after e = not_kind_null t kind.List (list_read m read s (layout.Packed start width count) v t after e (λ start d p same. cc)).0 (λ same. cc)
content_not_null m read s (layout.Pointers start count) v t after e = not_kind_null t kind.List (list_read m read s (layout.Pointers start count) v t after e (λ start d p same. cc)).0 (λ same. cc)
content_not_null m read s (layout.Structs start count d p words) v t after e = not_kind_null t kind.List (list_read m read s (layout.Structs start count d p words) v t after e (λ start d p same. cc)).0 (λ same. cc)

pub not_null : (m : List (List ℕ)) (caps : ℕ) (r : Referent) (t : Tree) → StandsFor m caps r t → (r ≡ referent.Null → ⊥) → t ≡ tree.null → ⊥
not_null m caps referent.Null t stands none = absurd (none refl)
not_null m caps (referent.Capability index) t stands none = not_kind_null t (kind.Capability index) (ap kind_of (is_capability m caps index t stands)) (λ same. cc)
not_null m caps (referent.Content c) t stands none =
    let r = content_read m caps c t stands in
    content_not_null m (reading m caps r.levels) c.segment r.place r.before t r.after r.is_read

pub no_text : (t : Tree) → none_there ≡ bytes_of t → (s : List ℕ) → ¬ (IsTextOf t s)
no_text t none s (inl k) = absurd (let bad : none_there ≡ Some [] = none ∙ ap bytes_of k.0 in cc)
no_text t none s (inr k) = absurd (let bad : none_there ≡ Some k.0 = none ∙ k.1 in cc)

pub text_there : (t : Tree) (bytes : List ℕ) (o : Option (Bor (List ℕ))) → Some bytes ≡ bytes_of t → (t ≡ tree.null → ⊥) → MatchOption o ((s : List ℕ) → ¬ (IsTextIn bytes s)) (λ text. IsTextIn bytes text.now)
    → MatchOption o ((s : List ℕ) → ¬ (IsTextOf t s)) (λ text. IsTextOf t text.now)
text_there t bytes None is there none = λ s k. refused s k
  where
    same_bytes : (xs ys : List ℕ) → some_bytes xs ≡ some_bytes ys → xs ≡ ys
    same_bytes xs ys e = cc

    refused : (s : List ℕ) → IsTextOf t s → ⊥
    refused s (inl k) = there k.0
    refused s (inr k) = none s (subst (λ (bs : List ℕ). IsTextIn bs s) (sym (same_bytes bytes k.0 (is ∙ k.1))) k.2)
text_there t bytes (Some text) is there found = inr (bytes, sym is, found)
