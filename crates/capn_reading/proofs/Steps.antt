-- What one more pointer or struct does to the visited words.
use Rattle.std.proofs.Common.{◌≡◌, ℕ, zero, suc, ◌+◌, ◌-◌, ◌<◌, ◌≤◌, List, take, drop, Result, Ok, Err, refl, sym, ap, ◌∙◌, arith}
use Rattle.capn_trees.specs.declared.faults.PayloadFault.{PayloadFault}
use Rattle.capn_trees.specs.declared.faults.PayloadFault.TheVariants.{Depth}
use Rattle.capn_reading.specs.declared.referent.Content.{Content}
use Rattle.capn_reading.specs.declared.referent.Referent.{Referent}
use Rattle.capn_reading.specs.declared.referent.Referent.TheVariants as referent
use Rattle.capn_trees.specs.declared.width.Width.{Width}
use Rattle.capn_reading.specs.declared.layout.Layout.{Layout}
use Rattle.capn_reading.specs.declared.layout.Layout.TheVariants as layout
use Rattle.capn_reading.specs.Segments.{segment_of, word_at}
use Rattle.capn_reading.specs.Pointers.{decoded}
use Rattle.capn_reading.specs.Following.{◌>>=◌, visit, leads, followed}
use Rattle.capn_reading.specs.Layouts.{EndsIn, laid, weight}
use Rattle.capn_trees.specs.Trees.{Tree, struct, list, tree, pointers, structs, struct_of}
use Rattle.capn_reading.specs.Reading.{Reading, pointers_at, structs_at, content_of, shallow, deep, reading, visited_of}

-- a step that only builds
pub visited_of-built : {X Y : Type 0} (r : Reading X) (f : X → Y) → visited_of (r >>= λ x. Ok (f x.0, x.1)) ≡ visited_of r
visited_of-built (Ok x) f = refl
visited_of-built (Err e) f = refl

-- what a step answers decides what follows
visited_of-then : {X Y : Type 0} (r : Reading X) (f : X × ℕ → Reading Y) (y : Result ℕ PayloadFault) (v : ℕ)
    → visited_of r ≡ Ok v → ((x : X) → visited_of (f (x, v)) ≡ y) → visited_of (r >>= f) ≡ y
visited_of-then (Ok x) f y v is_v next = let same : x.1 ≡ v = cc in rw (sym same) at (next x.0)
visited_of-then (Err e) f y v is_v next = absurd cc

visited_of-stops : {X Y : Type 0} (r : Reading X) (f : X × ℕ → Reading Y) (e : PayloadFault) → visited_of r ≡ Err e → visited_of (r >>= f) ≡ Err e
visited_of-stops (Ok x) f e stops = absurd cc
visited_of-stops (Err d) f e stops = stops

no_pointers : (read : ℕ → ℕ → ℕ → Reading Tree) (s i v : ℕ) → visited_of (pointers_at read s i 0 v) ≡ Ok v
unfolding pointers_at
no_pointers read s i v = refl

pointers_step : (read : ℕ → ℕ → ℕ → Reading Tree) (s i n v after : ℕ) → visited_of (read s i v) ≡ Ok after
    → visited_of (pointers_at read s i (suc n) v) ≡ visited_of (pointers_at read s (i + 1) n after)
unfolding pointers_at
pointers_step read s i n v after is_after =
    visited_of-then (read s i v) (λ first. pointers_at read s (i + 1) n first.1 >>= λ rest. Ok (tree first.0 rest.0, rest.1)) _ after is_after
    (λ x. visited_of-built (pointers_at read s (i + 1) n after) (λ ts. tree x ts))

structs_step : (m : List (List ℕ)) (read : ℕ → ℕ → ℕ → Reading Tree) (s d p i n v after : ℕ) → visited_of (pointers_at read s (i + d) p v) ≡ Ok after
    → visited_of (structs_at m read s d p i (suc n) v) ≡ visited_of (structs_at m read s d p (i + (d + p)) n after)
unfolding structs_at
structs_step m read s d p i n v after is_after =
    visited_of-then (pointers_at read s (i + d) p v) (λ first. structs_at m read s d p (i + (d + p)) n first.1 >>= λ rest. Ok (struct_of (take d (drop i (segment_of m s))) first.0 rest.0, rest.1)) _ after is_after
    (λ x. visited_of-built (structs_at m read s d p (i + (d + p)) n after) (λ ss. struct_of (take d (drop i (segment_of m s))) x ss))

module _ (read : ℕ → ℕ → ℕ → Reading Tree) (s i n k v : ℕ) where
  -- one more pointer
  pub pointers_more : (after : ℕ) (total : Result ℕ PayloadFault) → k < n → visited_of (read s (i + k) v) ≡ Ok after
      → visited_of (pointers_at read s (i + k) (n - k) v) ≡ total → visited_of (pointers_at read s (i + (k + 1)) (n - (k + 1)) after) ≡ total
  pointers_more after total lt is_after so_far =
      let one : n - k ≡ suc (n - (k + 1)) = omega arith in
      let place : i + k + 1 ≡ i + (k + 1) = omega arith in
      ap (λ (j : ℕ). visited_of (pointers_at read s j (n - (k + 1)) after)) (sym place)
      ∙ sym (pointers_step read s (i + k) (n - (k + 1)) v after is_after)
      ∙ ap (λ (m : ℕ). visited_of (pointers_at read s (i + k) m v)) (sym one) ∙ so_far

  -- a pointer that fails a check
  pub pointers_stop : (e : PayloadFault) (total : Result ℕ PayloadFault) → k < n → Err e ≡ visited_of (read s (i + k) v)
      → visited_of (pointers_at read s (i + k) (n - k) v) ≡ total → Err e ≡ total
  unfolding pointers_at
  pointers_stop e total lt is_e so_far =
      let one : n - k ≡ suc (n - (k + 1)) = omega arith in
      sym (visited_of-stops (read s (i + k) v) (λ first. pointers_at read s (i + k + 1) (n - (k + 1)) first.1 >>= λ rest. Ok (tree first.0 rest.0, rest.1)) e (sym is_e))
      ∙ ap (λ (m : ℕ). visited_of (pointers_at read s (i + k) m v)) (sym one) ∙ so_far

  pub pointers_done : (total : Result ℕ PayloadFault) → n ≤ k → visited_of (pointers_at read s (i + k) (n - k) v) ≡ total → Ok v ≡ total
  unfolding pointers_at
  pointers_done total le so_far =
      let none : n - k ≡ 0 = omega arith in
      ap (λ (m : ℕ). visited_of (pointers_at read s (i + k) m v)) (sym none) ∙ so_far

module _ (m : List (List ℕ)) (read : ℕ → ℕ → ℕ → Reading Tree) (s d p at n k v : ℕ) where
  -- one more struct
  pub structs_more : (next after : ℕ) (total : Result ℕ PayloadFault) → k < n → next ≡ at + (d + p) → visited_of (pointers_at read s (at + d) p v) ≡ Ok after
      → visited_of (structs_at m read s d p at (n - k) v) ≡ total → visited_of (structs_at m read s d p next (n - (k + 1)) after) ≡ total
  structs_more next after total lt is_next is_after so_far =
      let one : n - k ≡ suc (n - (k + 1)) = omega arith in
      ap (λ (j : ℕ). visited_of (structs_at m read s d p j (n - (k + 1)) after)) is_next
      ∙ sym (structs_step m read s d p at (n - (k + 1)) v after is_after)
      ∙ ap (λ (r : ℕ). visited_of (structs_at m read s d p at r v)) (sym one) ∙ so_far

  -- a struct of which a pointer fails a check
  pub structs_stop : (e : PayloadFault) (total : Result ℕ PayloadFault) → k < n → Err e ≡ visited_of (pointers_at read s (at + d) p v)
      → visited_of (structs_at m read s d p at (n - k) v) ≡ total → Err e ≡ total
  unfolding structs_at
  structs_stop e total lt is_e so_far =
      let one : n - k ≡ suc (n - (k + 1)) = omega arith in
      sym (visited_of-stops (pointers_at read s (at + d) p v) (λ first. structs_at m read s d p (at + (d + p)) (n - (k + 1)) first.1 >>= λ rest. Ok (struct_of (take d (drop at (segment_of m s))) first.0 rest.0, rest.1)) e (sym is_e))
      ∙ ap (λ (r : ℕ). visited_of (structs_at m read s d p at r v)) (sym one) ∙ so_far

  pub structs_done : (total : Result ℕ PayloadFault) → n ≤ k → visited_of (structs_at m read s d p at (n - k) v) ≡ total → Ok v ≡ total
  unfolding structs_at
  structs_done total le so_far =
      let none : n - k ≡ 0 = omega arith in
      ap (λ (r : ℕ). visited_of (structs_at m read s d p at r v)) (sym none) ∙ so_far

-- structs without pointers are not walked
pub structs_skipped : (m : List (List ℕ)) (read : ℕ → ℕ → ℕ → Reading Tree) (s d i n v : ℕ) → Ok v ≡ visited_of (structs_at m read s d 0 i n v)
unfolding structs_at
structs_skipped m read s d i zero v = refl
structs_skipped m read s d i (suc n) v =
    structs_skipped m read s d (i + (d + 0)) n v ∙ sym (structs_step m read s d 0 i n v v (no_pointers read s (i + d) v))

-- the pointer at a place: a check on the pointer itself fails
pub reading_stop : (m : List (List ℕ)) (caps levels s i v : ℕ) (e : PayloadFault) → Err e ≡ followed m caps s i v → Err e ≡ visited_of (reading m caps levels s i v)
unfolding reading
reading_stop m caps zero s i v e stops = ap (λ (f : Reading Referent). visited_of (f >>= λ found. shallow found.0 found.1)) stops
reading_stop m caps (suc n) s i v e stops = ap (λ (f : Reading Referent). visited_of (f >>= λ found. deep m (reading m caps n) found.0 found.1)) stops

shallow_plain : (r : Referent) (v : ℕ) → ((c : Content) → r ≡ referent.Content c → ⊥) → Ok v ≡ visited_of (shallow r v)
unfolding shallow
shallow_plain referent.Null v none = refl
shallow_plain (referent.Capability index) v none = refl
shallow_plain (referent.Content c) v none = absurd (none c refl)

deep_plain : (m : List (List ℕ)) (read : ℕ → ℕ → ℕ → Reading Tree) (r : Referent) (v : ℕ) → ((c : Content) → r ≡ referent.Content c → ⊥) → Ok v ≡ visited_of (deep m read r v)
unfolding deep
deep_plain m read referent.Null v none = refl
deep_plain m read (referent.Capability index) v none = refl
deep_plain m read (referent.Content c) v none = absurd (none c refl)

-- it leads to no content
pub reading_plain : (m : List (List ℕ)) (caps levels s i v : ℕ) (r : Referent) (after : ℕ) → Ok (r, after) ≡ followed m caps s i v
    → ((c : Content) → r ≡ referent.Content c → ⊥) → Ok after ≡ visited_of (reading m caps levels s i v)
unfolding reading
reading_plain m caps zero s i v r after found none =
    shallow_plain r after none ∙ ap (λ (f : Reading Referent). visited_of (f >>= λ found. shallow found.0 found.1)) found
reading_plain m caps (suc n) s i v r after found none =
    deep_plain m (reading m caps n) r after none ∙ ap (λ (f : Reading Referent). visited_of (f >>= λ found. deep m (reading m caps n) found.0 found.1)) found

-- a word of zeros is a null pointer
pub reading_null : (m : List (List ℕ)) (caps levels s i v : ℕ) → word_at m s i ≡ 0 → visited_of (reading m caps levels s i v) ≡ Ok v
unfolding leads
reading_null m caps levels s i v zeros =
    sym (reading_plain m caps levels s i v referent.Null v (ap (λ (w : ℕ). leads m caps s i (decoded w) v) (sym zeros)) (λ c same. absurd cc))

-- no level is left for a content
pub reading_too_deep : (m : List (List ℕ)) (caps levels s i v : ℕ) (c : Content) (after : ℕ) → Ok (referent.Content c, after) ≡ followed m caps s i v
    → levels ≡ 0 → Err Depth ≡ visited_of (reading m caps levels s i v)
unfolding reading shallow
reading_too_deep m caps levels s i v c after found none =
    ap (λ (f : Reading Referent). visited_of (f >>= λ found. shallow found.0 found.1)) found
    ∙ ap (λ (n : ℕ). visited_of (reading m caps n s i v)) (sym none)

module _ (m : List (List ℕ)) (caps n levels s i v : ℕ) (c : Content) (after : ℕ) (found : Ok (referent.Content c, after) ≡ followed m caps s i v) (more : levels ≡ suc n) where
  reading_deeper : visited_of (laid m c >>= λ place. visit after (weight place) >>= λ next. content_of m (reading m caps n) c.segment place next) ≡ visited_of (reading m caps levels s i v)
  unfolding reading deep
  reading_deeper =
      ap (λ (f : Reading Referent). visited_of (f >>= λ found. deep m (reading m caps n) found.0 found.1)) found
      ∙ ap (λ (k : ℕ). visited_of (reading m caps k s i v)) (sym more)

  -- the content is out of bounds or has a bad tag
  pub reading_unlaid : (e : PayloadFault) → Err e ≡ laid m c → Err e ≡ visited_of (reading m caps levels s i v)
  reading_unlaid e stops =
      ap (λ (l : Result Layout PayloadFault). visited_of (l >>= λ place. visit after (weight place) >>= λ next. content_of m (reading m caps n) c.segment place next)) stops
      ∙ reading_deeper

  -- its words are too many
  pub reading_heavy : (place : Layout) (e : PayloadFault) → Ok place ≡ laid m c → Err e ≡ visit after (weight place) → Err e ≡ visited_of (reading m caps levels s i v)
  reading_heavy place e is_laid stops =
      ap (λ (w : Result ℕ PayloadFault). visited_of (w >>= λ next. content_of m (reading m caps n) c.segment place next)) stops
      ∙ ap (λ (l : Result Layout PayloadFault). visited_of (l >>= λ place. visit after (weight place) >>= λ next. content_of m (reading m caps n) c.segment place next)) is_laid
      ∙ reading_deeper

  -- its pointers decide
  pub reading_content : (place : Layout) (next : ℕ) → Ok place ≡ laid m c → Ok next ≡ visit after (weight place)
      → visited_of (content_of m (reading m caps n) c.segment place next) ≡ visited_of (reading m caps levels s i v)
  reading_content place next is_laid is_next =
      ap (λ (w : Result ℕ PayloadFault). visited_of (w >>= λ next. content_of m (reading m caps n) c.segment place next)) is_next
      ∙ ap (λ (l : Result Layout PayloadFault). visited_of (l >>= λ place. visit after (weight place) >>= λ next. content_of m (reading m caps n) c.segment place next)) is_laid
      ∙ reading_deeper

-- the pointers of a content, by what it is
module _ (m : List (List ℕ)) (read : ℕ → ℕ → ℕ → Reading Tree) (s v : ℕ) where
  pub content_of-Struct : (start d p : ℕ) → visited_of (pointers_at read s (start + d) p v) ≡ visited_of (content_of m read s (layout.Struct start d p) v)
  unfolding content_of
  content_of-Struct start d p = sym (visited_of-built (pointers_at read s (start + d) p v) (λ ts. struct (take d (drop start (segment_of m s))) ts))

  pub content_of-Packed : (start : ℕ) (width : Width) (count : ℕ) → Ok v ≡ visited_of (content_of m read s (layout.Packed start width count) v)
  unfolding content_of
  content_of-Packed start width count = refl

  pub content_of-Pointers : (start count : ℕ) → visited_of (pointers_at read s start count v) ≡ visited_of (content_of m read s (layout.Pointers start count) v)
  unfolding content_of
  content_of-Pointers start count = sym (visited_of-built (pointers_at read s start count v) (λ ts. list (pointers ts)))

  pub content_of-Structs : (start count d p words : ℕ) → visited_of (structs_at m read s d p start count v) ≡ visited_of (content_of m read s (layout.Structs start count d p words) v)
  unfolding content_of
  content_of-Structs start count d p words = sym (visited_of-built (structs_at m read s d p start count v) (λ ss. list (structs d p ss)))

  pub content_of-Structs_skipped : (start count d p words : ℕ) → p ≡ 0 → Ok v ≡ visited_of (content_of m read s (layout.Structs start count d p words) v)
  content_of-Structs_skipped start count d p words none =
      structs_skipped m read s d start count v
      ∙ ap (λ (q : ℕ). visited_of (structs_at m read s d q start count v)) (sym none)
      ∙ content_of-Structs start count d p words

-- words that end no later
pub ends_before : {size end sooner : ℕ} → EndsIn size end → sooner ≤ end → EndsIn size sooner
ends_before h le = record { inside = let inside = h.inside in omega (arith, inside, le); small = let small = h.small in omega (arith, small, le) }
