-- A payload names no other capabilities than go with it: each that a pointer is read as was looked at.
use Rattle.std.proofs.Common.{◌≡◌, ℕ, zero, suc, ◌+◌, ◌<◌, Bool, true, false, nat_lt, ◌==◌, List, [], ◌∷◌, take, drop, length, Option, None, Some, Result, Ok, Err, refl, ap, subst, arith}
use Rattle.std.specs.Prelude.{if◌then◌else◌}
use Rattle.std.proofs.lemmas.Bool.Decides.{nat_tests}
use Rattle.capn_trees.specs.declared.faults.PayloadFault.{PayloadFault}
use Rattle.capn_trees.specs.declared.faults.PayloadFault.TheVariants.{OutOfBounds, CapIndex, BadOther, BadFar}
use Rattle.rpc_msg.specs.Op.{Op}
use Rattle.rpc_msg.specs.Op.TheVariants as op
use Rattle.rpc_msg.specs.CapAt.TheVariants.{Cap}
use Rattle.capn_reading.specs.declared.pointer.Pointer.{Pointer}
use Rattle.capn_reading.specs.declared.pointer.Pointer.TheVariants as pointer
use Rattle.capn_reading.specs.declared.referent.Content.{Content}
use Rattle.capn_reading.specs.declared.referent.Referent.{Referent}
use Rattle.capn_reading.specs.declared.referent.Referent.TheVariants as referent
use Rattle.capn_reading.specs.declared.layout.Layout.{Layout}
use Rattle.capn_reading.specs.declared.layout.Layout.TheVariants as layout
use Rattle.capn_reading.specs.Pointers.{decoded}
use Rattle.capn_trees.specs.Widths.{bits_of}
use Rattle.capn_reading.specs.Segments.{segment_of, word_at, size_of}
use Rattle.capn_reading.specs.Following.{◌>>=◌, counted_before, visit, pad_words, single_pad, pad_tag, double_pad, pad_at, far, capability, leads, followed, target}
use Rattle.capn_reading.specs.Layouts.{laid, weight}
use Rattle.capn_reading.specs.Framing.{framing}
use Rattle.capn_trees.specs.Trees as tree
use Rattle.capn_trees.specs.Trees.{Tree, Trees, Structs, Elements, pointer_at}
use Rattle.capn_reading.specs.Reading.{Reading, elements, pointers_at, structs_at, content_of, shallow, deep, reading, root_of, message_of}
use Rattle.capn_trees.specs.Limits.{most_levels, most_visited}
use Rattle.rpc_msg.specs.Walking.{capability_at}
use Rattle.capn_reading.specs.Reading.{tree_read}
use Rattle.laws_meanings.specs.WrittenCommands.{NamesItsCaps}

then_ok : {X Y : Type 0} (r : Result X PayloadFault) (f : X → Result Y PayloadFault) (y : Y) → (r >>= f) ≡ Ok y → (x : X) × (r ≡ Ok x) × (f x ≡ Ok y)
then_ok (Ok x) f y e = (x, refl, e)
then_ok (Err d) f y e = absurd cc

firsts : {X : Type 0} (a b : X) (v w : ℕ) (r : Result (X × ℕ) PayloadFault) → r ≡ Ok (a, v) → r ≡ Ok (b, w) → a ≡ b
firsts {X = X} a b v w r d e =
    let p : (a, v) ≡ (b, w) = cc in
    ap (λ (x : X × ℕ). x.0) p

-- ---- Trees

abbrev Within : ℕ → Tree → Type 0
Within caps t = (path : List Op) (i : ℕ) → capability_at t path ≡ Cap i → i < caps

null_within : (caps : ℕ) → Within caps tree.null
null_within caps [] i e = absurd cc
null_within caps (op.Noop ∷ ops) i e = null_within caps ops i e
null_within caps (op.Field n ∷ ops) i e = null_within caps ops i e

list_within : (caps : ℕ) (x : Elements) → Within caps (tree.list x)
list_within caps x [] i e = absurd cc
list_within caps x (op.Noop ∷ ops) i e = list_within caps x ops i e
list_within caps x (op.Field n ∷ ops) i e = absurd cc

cap_within : (caps j : ℕ) → j < caps → Within caps (tree.capability j)
cap_within caps j lt [] i e = let k : j ≡ i = cc in subst (λ (n : ℕ). n < caps) k lt
cap_within caps j lt (op.Noop ∷ ops) i e = cap_within caps j lt ops i e
cap_within caps j lt (op.Field n ∷ ops) i e = absurd cc

struct_within : (caps : ℕ) (ws : List ℕ) (ps : Trees) → ((n : ℕ) → Within caps (pointer_at ps n)) → Within caps (tree.struct ws ps)
struct_within caps ws ps h [] i e = absurd cc
struct_within caps ws ps h (op.Noop ∷ ops) i e = struct_within caps ws ps h ops i e
struct_within caps ws ps h (op.Field n ∷ ops) i e = h n ops i e

in_front : (caps : ℕ) (t : Tree) (ts : Trees) → Within caps t → ((k : ℕ) → Within caps (pointer_at ts k)) → (k : ℕ) → Within caps (pointer_at (tree.tree t ts) k)
in_front caps t ts h g zero = h
in_front caps t ts h g (suc k) = g k

-- ---- What a pointer leads to

abbrev IsOwn : ℕ → Referent → Type 0
IsOwn caps referent.Null = Unit {0}
IsOwn caps (referent.Capability j) = j < caps
IsOwn caps (referent.Content content) = Unit {0}

module _ (caps : ℕ) where
  abbrev Own : Result Referent PayloadFault → Type 0
  Own r = (x : Referent) → r ≡ Ok x → IsOwn caps x

  content_own : (c : Content) → Own (Ok (referent.Content c))
  content_own c x e = let z : referent.Content c ≡ x = cc in subst (IsOwn caps) z tt

  fault_own : (d : PayloadFault) → Own (Err d)
  fault_own d x e = absurd cc

  chosen_own : (b : Bool) (p q : Result Referent PayloadFault) → Own p → Own q → Own (if b then p else q)
  chosen_own true p q h g = h
  chosen_own false p q h g = g

  single_own : (s i : ℕ) (p : Pointer) → Own (single_pad s i p)
  single_own s i (pointer.Content offset shape) = content_own (record { segment = s; start = target i offset; shape = shape })
  single_own s i pointer.Null = fault_own BadFar
  single_own s i (pointer.Far is_double offset segment) = fault_own BadFar
  single_own s i (pointer.Other middle index) = fault_own BadFar

  tag_own : (m : List (List ℕ)) (s i : ℕ) (p : Pointer) → Own (pad_tag m s i p)
  tag_own m s i (pointer.Content offset shape) =
      let c : Content = record { segment = s; start = Some i; shape = shape } in
      chosen_own (offset == 0) (if nat_lt s (length m) then Ok (referent.Content c) else Err OutOfBounds) (Err BadFar)
      (chosen_own (nat_lt s (length m)) (Ok (referent.Content c)) (Err OutOfBounds) (content_own c) (fault_own OutOfBounds)) (fault_own BadFar)
  tag_own m s i pointer.Null = fault_own BadFar
  tag_own m s i (pointer.Far is_double offset segment) = fault_own BadFar
  tag_own m s i (pointer.Other middle index) = fault_own BadFar

  double_own : (m : List (List ℕ)) (p q : Pointer) → Own (double_pad m p q)
  double_own m (pointer.Far false offset segment) q = tag_own m segment offset q
  double_own m (pointer.Far true offset segment) q = fault_own BadFar
  double_own m (pointer.Content offset shape) q = fault_own BadFar
  double_own m pointer.Null q = fault_own BadFar
  double_own m (pointer.Other middle index) q = fault_own BadFar

  pad_own : (m : List (List ℕ)) (d : Bool) (s i : ℕ) → Own (pad_at m d s i)
  pad_own m false s i = single_own s i (decoded (word_at m s i))
  pad_own m true s i = double_own m (decoded (word_at m s i)) (decoded (word_at m s (i + 1)))

  cap_own : (middle index : ℕ) → Own (capability caps middle index)
  cap_own middle index = by (middle == 0) (nat_lt index caps) refl
    where
      by : (b c : Bool) → c ≡ nat_lt index caps → Own (if b then (if c then Ok (referent.Capability index) else Err CapIndex) else Err BadOther)
      by true true t x e = let z : referent.Capability index ≡ x = cc in let lt : index < caps = grind (arith, nat_tests, t) in subst (IsOwn caps) z lt
      by true false t x e = absurd cc
      by false c t x e = absurd cc

  far_own : (m : List (List ℕ)) (d : Bool) (s : ℕ) (o : Option ℕ) (i visited : ℕ) (x : Referent) (after : ℕ) → far m d s o i visited ≡ Ok (x, after) → IsOwn caps x
  unfolding far
  far_own m d s None i visited x after e = absurd cc
  far_own m d s (Some size) i visited x after e = by (nat_lt size (i + pad_words d)) e
    where
      by : (b : Bool) → (if◌then◌else◌ {A = Result (Referent × ℕ) PayloadFault} b (Err OutOfBounds) (visit visited (pad_words d) >>= λ w. pad_at m d s i >>= λ content. Ok (content, w))) ≡ Ok (x, after) → IsOwn caps x
      by true e = absurd cc
      by false e =
          let a = then_ok (visit visited (pad_words d)) (λ w. pad_at m d s i >>= λ content. Ok (content, w)) (x, after) e in
          let b = then_ok (pad_at m d s i) (λ content. Ok (content, a.0)) (x, after) a.2 in
          let z = firsts b.0 x a.0 after (Ok (b.0, a.0)) refl b.2 in
          subst (IsOwn caps) z (pad_own m d s i b.0 b.1)

  leads_own : (m : List (List ℕ)) (s i : ℕ) (p : Pointer) (visited : ℕ) (x : Referent) (after : ℕ) → leads m caps s i p visited ≡ Ok (x, after) → IsOwn caps x
  unfolding leads
  leads_own m s i pointer.Null visited x after e = let z : referent.Null ≡ x = firsts referent.Null x visited after (Ok (referent.Null, visited)) refl e in subst (IsOwn caps) z tt
  leads_own m s i (pointer.Content offset shape) visited x after e =
      let c : Content = record { segment = s; start = target i offset; shape = shape } in
      let z = firsts (referent.Content c) x visited after (Ok (referent.Content c, visited)) refl e in
      subst (IsOwn caps) z tt
  leads_own m s i (pointer.Far is_double offset segment) visited x after e = far_own m is_double segment (size_of m segment) offset visited x after e
  leads_own m s i (pointer.Other middle index) visited x after e =
      let a = then_ok (capability caps middle index) (λ found. Ok (found, visited)) (x, after) e in
      let z = firsts a.0 x visited after (Ok (a.0, visited)) refl a.2 in
      subst (IsOwn caps) z (cap_own middle index a.0 a.1)

  -- ---- Reading

  abbrev Reads : (ℕ → ℕ → ℕ → Reading Tree) → Type 0
  Reads read = (s i visited : ℕ) (t : Tree) (after : ℕ) → read s i visited ≡ Ok (t, after) → Within caps t

  module _ (m : List (List ℕ)) (read : ℕ → ℕ → ℕ → Reading Tree) (h : Reads read) where
    trees_within : (s i n visited : ℕ) (ts : Trees) (after : ℕ) → pointers_at read s i n visited ≡ Ok (ts, after) → (k : ℕ) → Within caps (pointer_at ts k)
    unfolding pointers_at
    trees_within s i zero visited ts after e k =
        let z = firsts tree.no_trees ts visited after (Ok (tree.no_trees, visited)) refl e in
        subst (λ (x : Trees). Within caps (pointer_at x k)) z (null_within caps)
    trees_within s i (suc n) visited ts after e k =
        let a = then_ok (read s i visited) (λ first. pointers_at read s (i + 1) n first.1 >>= λ rest. Ok (tree.tree first.0 rest.0, rest.1)) (ts, after) e in
        let b = then_ok (pointers_at read s (i + 1) n a.0.1) (λ rest. Ok (tree.tree a.0.0 rest.0, rest.1)) (ts, after) a.2 in
        let t = tree.tree a.0.0 b.0.0 in
        let z = firsts t ts b.0.1 after (Ok (t, b.0.1)) refl b.2 in
        subst (λ (x : Trees). Within caps (pointer_at x k)) z
        (in_front caps a.0.0 b.0.0 (h s i visited a.0.0 a.0.1 a.1) (trees_within s (i + 1) n a.0.1 b.0.0 b.0.1 b.1) k)

    content_within : (s : ℕ) (x : Layout) (visited : ℕ) (t : Tree) (after : ℕ) → content_of m read s x visited ≡ Ok (t, after) → Within caps t
    unfolding content_of
    content_within s (layout.Struct start d p) visited t after e =
        let ws = take d (drop start (segment_of m s)) in
        let a = then_ok (pointers_at read s (start + d) p visited) (λ found. Ok (tree.struct ws found.0, found.1)) (t, after) e in
        let x = tree.struct ws a.0.0 in
        let z = firsts x t a.0.1 after (Ok (x, a.0.1)) refl a.2 in
        subst (Within caps) z (struct_within caps ws a.0.0 (trees_within s (start + d) p visited a.0.0 a.0.1 a.1))
    content_within s (layout.Packed start width count) visited t after e =
        let x = tree.packed (bits_of width) (elements (drop start (segment_of m s)) (bits_of width) 0 count) in
        let z = firsts (tree.list x) t visited after (Ok (tree.list x, visited)) refl e in
        subst (Within caps) z (list_within caps x)
    content_within s (layout.Pointers start count) visited t after e =
        let a = then_ok (pointers_at read s start count visited) (λ found. Ok (tree.list (tree.pointers found.0), found.1)) (t, after) e in
        let x = tree.list (tree.pointers a.0.0) in
        let z = firsts x t a.0.1 after (Ok (x, a.0.1)) refl a.2 in
        subst (Within caps) z (list_within caps (tree.pointers a.0.0))
    content_within s (layout.Structs start count d p words) visited t after e =
        let a = then_ok (structs_at m read s d p start count visited) (λ found. Ok (tree.list (tree.structs d p found.0), found.1)) (t, after) e in
        let x = tree.list (tree.structs d p a.0.0) in
        let z = firsts x t a.0.1 after (Ok (x, a.0.1)) refl a.2 in
        subst (Within caps) z (list_within caps (tree.structs d p a.0.0))

    deep_within : (r : Referent) (visited : ℕ) (t : Tree) (after : ℕ) → IsOwn caps r → deep m read r visited ≡ Ok (t, after) → Within caps t
    unfolding deep
    deep_within referent.Null visited t after own e = let z = firsts tree.null t visited after (Ok (tree.null, visited)) refl e in subst (Within caps) z (null_within caps)
    deep_within (referent.Capability j) visited t after own e = let z = firsts (tree.capability j) t visited after (Ok (tree.capability j, visited)) refl e in subst (Within caps) z (cap_within caps j own)
    deep_within (referent.Content c) visited t after own e =
        let a = then_ok (laid m c) (λ place. visit visited (weight place) >>= λ w. content_of m read c.segment place w) (t, after) e in
        let b = then_ok (visit visited (weight a.0)) (λ w. content_of m read c.segment a.0 w) (t, after) a.2 in
        content_within c.segment a.0 b.0 t after b.2

  shallow_within : (r : Referent) (visited : ℕ) (t : Tree) (after : ℕ) → IsOwn caps r → shallow r visited ≡ Ok (t, after) → Within caps t
  unfolding shallow
  shallow_within referent.Null visited t after own e = let z = firsts tree.null t visited after (Ok (tree.null, visited)) refl e in subst (Within caps) z (null_within caps)
  shallow_within (referent.Capability j) visited t after own e = let z = firsts (tree.capability j) t visited after (Ok (tree.capability j, visited)) refl e in subst (Within caps) z (cap_within caps j own)
  shallow_within (referent.Content c) visited t after own e = absurd cc

  all_within : (m : List (List ℕ)) (levels : ℕ) → Reads (reading m caps levels)
  unfolding reading
  all_within m zero s i visited t after e =
      let a = then_ok (followed m caps s i visited) (λ found. shallow found.0 found.1) (t, after) e in
      shallow_within a.0.0 a.0.1 t after (leads_own m s i (decoded (word_at m s i)) visited a.0.0 a.0.1 a.1) a.2
  all_within m (suc levels) s i visited t after e =
      let a = then_ok (followed m caps s i visited) (λ found. deep m (reading m caps levels) found.0 found.1) (t, after) e in
      deep_within m (reading m caps levels) (all_within m levels) a.0.0 a.0.1 t after (leads_own m s i (decoded (word_at m s i)) visited a.0.0 a.0.1 a.1) a.2

  root_within : (m : List (List ℕ)) (t : Tree) (after : ℕ) → root_of m caps ≡ Ok (t, after) → Within caps t
  unfolding root_of
  root_within m t after e = by (length (segment_of m 0) == 0) e
    where
      by : (b : Bool) → (if b then Err OutOfBounds else reading m caps most_levels 0 0 (counted_before most_visited)) ≡ Ok (t, after) → Within caps t
      by true e = absurd cc
      by false e = all_within m most_levels 0 0 (counted_before most_visited) t after e

  message_within : (bytes : List ℕ) (t : Tree) (after : ℕ) → message_of bytes caps ≡ Ok (t, after) → Within caps t
  unfolding message_of
  message_within bytes t after e =
      let a = then_ok (framing bytes) (λ m. root_of m caps) (t, after) e in
      root_within a.0 t after a.2

  read_within : (r : Reading Tree) → ((t : Tree) (after : ℕ) → r ≡ Ok (t, after) → Within caps t) → Within caps (tree_read r)
  read_within (Ok x) h = h x.0 x.1 refl
  read_within (Err e) h = null_within caps

pub names_its_caps : NamesItsCaps
names_its_caps p path i e = read_within p.caps (message_of p.bytes p.caps) (message_within p.caps p.bytes) path i e
