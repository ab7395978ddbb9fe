-- What is held of a frame.
use Rattle.std.proofs.Common.{◌≡◌, ◌⊎◌, ℕ, ◌+◌, ◌*◌, ◌<◌, ◌≤◌, length, sum, refl, sym, ap, subst, ◌∙◌, arith, inl, inr}
use Rattle.std.proofs.lemmas.Bool.{cases_lt}
use Rattle.capn_reading.specs.Framing.{segment_count, sizes, table_words}
use Rattle.capn_stream.specs.declared.front.Front.{Front}
use Rattle.capn_stream.specs.declared.front.Front.TheVariants.{Complete, Need, Fault}
use Rattle.capn_stream.specs.Fronts.{IsFrame, front_at as stream_front_at, front_of as stream_front_of}
use Rattle.capn_stream.proofs.Numbers as stream
use Rattle.capn_fronts.specs.Parts.{Part, IsHeld, IsHeldAt, IsWhole, IsShort, count_of, front_at, front_of, keeps_at, keeps_of, kept_at, nothing}
use Rattle.capn_fronts.specs.Laws.{KeepsTheFront}
use Rattle.capn_fronts.proofs.Numbers as numbers

by : (len : ℕ) (f : Front) → IsHeldAt len f → (f ≡ Complete len) ⊎ ((k : ℕ) × (f ≡ Need k))
by len (Complete n) is = inl (ap Complete is)
by len (Need n) is = inr (n, refl)
by len (Fault f) is = absurd is

-- What is dropped is dropped behind the front of a large frame.
pub record Dropped (len kl n w : ℕ) : Type 0 where
  pub counts : 4 ≤ len
  pub few : n ≤ 16
  pub table : 8 * table_words n ≤ kl
  pub large : 65536 < w
  pub small : len ≤ 8 * (table_words n + 8388608)
  pub kept : kl ≡ 8 * (table_words n + 1024)

module _ (kl d n w : ℕ) (some : 0 < d) (full : kl ≡ keeps_at (kl + d) n w) where
  abbrev len : ℕ
  len = kl + d

  -- the table is there, and the frame is large
  then : (k : ℕ) → 4 ≤ len → n ≤ 16 → (len < 8 * table_words n → ⊥) → w ≤ 8388608 → k ≡ 8 * (table_words n + w) → len ≤ k → Dropped len kl n w
  then k counts few there small is within =
      elim (cases_lt len (8 * table_words n)) [
        | inl less ↦ absurd (there less)
        | inr table ↦
            let e : kl ≡ kept_at n w = full ∙ numbers.keeps_then len n w counts few table in
            elim (cases_lt 65536 w) [
              | inl large ↦ let f = e ∙ numbers.kept_front n w large in record { counts = counts; few = few; table = omega (arith, f); large = large; small = omega arith; kept = f }
              | inr all ↦ let f = e ∙ numbers.kept_all n w all in absurd (omega (arith, f, is, within))
            ]
      ]

  not_table : 4 ≤ len → n ≤ 16 → len < 8 * table_words n → ⊥
  not_table counts few less = let e = full ∙ numbers.keeps_table len n w counts few less in omega (arith, e)

  not_first : len < 4 → ⊥
  not_first less = let e = full ∙ numbers.keeps_first len n w less in omega (arith, e)

  pub dropped_complete : front_at len n w ≡ Complete len → Dropped len kl n w
  dropped_complete e =
      let counts = numbers.complete_counts len n w len e in
      let few = numbers.complete_few len n w len e in
      then len counts few (not_table counts few) (numbers.complete_small len n w len e) (numbers.complete_is len n w len e) (omega arith)

  pub dropped_need : (k : ℕ) → front_at len n w ≡ Need k → Dropped len kl n w
  dropped_need k e =
      elim (cases_lt len 4) [
        | inl less ↦ absurd (not_first less)
        | inr counts ↦
            let few = numbers.need_few len n w k e counts in
            elim (cases_lt len (8 * table_words n)) [
              | inl less ↦ absurd (not_table counts few less)
              | inr table ↦ then k counts few (not_table counts few) (numbers.need_small len n w k e counts table) (numbers.need_whole len n w k e counts table) (let more = numbers.need_more len n w k e in omega (arith, more))
            ]
      ]

-- ---- parts

full_is : (p : Part) → 0 < p.dropped → (p.dropped ≡ 0) ⊎ (length p.kept ≡ keeps_of p) → length p.kept ≡ keeps_of p
full_is p some (inl none) = absurd (omega (arith, none))
full_is p some (inr full) = full

pub dropped : (p : Part) → IsHeld p → 0 < p.dropped → Dropped (count_of p) (length p.kept) (segment_count p.kept) (sum (sizes p.kept))
unfolding front_of keeps_of
dropped p held some =
    let full = full_is p some held.full in
    elim (by (count_of p) (front_of p) held.held) [
      | inl e ↦ dropped_complete (length p.kept) p.dropped (segment_count p.kept) (sum (sizes p.kept)) some full e
      | inr need ↦ dropped_need (length p.kept) p.dropped (segment_count p.kept) (sum (sizes p.kept)) some full need.0 need.1
    ]

pub whole_held : (p : Part) → IsWhole p → IsHeld p
whole_held p whole = record { held = subst (IsHeldAt (count_of p)) (sym whole.whole) refl; few = whole.few; full = whole.full }

pub held_whole : (p : Part) (n : ℕ) → IsHeld p → front_of p ≡ Complete n → IsWhole p
held_whole p n held e =
    let is : n ≡ count_of p = subst (IsHeldAt (count_of p)) e held.held in
    record { whole = e ∙ ap Complete is; few = held.few; full = held.full }

pub held_short : (p : Part) → IsHeld p → ((n : ℕ) → front_of p ≡ Complete n → ⊥) → IsShort (front_of p)
held_short p held not = elim (by (count_of p) (front_of p) held.held) [
  | inl e ↦ absurd (not (count_of p) e)
  | inr need ↦ subst IsShort (sym need.1) tt
]

pub table_there : (p : Part) → IsHeld p → (p.dropped ≡ 0) ⊎ (72 ≤ length p.kept)
table_there p held = elim (cases_lt 0 p.dropped) [
  | inl some ↦ let d = dropped p held some in let kept = d.kept in inr (omega (arith, kept))
  | inr none ↦ inl (omega (arith, none))
]

pub few_dropped : (p : Part) → IsHeld p → p.dropped ≤ 8 * 8388617
few_dropped p held = elim (cases_lt 0 p.dropped) [
  | inl some ↦ let d = dropped p held some in let small = d.small in let few = d.few in omega (arith, small, few)
  | inr none ↦ omega (arith, none)
]

keeps_few_by : (len n w : ℕ) (f : Front) → front_at len n w ≡ f → IsHeldAt len f → keeps_at len n w ≤ 72 + 8 * 65536
keeps_few_by len n w f e held = elim (cases_lt len 4) [
  | inl less ↦ let k = numbers.keeps_first len n w less in omega (arith, k)
  | inr counts ↦ elim (cases_lt 16 n) [
    | inl many ↦ let k = numbers.keeps_many len n w counts many in omega (arith, k)
    | inr few ↦ elim (cases_lt len (8 * table_words n)) [
      | inl less ↦ let k = numbers.keeps_table len n w counts few less in omega (arith, k)
      | inr there ↦ elim (cases_lt 65536 w) [
        | inl large ↦ let k = numbers.keeps_then len n w counts few there ∙ numbers.kept_front n w large in omega (arith, k)
        | inr all ↦ let k = numbers.keeps_then len n w counts few there ∙ numbers.kept_all n w all in omega (arith, k)
      ]
    ]
  ]
]

pub few_kept : (p : Part) → IsHeld p → length p.kept ≤ 72 + 8 * 65536
unfolding front_of keeps_of
few_kept p held =
    let most = keeps_few_by (count_of p) (segment_count p.kept) (sum (sizes p.kept)) (front_of p) refl held.held in
    let few = held.few in
    omega (arith, most, few)

pub nothing_held : IsHeld nothing
unfolding front_of keeps_of
nothing_held = record { held = tt; few = omega arith; full = inl refl }

pub nothing_short : IsShort (front_of nothing)
unfolding front_of
nothing_short = tt

-- ---- what is kept of a whole frame

whole_by : (kl d n w : ℕ) → front_at (kl + d) n w ≡ Complete (kl + d) → kl ≤ keeps_at (kl + d) n w → 65536 < w → 0 < d
whole_by kl d n w e few large =
    let counts = numbers.complete_counts (kl + d) n w (kl + d) e in
    let segments = numbers.complete_few (kl + d) n w (kl + d) e in
    let table = numbers.complete_table (kl + d) n w (kl + d) e in
    let is = numbers.complete_is (kl + d) n w (kl + d) e in
    let keeps = numbers.keeps_then (kl + d) n w counts segments table ∙ numbers.kept_front n w large in
    omega (arith, is, keeps, few, large)

-- one that is not large is kept whole
small_by : (kl d n w : ℕ) → front_at (kl + d) n w ≡ Complete (kl + d) → (d ≡ 0) ⊎ (kl ≡ keeps_at (kl + d) n w) → w ≤ 65536 → d ≡ 0
small_by kl d n w e (inl none) small = none
small_by kl d n w e (inr full) small =
    let counts = numbers.complete_counts (kl + d) n w (kl + d) e in
    let segments = numbers.complete_few (kl + d) n w (kl + d) e in
    let table = numbers.complete_table (kl + d) n w (kl + d) e in
    let is = numbers.complete_is (kl + d) n w (kl + d) e in
    let keeps = numbers.keeps_then (kl + d) n w counts segments table ∙ numbers.kept_all n w small in
    omega (arith, is, keeps, full)

front_is : (kl d n w : ℕ) → d ≡ 0 → front_at (kl + d) n w ≡ Complete (kl + d) → w ≤ 65536 → stream_front_at kl n w ≡ Complete kl
front_is kl d n w none e small =
    let counts = numbers.complete_counts (kl + d) n w (kl + d) e in
    let segments = numbers.complete_few (kl + d) n w (kl + d) e in
    let table = numbers.complete_table (kl + d) n w (kl + d) e in
    let is = numbers.complete_is (kl + d) n w (kl + d) e in
    let whole : 8 * (table_words n + w) ≡ kl = omega (arith, is, none) in
    stream.is_complete kl n w 0 (omega (arith, counts, none)) segments small (omega (arith, whole)) ∙ ap Complete whole

-- What is kept whole is a frame of a message.
pub whole_frame : (p : Part) → IsWhole p → p.dropped ≡ 0 → IsFrame p.kept
unfolding front_of keeps_of stream_front_of
whole_frame p whole none =
    let n = segment_count p.kept in
    let w = sum (sizes p.kept) in
    elim (cases_lt 65536 w) [
      | inl large ↦ let some = whole_by (length p.kept) p.dropped n w whole.whole whole.few large in absurd (omega (arith, some, none))
      | inr small ↦ front_is (length p.kept) p.dropped n w none whole.whole small
    ]

pub keeps : KeepsTheFront
unfolding front_of keeps_of
keeps p whole =
    let n = segment_count p.kept in
    let w = sum (sizes p.kept) in
    elim (cases_lt 65536 w) [
      | inl large ↦
          let some = whole_by (length p.kept) p.dropped n w whole.whole whole.few large in
          inr (some, large, (dropped p (whole_held p whole) some).kept)
      | inr small ↦ inl (small_by (length p.kept) p.dropped n w whole.whole whole.full small, small)
    ]
