-- More bytes come of a frame.
use Rattle.std.proofs.Common.{◌≡◌, ◌⊎◌, ℕ, zero, suc, ◌+◌, ◌-◌, ◌*◌, ◌<◌, ◌≤◌, List, ◌∷◌, ◌++◌, length, take, drop, sum, refl, sym, ap, subst, ◌∙◌, arith, inl, inr, length-append, nat_cmp, Ok, Err}
use Rattle.std.specs.Ordering.{ord_min}
use Rattle.std.proofs.lemmas.List.{drop-append-le, length-drop, length-take, take_all}
use Rattle.std.proofs.lemmas.Bool.Decides.{nat_tests}
use Rattle.std.proofs.lemmas.Bool.{cases_lt}
use Rattle.byteorder.specs.Endian.{little_number}
use Rattle.byteorder.specs.Numbers.{little_from-append}
use Rattle.capn_trees.specs.declared.faults.PayloadFault.{PayloadFault}
use Rattle.capn_reading.specs.Segments.{numbers, little_numbers}
use Rattle.capn_reading.specs.Framing.{segment_count, sizes, table_words}
use Rattle.capn_stream.specs.declared.error.StreamError.TheVariants as error
use Rattle.capn_stream.specs.declared.front.Front.{Front}
use Rattle.capn_stream.specs.declared.front.Front.TheVariants.{Complete, Need, Fault}
use Rattle.capn_fronts.specs.Parts.{Part, IsGrown, IsHeld, IsHeldAt, count_of, front_at, front_of, keeps_at, keeps_of, kept_at, nothing}
use Rattle.capn_fronts.specs.Readers.{Pushed, PushedBy, Takes, TakesBy, added, added_by}
use Rattle.capn_fronts.proofs.Numbers as figures
use Rattle.capn_fronts.proofs.Held.{Dropped, dropped}

pub count_stays : (a b : List ℕ) → 4 ≤ length a → segment_count (a ++ b) ≡ segment_count a
unfolding segment_count
count_stays a b there = ap (λ (n : ℕ). n + 1) (little_from-append 4 a b there)

count_some : (a : List ℕ) → 1 ≤ segment_count a
unfolding segment_count
count_some a = omega arith

numbers_stay : (n : ℕ) (a b : List ℕ) → 4 * n ≤ length a → numbers n (a ++ b) ≡ numbers n a
unfolding little_numbers
numbers_stay zero a b there = refl
numbers_stay (suc n) a b there =
    let first : 4 ≤ length a = omega arith in
    let rest : 4 * n ≤ length (drop 4 a) = omega (arith, length-drop 4 a) in
    ap (λ (x : ℕ). x ∷ numbers n (drop 4 (a ++ b))) (little_from-append 4 a b first)
    ∙ ap (λ (t : List ℕ). little_number 4 a ∷ numbers n t) (drop-append-le 4 a b first)
    ∙ ap (λ (t : List ℕ). little_number 4 a ∷ t) (numbers_stay n (drop 4 a) b rest)

pub sizes_stay : (a b : List ℕ) → 4 + 4 * segment_count a ≤ length a → sizes (a ++ b) ≡ sizes a
unfolding sizes
sizes_stay a b there =
    let first : 4 ≤ length a = omega arith in
    let rest : 4 * segment_count a ≤ length (drop 4 a) = omega (arith, length-drop 4 a) in
    ap (λ (n : ℕ). numbers n (drop 4 (a ++ b))) (count_stays a b first)
    ∙ ap (λ (t : List ℕ). numbers (segment_count a) t) (drop-append-le 4 a b first)
    ∙ numbers_stay (segment_count a) (drop 4 a) b rest

-- ---- the numbers before and after: kl bytes are kept, d were dropped, lm more come, and t of them are kept, as room is

pub record After (kl d n w : ℕ) : Type 0 where
  pub exact : (m : ℕ) → front_at (kl + d) n w ≡ Complete m → m ≡ kl + d
  pub few : kl ≤ keeps_at (kl + d) n w
  pub full : (d ≡ 0) ⊎ (kl ≡ keeps_at (kl + d) n w)
  pub table : (d ≡ 0) ⊎ (72 ≤ kl)
  pub small : d ≤ 8 * 8388617

-- the first four bytes
first : (kl d n w : ℕ) → d ≡ 0 → kl ≤ 4 → 1 ≤ n → After kl d n w
first kl d n w none less some = record {
  exact = λ m e. let t = figures.complete_table (kl + d) n w m e in absurd (omega (arith, t, none, less, some));
  few = elim (cases_lt (kl + d) 4) [
    | inl before ↦ let k = figures.keeps_first (kl + d) n w before in omega (arith, k, less)
    | inr counts ↦ elim (cases_lt 16 n) [
      | inl many ↦ let k = figures.keeps_many (kl + d) n w counts many in omega (arith, k, less)
      | inr few ↦ let k = figures.keeps_table (kl + d) n w counts few (omega (arith, none, less, some)) in omega (arith, k, less, some)
    ]
  ];
  full = inl none;
  table = inl none;
  small = omega (arith, none);
}

-- the table
table : (kl d n w : ℕ) → d ≡ 0 → 4 ≤ kl → n ≤ 16 → kl ≤ 8 * table_words n → After kl d n w
table kl d n w none counts few within = record {
  exact = λ m e. let is = figures.complete_is (kl + d) n w m e in let there = figures.complete_there (kl + d) n w m e in omega (arith, is, there, none, within);
  few = elim (cases_lt (kl + d) (8 * table_words n)) [
    | inl before ↦ let k = figures.keeps_table (kl + d) n w (omega (arith, counts)) few before in omega (arith, k, within)
    | inr there ↦ elim (cases_lt 65536 w) [
      | inl large ↦ let k = figures.keeps_then (kl + d) n w (omega (arith, counts)) few there ∙ figures.kept_front n w large in omega (arith, k, within)
      | inr all ↦ let k = figures.keeps_then (kl + d) n w (omega (arith, counts)) few there ∙ figures.kept_all n w all in omega (arith, k, within)
    ]
  ];
  full = inl none;
  table = inl none;
  small = omega (arith, none);
}

-- what stands behind it
behind : (kl d n w : ℕ) → n ≤ 16 → 8 * table_words n ≤ kl → w ≤ 8388608 → kl + d ≤ 8 * (table_words n + w) → kl ≤ kept_at n w → (d ≡ 0) ⊎ (kl ≡ kept_at n w) → 1 ≤ n → After kl d n w
behind kl d n w few there small within held full some =
    let keeps = figures.keeps_then (kl + d) n w (omega (arith, there, some)) few (omega (arith, there)) in
    record {
      exact = λ m e. let is = figures.complete_is (kl + d) n w m e in let reached = figures.complete_there (kl + d) n w m e in omega (arith, is, reached, within);
      few = omega (arith, held, keeps);
      full = elim full [
        | inl none ↦ inl none
        | inr all ↦ inr (all ∙ sym keeps)
      ];
      table = elim full [
        | inl none ↦ inl none
        | inr all ↦ elim (cases_lt 65536 w) [
          | inl large ↦ let k = all ∙ figures.kept_front n w large in inr (omega (arith, k))
          | inr whole ↦ let k = all ∙ figures.kept_all n w whole in inl (omega (arith, k, within))
        ]
      ];
      small = omega (arith, within, small, few);
    }

module _ (kl d n w lm t k n' w' : ℕ) (need : front_at (kl + d) n w ≡ Need k) (few : kl ≤ keeps_at (kl + d) n w) (full : (d ≡ 0) ⊎ (kl ≡ keeps_at (kl + d) n w))
    (large : 0 < d → Dropped (kl + d) kl n w) (less : lm ≤ k - (kl + d))
    (part : ((t ≡ lm) × (lm ≤ keeps_at (kl + d) n w - kl)) ⊎ ((t ≡ keeps_at (kl + d) n w - kl) × (keeps_at (kl + d) n w - kl ≤ lm)))
    (some : 1 ≤ n) (some' : 1 ≤ n') (same_n : 4 ≤ kl → n' ≡ n) (same_w : 4 + 4 * n ≤ kl → w' ≡ w) where
  abbrev room : ℕ
  room = keeps_at (kl + d) n w - kl

  abbrev Grown : Type 0
  Grown = After (kl + t) (d + (lm - room)) n' w'

  none_dropped : (0 < d → ⊥) → d ≡ 0
  none_dropped not = elim (cases_lt 0 d) [
    | inl more ↦ absurd (not more)
    | inr none ↦ omega (arith, none)
  ]

  in_first : kl + d < 4 → Grown
  in_first before =
      let none = none_dropped (λ more. let c = (large more).counts in omega (arith, c, before)) in
      let is = figures.need_first (kl + d) n w k need before in
      let keeps = figures.keeps_first (kl + d) n w before in
      elim part [
        | inl all ↦ let a = all.0 in let b = all.1 in first (kl + t) (d + (lm - room)) n' w' (omega (arith, none, b)) (omega (arith, none, a, less, is, before)) some'
        | inr cut ↦ let a = cut.0 in let b = cut.1 in first (kl + t) (d + (lm - room)) n' w' (omega (arith, none, a, b, less, is, keeps)) (omega (arith, none, a, b, less, is, keeps, before)) some'
      ]

  in_table : 4 ≤ kl + d → kl + d < 8 * table_words n → Grown
  in_table counts before =
      let none = none_dropped (λ more. let c = (large more).table in omega (arith, c, before)) in
      let few_segments = figures.need_few (kl + d) n w k need counts in
      let is = figures.need_table (kl + d) n w k need counts before in
      let keeps = figures.keeps_table (kl + d) n w counts few_segments before in
      let same : n' ≡ n = same_n (omega (arith, counts, none)) in
      elim part [
        | inl all ↦ let a = all.0 in let b = all.1 in
            table (kl + t) (d + (lm - room)) n' w' (omega (arith, none, b)) (omega (arith, counts, none)) (omega (arith, same, few_segments)) (omega (arith, none, a, less, is, before, same))
        | inr cut ↦ let a = cut.0 in let b = cut.1 in
            table (kl + t) (d + (lm - room)) n' w' (omega (arith, none, a, b, less, is, keeps)) (omega (arith, counts, none)) (omega (arith, same, few_segments)) (omega (arith, none, a, b, less, is, keeps, before, same))
      ]

  table_kept : 4 ≤ kl + d → 8 * table_words n ≤ kl + d → 8 * table_words n ≤ kl
  table_kept counts there = elim (cases_lt 0 d) [
    | inl more ↦ (large more).table
    | inr none ↦ omega (arith, none, there)
  ]

  in_behind : 4 ≤ kl + d → 8 * table_words n ≤ kl + d → Grown
  in_behind counts there =
      let few_segments = figures.need_few (kl + d) n w k need counts in
      let is = figures.need_whole (kl + d) n w k need counts there in
      let small = figures.need_small (kl + d) n w k need counts there in
      let keeps = figures.keeps_then (kl + d) n w counts few_segments there in
      let kept = table_kept counts there in
      let more = figures.need_more (kl + d) n w k need in
      let same : n' ≡ n = same_n (omega (arith, kept, some)) in
      let same_words : w' ≡ w = same_w (omega (arith, kept)) in
      subst (λ (m : ℕ). After (kl + t) (d + (lm - room)) m w') (sym same)
      (subst (λ (m : ℕ). After (kl + t) (d + (lm - room)) n m) (sym same_words)
      (elim part [
        | inl all ↦ let a = all.0 in let b = all.1 in
            behind (kl + t) (d + (lm - room)) n w few_segments (omega (arith, kept)) small (omega (arith, a, b, less, is, more)) (omega (arith, a, b, few, keeps))
            (elim full [
              | inl none ↦ inl (omega (arith, none, b))
              | inr all_kept ↦ inr (omega (arith, a, b, all_kept, keeps))
            ]) some
        | inr cut ↦ let a = cut.0 in let b = cut.1 in
            behind (kl + t) (d + (lm - room)) n w few_segments (omega (arith, kept)) small (omega (arith, a, b, less, is, more)) (omega (arith, a, few, keeps)) (inr (omega (arith, a, few, keeps))) some
      ]))

  pub grows : Grown
  grows = elim (cases_lt (kl + d) 4) [
    | inl before ↦ in_first before
    | inr counts ↦ elim (cases_lt (kl + d) (8 * table_words n)) [
      | inl before ↦ in_table counts before
      | inr there ↦ in_behind counts there
    ]
  ]

-- ---- parts

part_of : (room : ℕ) (more : List ℕ) → ((length (take room more) ≡ length more) × (length more ≤ room)) ⊎ ((length (take room more) ≡ room) × (room ≤ length more))
part_of room more = elim (cases_lt room (length more)) [
  | inl less ↦ inr (omega (arith, less, length-take room more), omega (arith, less))
  | inr all ↦ inl (omega (arith, all, length-take room more), all)
]

after_is : (p : Part) (kl d n w : ℕ) → length p.kept ≡ kl → p.dropped ≡ d → segment_count p.kept ≡ n → sum (sizes p.kept) ≡ w → After kl d n w → IsGrown p
unfolding front_of keeps_of
after_is p kl d n w kl_is d_is n_is w_is after =
    let here : After (length p.kept) p.dropped (segment_count p.kept) (sum (sizes p.kept)) =
    subst (λ (x : ℕ). After x p.dropped (segment_count p.kept) (sum (sizes p.kept))) (sym kl_is)
    (subst (λ (x : ℕ). After kl x (segment_count p.kept) (sum (sizes p.kept))) (sym d_is)
    (subst (λ (x : ℕ). After kl d x (sum (sizes p.kept))) (sym n_is)
    (subst (λ (x : ℕ). After kl d n x) (sym w_is) after))) in
    record { exact = here.exact; few = here.few; full = here.full; table = here.table; small = here.small }

pub grown : (p : Part) (more : List ℕ) (k : ℕ) → IsHeld p → front_of p ≡ Need k → length more ≤ k - count_of p → IsGrown (added p more)
unfolding front_of keeps_of
grown p more k held need less =
    let room = keeps_of p - length p.kept in
    let kept = p.kept ++ take room more in
    after_is (added p more) (length p.kept + length (take room more)) (p.dropped + (length more - room)) (segment_count kept) (sum (sizes kept))
    (length-append p.kept (take room more)) refl refl refl
    (grows (length p.kept) p.dropped (segment_count p.kept) (sum (sizes p.kept)) (length more) (length (take room more)) k (segment_count kept) (sum (sizes kept))
    need held.few held.full (λ some. dropped p held some) less (part_of room more) (count_some p.kept) (count_some kept)
    (λ there. count_stays p.kept (take room more) there) (λ there. ap sum (sizes_stay p.kept (take room more) there)))

held_at : (len : ℕ) (f : Front) → ((n : ℕ) → f ≡ Complete n → n ≡ len) → ((g : PayloadFault) → f ≡ Fault g → ⊥) → IsHeldAt len f
held_at len (Complete n) exact sound = exact n refl
held_at len (Need n) exact sound = tt
held_at len (Fault g) exact sound = absurd (sound g refl)

-- What has grown and is not at fault is held.
pub grown_held : (p : Part) → IsGrown p → ((g : PayloadFault) → front_of p ≡ Fault g → ⊥) → IsHeld p
grown_held p is sound = record { held = held_at (count_of p) (front_of p) is.exact sound; few = is.few; full = is.full }

-- ---- a piece is pushed

least : (a b m : ℕ) → m ≡ ord_min nat_cmp a b → (m ≤ a) × (m ≤ b)
least a b m e = (grind (arith, nat_tests), grind (arith, nat_tests))

some_least : (a b m : ℕ) → m ≡ ord_min nat_cmp a b → 0 < a → 0 < b → 0 < m
some_least a b m e some more = grind (arith, nat_tests)

is_one : (a b m : ℕ) → m ≡ ord_min nat_cmp a b → (m ≡ a) ⊎ ((m ≡ b) × (b ≤ a))
is_one a b m e = elim (cases_lt a b) [
  | inl less ↦ inl (grind (arith, nat_tests))
  | inr within ↦ inr (grind (arith, nat_tests), within)
]

pub held_more : (p : Part) (k : ℕ) → front_of p ≡ Need k → count_of p < k
unfolding front_of
held_more p k need = figures.need_more (count_of p) (segment_count p.kept) (sum (sizes p.kept)) k need

same_part : (wanted taken : ℕ) (piece : List ℕ) → taken ≡ ord_min nat_cmp wanted (length piece) → take taken piece ≡ take wanted piece
same_part wanted taken piece e = elim (is_one wanted (length piece) taken e) [
  | inl same ↦ ap (λ (m : ℕ). take m piece) same
  | inr all ↦ let a = all.0 in let b = all.1 in take_all taken piece (omega (arith, a)) ∙ sym (take_all wanted piece b)
]

pub record Added (p : Part) (piece : List ℕ) (k taken : ℕ) (new : Part) : Type 0 where
  pub is : new ≡ added p (take (k - count_of p) piece)
  pub grown : IsGrown new
  pub count : length (take (k - count_of p) piece) ≡ taken
  pub within : taken ≤ length piece
  pub some : 0 < length piece → 0 < taken

pub adds : (p : Part) (piece : List ℕ) (k keeps taken : ℕ) (new : Part) → IsHeld p → front_of p ≡ Need k → keeps ≡ keeps_of p → taken ≡ ord_min nat_cmp (k - count_of p) (length piece)
    → new ≡ added_by (keeps - length p.kept) p (take taken piece) → Added p piece k taken new
adds p piece k keeps taken new held need keeps_is taken_is new_is =
    let wanted = k - count_of p in
    let bounds = least wanted (length piece) taken taken_is in
    let first_bound = bounds.0 in
    let last_bound = bounds.1 in
    let part = same_part wanted taken piece taken_is in
    let is : new ≡ added p (take wanted piece) = new_is ∙ ap (λ (n : ℕ). added_by (n - length p.kept) p (take taken piece)) keeps_is ∙ ap (λ (more : List ℕ). added p more) part in
    let count : length (take wanted piece) ≡ taken = ap length (sym part) ∙ (let t = length-take taken piece in omega (arith, t, last_bound)) in
    let less : length (take wanted piece) ≤ wanted = omega (arith, count, first_bound) in
    let more = held_more p k need in
    record {
      is = is;
      grown = subst IsGrown (sym is) (grown p (take wanted piece) k held need less);
      count = count;
      within = last_bound;
      some = λ some. some_least wanted (length piece) taken taken_is (omega (arith, more)) some;
    }

takes_ok : (f : Front) (count : ℕ) (p : Part) → ((g : PayloadFault) → f ≡ Fault g → ⊥) → TakesBy f count p (Ok count) p
takes_ok (Complete n) count p sound = (refl, refl)
takes_ok (Need n) count p sound = (refl, refl)
takes_ok (Fault g) count p sound = absurd (sound g refl)

pub pushed_ok : (p : Part) (piece : List ℕ) (k taken : ℕ) (new : Part) → front_of p ≡ Need k → Added p piece k taken new → ((g : PayloadFault) → front_of new ≡ Fault g → ⊥) → Pushed p piece (Ok taken) new
pushed_ok p piece k taken new need adding sound =
    let more = take (k - count_of p) piece in
    let takes : Takes p more (Ok (length more)) (added p more) = takes_ok (front_of (added p more)) (length more) (added p more) (λ g e. sound g (ap front_of adding.is ∙ e)) in
    inl (subst (λ (f : Front). PushedBy f p piece (Ok taken) new) (sym need)
    (subst (λ (n : ℕ). Takes p more (Ok n) new) adding.count (subst (λ (q : Part). Takes p more (Ok (length more)) q) (sym adding.is) takes)))

pub pushed_fault : (p : Part) (piece : List ℕ) (k taken : ℕ) (new : Part) (g : PayloadFault) → front_of p ≡ Need k → Added p piece k taken new → front_of new ≡ Fault g → Pushed p piece (Err (error.Fault g)) nothing
pushed_fault p piece k taken new g need adding fault =
    let more = take (k - count_of p) piece in
    let at : front_of (added p more) ≡ Fault g = ap front_of (sym adding.is) ∙ fault in
    inl (subst (λ (f : Front). PushedBy f p piece (Err (error.Fault g)) nothing) (sym need)
    (subst (λ (f : Front). TakesBy f (length more) (added p more) (Err (error.Fault g)) nothing) (sym at) (refl, refl)))
