-- What a search finds among entries by rising id, and that an edit at that place is the map's insert.
use Rattle.std.proofs.Common.{◌≡◌, ℕ, zero, suc, ◌+◌, ◌<◌, ◌≤◌, Bool, true, false, cond, ◌&&◌, T, List, [], ◌∷◌, ◌++◌, length, set, Result, Ok, Err, IfOk, IfErr, refl, sym, ap, subst, ◌∙◌, arith}
use Rattle.std.specs.declared.cmp.Ordering.{Ordering}
use Rattle.std.specs.declared.cmp.Ordering.TheVariants.{Less, Equal, Greater}
use Rattle.std.specs.List.{insert}
use Rattle.std.specs.List.Sorted.{IsSearchInRange, IsBinarySearchResult, IsNonDecreasingBy}
use Rattle.std.specs.Ordering.{nat_cmp, is_lt, ordering_index}
use Rattle.std.specs.FinMap as map
use Rattle.std.specs.FinMap.{put, same_entries_map, entries-from_sorted, entries-insert}
use Rattle.std.specs.FinMap.Entries.{below_all, by_order, is_sorted-put}
use Rattle.std.specs.Cmp.{nat_cmp_total}
use Rattle.std.proofs.lemmas.Cmp.{ranked}
use Rattle.std.proofs.lemmas.Bool.Decides.{nat_tests}
use Rattle.finite_maps.specs.Tally.{Map}
use Rattle.finite_maps.proofs.Gets.{alike}
use Rattle.core_outbox.specs.Rising.{IsRising, id_at, IsAt, IsGapFor, AllBelow}

front : (a b : Bool) → T (a && b) → T a
front true b h = tt
front false b h = absurd h

behind : (a b : Bool) → T (a && b) → T b
behind true b h = h
behind false b h = absurd h

is_less : (o : Ordering) → T (is_lt o) → o ≡ Less
is_less Less h = refl
is_less Equal h = absurd h
is_less Greater h = absurd h

less_by : (x y : ℕ) (o : Ordering) → x < y → o ≡ nat_cmp x y → o ≡ Less
less_by x y Less lt is = refl
less_by x y Equal lt is = absurd (let e = ranked x y Equal is in omega (arith, e, lt))
less_by x y Greater lt is = absurd (let e = ranked x y Greater is in omega (arith, e, lt))

is_smaller : (x y : ℕ) → x < y → nat_cmp x y ≡ Less
is_smaller x y lt = less_by x y (nat_cmp x y) lt refl

greater_by : (x y : ℕ) (o : Ordering) → y < x → o ≡ nat_cmp x y → o ≡ Greater
greater_by x y Less lt is = absurd (let e = ranked x y Less is in omega (arith, e, lt))
greater_by x y Equal lt is = absurd (let e = ranked x y Equal is in omega (arith, e, lt))
greater_by x y Greater lt is = refl

is_greater : (x y : ℕ) → y < x → nat_cmp x y ≡ Greater
is_greater x y lt = greater_by x y (nat_cmp x y) lt refl

equal_by : (x y : ℕ) (o : Ordering) → x ≡ y → o ≡ nat_cmp x y → o ≡ Equal
equal_by x y Less same is = absurd (let e = ranked x y Less is in omega (arith, e, same))
equal_by x y Equal same is = refl
equal_by x y Greater same is = absurd (let e = ranked x y Greater is in omega (arith, e, same))

is_equal : (x y : ℕ) → x ≡ y → nat_cmp x y ≡ Equal
is_equal x y same = equal_by x y (nat_cmp x y) same refl

one_at_most : (b : Bool) (n : ℕ) → cond b n (n + 1) ≤ n + 1
one_at_most true n = omega arith
one_at_most false n = omega arith

module _ {X : Type 0} where
  above : (k : ℕ) (es : List (ℕ × X)) → T (below_all nat_cmp k es) → (j : ℕ) (d : ℕ × X) → j < length es → k < id_at es j d
  above k [] h j d lt = absurd (omega (arith, lt))
  above k (e ∷ es) h zero d lt = ranked k e.0 Less (sym (is_less (nat_cmp k e.0) (front (is_lt (nat_cmp k e.0)) _ h)))
  above k (e ∷ es) h (suc j) d lt = above k es (behind (is_lt (nat_cmp k e.0)) _ h) j d (omega (arith, lt))

  rises : (es : List (ℕ × X)) → IsRising es → (i j : ℕ) (d : ℕ × X) → i < j → j < length es → id_at es i d < id_at es j d
  rises [] h i j d below lt = absurd (omega (arith, lt))
  rises (e ∷ es) h zero zero d below lt = absurd (omega (arith, below))
  rises (e ∷ es) h zero (suc j) d below lt = above e.0 es (front (below_all nat_cmp e.0 es) _ h) j d (omega (arith, lt))
  rises (e ∷ es) h (suc i) zero d below lt = absurd (omega (arith, below))
  rises (e ∷ es) h (suc i) (suc j) d below lt = rises es (behind (below_all nat_cmp e.0 es) _ h) i j d (omega (arith, below)) (omega (arith, lt))

  -- The comparisons with an id rise along the list, as a binary search asks.
  comparisons_rise : (es : List (ℕ × X)) (k : ℕ) → IsRising es → IsNonDecreasingBy (λ (y : ℕ × X). ordering_index (nat_cmp y.0 k)) es
  comparisons_rise es k h = λ i j d le lt.
      let ids_rise : id_at es i d ≤ id_at es j d = grind (arith, rises es h i j d, λ (same : i ≡ j). ap (λ i. id_at es i d) same) in
      grind (arith, nat_tests, ids_rise)

  -- A binary search ends at the id, or at the gap for it.
  pub searched : (es : List (ℕ × X)) (k : ℕ) → IsRising es → (r : Result ℕ ℕ) → IsSearchInRange r (length es) → IsBinarySearchResult (λ (y : ℕ × X). nat_cmp y.0 k) es r → record { found : IfOk r (IsAt es k); absent : IfErr r (IsGapFor es k) }
  searched es k h (Ok at) in_range equal = record { found = record { in_range = in_range; has_id = λ d. ranked _ k _ (sym (equal d)) }; absent = tt }
  searched es k h (Err at) in_range parted = record {
    found = tt;
    absent = record {
      in_range = in_range;
      smaller_before = λ j d lt. ranked _ k _ (sym ((parted (comparisons_rise es k h)).0 j d (omega arith) lt));
      greater_after = λ j d le lt. ranked _ k _ (sym ((parted (comparisons_rise es k h)).1 j d le lt));
    };
  }

  gap_behind : (e : ℕ × X) (es : List (ℕ × X)) (k i : ℕ) → IsGapFor (e ∷ es) k (suc i) → IsGapFor es k i
  gap_behind e es k i gap = record {
    in_range = (let a = gap.in_range in omega (arith, a));
    smaller_before = λ j d lt. gap.smaller_before (suc j) d (omega (arith, lt));
    greater_after = λ j d le lt. gap.greater_after (suc j) d (omega (arith, le)) (omega (arith, lt));
  }

  pub put_in_gap : (es : List (ℕ × X)) (k : ℕ) (v : X) (i : ℕ) → IsGapFor es k i → put nat_cmp k v es ≡ insert es i (k, v)
  put_in_gap [] k v zero gap = refl
  put_in_gap [] k v (suc i) gap = absurd (let a = gap.in_range in omega (arith, a))
  put_in_gap (e ∷ es) k v zero gap =
      ap (λ o. by_order o ((k, v) ∷ e ∷ es) ((e.0, v) ∷ es) (e ∷ put nat_cmp k v es)) (is_smaller k e.0 (gap.greater_after 0 e (omega arith) (omega arith)))
  put_in_gap (e ∷ es) k v (suc i) gap =
      ap (λ o. by_order o ((k, v) ∷ e ∷ es) ((e.0, v) ∷ es) (e ∷ put nat_cmp k v es)) (is_greater k e.0 (gap.smaller_before 0 e (omega arith)))
      ∙ ap (λ (xs : List (ℕ × X)). e ∷ xs) (put_in_gap es k v i (gap_behind e es k i gap))

  at_behind : (e : ℕ × X) (es : List (ℕ × X)) (k i : ℕ) → IsAt (e ∷ es) k (suc i) → IsAt es k i
  at_behind e es k i at = record { in_range = (let a = at.in_range in omega (arith, a)); has_id = λ d. at.has_id d }

  pub put_over : (es : List (ℕ × X)) (k : ℕ) (v : X) (i : ℕ) → IsRising es → IsAt es k i → put nat_cmp k v es ≡ set es i (k, v)
  put_over [] k v i h at = absurd (let a = at.in_range in omega (arith, a))
  put_over (e ∷ es) k v zero h at =
      let same : e.0 ≡ k = at.has_id e in
      ap (λ o. by_order o ((k, v) ∷ e ∷ es) ((e.0, v) ∷ es) (e ∷ put nat_cmp k v es)) (is_equal k e.0 (sym same))
      ∙ ap (λ (i : ℕ). (i, v) ∷ es) same
  put_over (e ∷ es) k v (suc i) h at =
      let less : e.0 < k = (let a = above e.0 es (front (below_all nat_cmp e.0 es) _ h) i e (let b = at.in_range in omega (arith, b)) in let c = at.has_id e in omega (arith, a, c)) in
      ap (λ o. by_order o ((k, v) ∷ e ∷ es) ((e.0, v) ∷ es) (e ∷ put nat_cmp k v es)) (is_greater k e.0 less)
      ∙ ap (λ (xs : List (ℕ × X)). e ∷ xs) (put_over es k v i (behind (below_all nat_cmp e.0 es) _ h) (at_behind e es k i at))

  -- The map with the entry put in its place.
  pub put_is : (es fs : List (ℕ × X)) (k : ℕ) (v : X) → IsRising es → fs ≡ put nat_cmp k v es → map.from_sorted {R = nat_cmp} fs ≡ map.insert (map.from_sorted es) k v
  put_is es fs k v h is =
      same_entries_map (map.from_sorted fs) (map.insert (map.from_sorted es) k v)
      (entries-from_sorted nat_cmp fs (subst IsRising (sym is) (is_sorted-put nat_cmp nat_cmp_total k v es h))
      ∙ is
      ∙ ap (put nat_cmp k v) (sym (entries-from_sorted nat_cmp es h))
      ∙ sym (entries-insert nat_cmp_total (map.from_sorted es) k v))

  pub put_keeps : (es fs : List (ℕ × X)) (k : ℕ) (v : X) → IsRising es → fs ≡ put nat_cmp k v es → IsRising fs
  put_keeps es fs k v h is = subst IsRising (sym is) (is_sorted-put nat_cmp nat_cmp_total k v es h)

  -- The entries of what is seen.
  pub entries_seen : (es : List (ℕ × X)) (n : ℕ) (seen : Map X × ℕ) → IsRising es → (map.from_sorted es, n) ≡ seen → map.entries seen.0 ≡ es
  entries_seen es n seen h is = sym (ap (λ (p : Map X × ℕ). map.entries p.0) is) ∙ entries-from_sorted nat_cmp es h

  pub none_is : map.from_sorted {R = nat_cmp} [] ≡ map.empty {X = X}
  none_is = alike _ _ (λ q. map.get-from_sorted nat_cmp [] q tt ∙ sym (map.get-empty nat_cmp q))

  pub len_none : (m : Map X) → m ≡ map.empty → map.len m ≡ 0
  len_none m is = ap map.len is ∙ map.len-empty nat_cmp X

  pub none_left : (m : Map X) → m ≡ map.empty → map.entries m ≡ []
  none_left m is = ap map.entries (is ∙ sym none_is) ∙ entries-from_sorted nat_cmp [] tt

  pub none_when : (es : List (ℕ × X)) (n : ℕ) (seen : Map X × ℕ) → (map.from_sorted es, n) ≡ seen → length es ≡ 0 → seen.0 ≡ map.empty
  none_when [] n seen is no_len = sym (ap (λ (p : Map X × ℕ). p.0) is) ∙ none_is
  none_when (e ∷ es) n seen is no_len = absurd (omega (arith, no_len))

  -- One entry more at most.
  pub len_put : (m n : Map X) (k : ℕ) (v : X) → n ≡ map.insert m k v → map.len n ≤ map.len m + 1
  len_put m n k v is = rw (is, map.len-insert nat_cmp_total m k v) (one_at_most (map.contains_key m k) (map.len m))

  -- An entry above all others comes last.
  pub put_last : (k : ℕ) (v : X) (es : List (ℕ × X)) → AllBelow k es → put nat_cmp k v es ≡ es ++ (k, v) ∷ []
  put_last k v [] below = refl
  put_last k v (e ∷ es) below =
      ap (λ o. by_order o ((k, v) ∷ e ∷ es) ((e.0, v) ∷ es) (e ∷ put nat_cmp k v es)) (is_greater k e.0 below.0)
      ∙ ap (λ (xs : List (ℕ × X)). e ∷ xs) (put_last k v es below.1)
