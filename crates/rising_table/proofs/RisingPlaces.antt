-- Places by rising number: what a search finds, and what an edit at such a place is.
use Rattle.std.proofs.Common.{◌≡◌, ◌≢◌, ℕ, zero, suc, ◌<◌, ◌≤◌, Bool, true, false, cond, ◌&&◌, T, List, [], ◌∷◌, ◌++◌, length, set, filter, slice_index_or, Some, None, Result, Ok, Err, IfOk, IfErr, refl, sym, ap, subst, ◌∙◌, arith}
use Rattle.std.specs.declared.cmp.Ordering.{Ordering}
use Rattle.std.specs.declared.cmp.Ordering.TheVariants.{Less, Equal, Greater}
use Rattle.std.specs.List.{insert}
use Rattle.std.specs.List.Sorted.{IsSearchInRange, IsBinarySearchResult, IsNonDecreasingBy}
use Rattle.std.specs.Ordering.{nat_cmp, is_lt, ordering_index, eq_by_cmp}
use Rattle.std.specs.FinMap.{put}
use Rattle.std.specs.FinMap.Entries.{below_all, by_order, find}
use Rattle.std.proofs.lemmas.Cmp.{ranked}
use Rattle.std.proofs.lemmas.Bool.Decides.{nat_tests}
use Rattle.finite_maps.proofs.Gets.{tied_same, tied_other}
use Rattle.rising_table.proofs.BothHold.{front, behind}
use Rattle.rising_table.specs.Rising.{IsRising, number_at, IsAt, IsGapFor, IsAbsent, AllBelow}

is_less : (o : Ordering) → T (is_lt o) → o ≡ Less
is_less Less h = refl
is_less Equal h = absurd h
is_less Greater h = absurd h

less_by : (x y : ℕ) (o : Ordering) → x < y → o ≡ nat_cmp x y → o ≡ Less
less_by x y Less lt is = refl
less_by x y Equal lt is = absurd (let e = ranked x y Equal is in omega (arith, e, lt))
less_by x y Greater lt is = absurd (let e = ranked x y Greater is in omega (arith, e, lt))

is_smaller : (x y : ℕ) → x < y → nat_cmp x y ≡ Less
is_smaller x y lt = less_by x y (nat_cmp x y) lt refl

greater_by : (x y : ℕ) (o : Ordering) → y < x → o ≡ nat_cmp x y → o ≡ Greater
greater_by x y Less lt is = absurd (let e = ranked x y Less is in omega (arith, e, lt))
greater_by x y Equal lt is = absurd (let e = ranked x y Equal is in omega (arith, e, lt))
greater_by x y Greater lt is = refl

is_greater : (x y : ℕ) → y < x → nat_cmp x y ≡ Greater
is_greater x y lt = greater_by x y (nat_cmp x y) lt refl

equal_by : (x y : ℕ) (o : Ordering) → x ≡ y → o ≡ nat_cmp x y → o ≡ Equal
equal_by x y Less same is = absurd (let e = ranked x y Less is in omega (arith, e, same))
equal_by x y Equal same is = refl
equal_by x y Greater same is = absurd (let e = ranked x y Greater is in omega (arith, e, same))

is_equal : (x y : ℕ) → x ≡ y → nat_cmp x y ≡ Equal
is_equal x y same = equal_by x y (nat_cmp x y) same refl

apart_below : (x y : ℕ) → x < y → x ≢ y
apart_below x y lt = λ same. absurd (omega (arith, lt, same))

apart_above : (x y : ℕ) → y < x → x ≢ y
apart_above x y lt = λ same. absurd (omega (arith, lt, same))

both : (a b : Bool) → T a → T b → T (a && b)
both true b p q = q
both false b p q = absurd p

module _ {X : Type 0} where
  above : (k : ℕ) (es : List (ℕ × X)) → T (below_all nat_cmp k es) → (j : ℕ) (d : ℕ × X) → j < length es → k < number_at es j d
  above k [] h j d lt = absurd (omega (arith, lt))
  above k (e ∷ es) h zero d lt = ranked k e.0 Less (sym (is_less (nat_cmp k e.0) (front (is_lt (nat_cmp k e.0)) _ h)))
  above k (e ∷ es) h (suc j) d lt = above k es (behind (is_lt (nat_cmp k e.0)) _ h) j d (omega (arith, lt))

  rises : (es : List (ℕ × X)) → IsRising es → (i j : ℕ) (d : ℕ × X) → i < j → j < length es → number_at es i d < number_at es j d
  rises [] h i j d below lt = absurd (omega (arith, lt))
  rises (e ∷ es) h zero zero d below lt = absurd (omega (arith, below))
  rises (e ∷ es) h zero (suc j) d below lt = above e.0 es (front (below_all nat_cmp e.0 es) _ h) j d (omega (arith, lt))
  rises (e ∷ es) h (suc i) zero d below lt = absurd (omega (arith, below))
  rises (e ∷ es) h (suc i) (suc j) d below lt = rises es (behind (below_all nat_cmp e.0 es) _ h) i j d (omega (arith, below)) (omega (arith, lt))

  -- The comparisons with a number rise along the list, as a binary search asks.
  comparisons_rise : (es : List (ℕ × X)) (k : ℕ) → IsRising es → IsNonDecreasingBy (λ (y : ℕ × X). ordering_index (nat_cmp y.0 k)) es
  comparisons_rise es k h = λ i j d le lt.
      let rise : number_at es i d ≤ number_at es j d = grind (arith, rises es h i j d, λ (same : i ≡ j). ap (λ i. number_at es i d) same) in
      grind (arith, nat_tests, rise)

  -- A binary search ends at the number, or at the gap for it.
  pub searched : (es : List (ℕ × X)) (k : ℕ) → IsRising es → (r : Result ℕ ℕ) → IsSearchInRange r (length es) → IsBinarySearchResult (λ (y : ℕ × X). nat_cmp y.0 k) es r → record { found : IfOk r (IsAt es k); absent : IfErr r (IsGapFor es k) }
  searched es k h (Ok at) in_range equal = record { found = record { in_range = in_range; has_number = λ d. ranked _ k _ (sym (equal d)) }; absent = tt }
  searched es k h (Err at) in_range parted = record {
    found = tt;
    absent = record {
      in_range = in_range;
      smaller_before = λ j d lt. ranked _ k _ (sym ((parted (comparisons_rise es k h)).0 j d (omega arith) lt));
      greater_after = λ j d le lt. ranked _ k _ (sym ((parted (comparisons_rise es k h)).1 j d le lt));
    };
  }

  gap_behind : (e : ℕ × X) (es : List (ℕ × X)) (k i : ℕ) → IsGapFor (e ∷ es) k (suc i) → IsGapFor es k i
  gap_behind e es k i gap = record {
    in_range = (let a = gap.in_range in omega (arith, a));
    smaller_before = λ j d lt. gap.smaller_before (suc j) d (omega (arith, lt));
    greater_after = λ j d le lt. gap.greater_after (suc j) d (omega (arith, le)) (omega (arith, lt));
  }

  gap_at_front : (e : ℕ × X) (es : List (ℕ × X)) (k : ℕ) → IsGapFor (e ∷ es) k 0 → IsGapFor es k 0
  gap_at_front e es k gap = record {
    in_range = omega arith;
    smaller_before = λ j d lt. absurd (omega (arith, lt));
    greater_after = λ j d le lt. gap.greater_after (suc j) d (omega arith) (omega (arith, lt));
  }

  not_first : (e : ℕ × X) (es : List (ℕ × X)) (k : ℕ) → k ≢ e.0 → find nat_cmp k es ≡ None → find nat_cmp k (e ∷ es) ≡ None
  not_first e es k apart none = ap (λ b. cond b (Some e.1) (find nat_cmp k es)) (tied_other k e.0 apart) ∙ none

  -- A number that has a gap has no place.
  pub absent_in_gap : (es : List (ℕ × X)) (k i : ℕ) → IsGapFor es k i → IsAbsent es k
  absent_in_gap [] k i gap = refl
  absent_in_gap (e ∷ es) k zero gap = not_first e es k (apart_below k e.0 (gap.greater_after 0 e (omega arith) (omega arith))) (absent_in_gap es k 0 (gap_at_front e es k gap))
  absent_in_gap (e ∷ es) k (suc i) gap = not_first e es k (apart_above k e.0 (gap.smaller_before 0 e (omega arith))) (absent_in_gap es k i (gap_behind e es k i gap))

  pub absent_above : (es : List (ℕ × X)) (k : ℕ) → AllBelow k es → IsAbsent es k
  absent_above [] k below = refl
  absent_above (e ∷ es) k below = not_first e es k (apart_above k e.0 below.0) (absent_above es k below.1)

  -- What is above the last number is above all.
  pub above_last : (es : List (ℕ × X)) (k i : ℕ) → IsRising es → suc i ≡ length es → ((d : ℕ × X) → number_at es i d < k) → AllBelow k es
  above_last [] k i h end last = tt
  above_last (e ∷ []) k zero h end last = (last e, tt)
  above_last (e ∷ []) k (suc i) h end last = absurd (omega (arith, end))
  above_last (e ∷ f ∷ es) k zero h end last = absurd (omega (arith, end))
  above_last (e ∷ f ∷ es) k (suc i) h end last =
      let rest = above_last (f ∷ es) k i (behind (below_all nat_cmp e.0 (f ∷ es)) _ h) (omega (arith, end)) last in
      let less : e.0 < f.0 = above e.0 (f ∷ es) (front (below_all nat_cmp e.0 (f ∷ es)) _ h) 0 e (omega arith) in
      let lower = rest.0 in
      (omega (arith, lower, less), rest)

  pub put_in_gap : (es : List (ℕ × X)) (k : ℕ) (v : X) (i : ℕ) → IsGapFor es k i → put nat_cmp k v es ≡ insert es i (k, v)
  put_in_gap [] k v zero gap = refl
  put_in_gap [] k v (suc i) gap = absurd (let a = gap.in_range in omega (arith, a))
  put_in_gap (e ∷ es) k v zero gap =
      ap (λ o. by_order o ((k, v) ∷ e ∷ es) ((e.0, v) ∷ es) (e ∷ put nat_cmp k v es)) (is_smaller k e.0 (gap.greater_after 0 e (omega arith) (omega arith)))
  put_in_gap (e ∷ es) k v (suc i) gap =
      ap (λ o. by_order o ((k, v) ∷ e ∷ es) ((e.0, v) ∷ es) (e ∷ put nat_cmp k v es)) (is_greater k e.0 (gap.smaller_before 0 e (omega arith)))
      ∙ ap (λ (xs : List (ℕ × X)). e ∷ xs) (put_in_gap es k v i (gap_behind e es k i gap))

  at_behind : (e : ℕ × X) (es : List (ℕ × X)) (k i : ℕ) → IsAt (e ∷ es) k (suc i) → IsAt es k i
  at_behind e es k i at = record { in_range = (let a = at.in_range in omega (arith, a)); has_number = λ d. at.has_number d }

  less_than_first : (e : ℕ × X) (es : List (ℕ × X)) (k i : ℕ) → IsRising (e ∷ es) → IsAt (e ∷ es) k (suc i) → e.0 < k
  less_than_first e es k i h at = let a = above e.0 es (front (below_all nat_cmp e.0 es) _ h) i e (let b = at.in_range in omega (arith, b)) in let c = at.has_number e in omega (arith, a, c)

  pub put_over : (es : List (ℕ × X)) (k : ℕ) (v : X) (i : ℕ) → IsRising es → IsAt es k i → put nat_cmp k v es ≡ set es i (k, v)
  put_over [] k v i h at = absurd (let a = at.in_range in omega (arith, a))
  put_over (e ∷ es) k v zero h at =
      let same : e.0 ≡ k = at.has_number e in
      ap (λ o. by_order o ((k, v) ∷ e ∷ es) ((e.0, v) ∷ es) (e ∷ put nat_cmp k v es)) (is_equal k e.0 (sym same))
      ∙ ap (λ (i : ℕ). (i, v) ∷ es) same
  put_over (e ∷ es) k v (suc i) h at =
      ap (λ o. by_order o ((k, v) ∷ e ∷ es) ((e.0, v) ∷ es) (e ∷ put nat_cmp k v es)) (is_greater k e.0 (less_than_first e es k i h at))
      ∙ ap (λ (xs : List (ℕ × X)). e ∷ xs) (put_over es k v i (behind (below_all nat_cmp e.0 es) _ h) (at_behind e es k i at))

  -- A number above all others comes last.
  pub put_last : (k : ℕ) (v : X) (es : List (ℕ × X)) → AllBelow k es → put nat_cmp k v es ≡ es ++ (k, v) ∷ []
  put_last k v [] below = refl
  put_last k v (e ∷ es) below =
      ap (λ o. by_order o ((k, v) ∷ e ∷ es) ((e.0, v) ∷ es) (e ∷ put nat_cmp k v es)) (is_greater k e.0 below.0)
      ∙ ap (λ (xs : List (ℕ × X)). e ∷ xs) (put_last k v es below.1)

  -- A number below all others has no place.
  pub below_absent : (k : ℕ) (es : List (ℕ × X)) → T (below_all nat_cmp k es) → IsAbsent es k
  below_absent k [] h = refl
  below_absent k (e ∷ es) h =
      let less : k < e.0 = ranked k e.0 Less (sym (is_less (nat_cmp k e.0) (front (is_lt (nat_cmp k e.0)) _ h))) in
      not_first e es k (apart_below k e.0 less) (below_absent k es (behind (is_lt (nat_cmp k e.0)) _ h))

  -- What stands at the place of a number is found there.
  pub found_at : (es : List (ℕ × X)) (k i : ℕ) (d : ℕ × X) → IsRising es → IsAt es k i → (let place = slice_index_or es i d in find nat_cmp k es ≡ Some place.1)
  found_at [] k i d h at = absurd (let a = at.in_range in omega (arith, a))
  found_at (e ∷ es) k zero d h at = ap (λ b. cond b (Some e.1) (find nat_cmp k es)) (subst (λ m. eq_by_cmp nat_cmp m e.0 ≡ true) (at.has_number e) (tied_same e.0))
  found_at (e ∷ es) k (suc i) d h at =
      ap (λ b. cond b (Some e.1) (find nat_cmp k es)) (tied_other k e.0 (apart_above k e.0 (less_than_first e es k i h at)))
      ∙ found_at es k i d (behind (below_all nat_cmp e.0 es) _ h) (at_behind e es k i at)

  above_kept : (b : Bool) (k : ℕ) (e : ℕ × X) (es : List (ℕ × X)) → T (is_lt (nat_cmp k e.0)) → T (below_all nat_cmp k es) → T (below_all nat_cmp k (cond b (e ∷ es) es))
  above_kept true k e es less rest = both (is_lt (nat_cmp k e.0)) _ less rest
  above_kept false k e es less rest = rest

  kept_above : (keep : ℕ × X → Bool) (k : ℕ) (es : List (ℕ × X)) → T (below_all nat_cmp k es) → T (below_all nat_cmp k (filter keep es))
  kept_above keep k [] h = tt
  kept_above keep k (e ∷ es) h = above_kept (keep e) k e (filter keep es) (front (is_lt (nat_cmp k e.0)) _ h) (kept_above keep k es (behind (is_lt (nat_cmp k e.0)) _ h))

  sorted_kept : (b : Bool) (e : ℕ × X) (es : List (ℕ × X)) → T (below_all nat_cmp e.0 es) → IsRising es → IsRising (cond b (e ∷ es) es)
  sorted_kept true e es less rest = both (below_all nat_cmp e.0 es) _ less rest
  sorted_kept false e es less rest = rest

  -- Those that are kept rise too.
  pub kept_sorted : (keep : ℕ × X → Bool) (es : List (ℕ × X)) → IsRising es → IsRising (filter keep es)
  kept_sorted keep [] h = tt
  kept_sorted keep (e ∷ es) h =
      sorted_kept (keep e) e (filter keep es) (kept_above keep e.0 es (front (below_all nat_cmp e.0 es) _ h)) (kept_sorted keep es (behind (below_all nat_cmp e.0 es) _ h))

  above_before : (k : ℕ) (es : List (ℕ × X)) (e : ℕ × X) → T (below_all nat_cmp k (es ++ e ∷ [])) → T (below_all nat_cmp k es)
  above_before k [] e h = tt
  above_before k (f ∷ es) e h = both (is_lt (nat_cmp k f.0)) _ (front (is_lt (nat_cmp k f.0)) _ h) (above_before k es e (behind (is_lt (nat_cmp k f.0)) _ h))

  -- Those before the last rise too.
  pub rising_before : (es : List (ℕ × X)) (e : ℕ × X) → IsRising (es ++ e ∷ []) → IsRising es
  rising_before [] e h = tt
  rising_before (f ∷ es) e h =
      both (below_all nat_cmp f.0 es) _ (above_before f.0 es e (front (below_all nat_cmp f.0 (es ++ e ∷ [])) _ h)) (rising_before es e (behind (below_all nat_cmp f.0 (es ++ e ∷ [])) _ h))
