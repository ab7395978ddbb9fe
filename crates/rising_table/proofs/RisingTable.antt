-- The finite map that places by rising number are.
use Rattle.std.proofs.Common.{◌≡◌, ℕ, suc, ◌+◌, ◌≤◌, Bool, true, false, cond, T, List, [], ◌∷◌, ◌++◌, length, set, filter, Option, Some, None, is_some, IsSome, slice_index_or, refl, sym, ap, subst, ◌∙◌, arith}
use Rattle.std.specs.Ordering.{nat_cmp, eq_by_cmp}
use Rattle.std.specs.Cmp.{nat_cmp_total}
use Rattle.std.specs.FinMap as map
use Rattle.std.specs.FinMap.{put}
use Rattle.std.specs.FinMap.Entries.{below_all, find, find-put, is_sorted-put}
use Rattle.finite_maps.proofs.Gets.{alike}
use Rattle.finite_maps.proofs.Lens.{len_new, len_still, len_gone}
use Rattle.finite_maps.proofs.Tested.{ties, equal}
use Rattle.std.proofs.lemmas.List.{set-get_or}
use Rattle.rising_table.proofs.BothHold.{front, behind}
use Rattle.rising_table.proofs.RisingPlaces.{put_over, below_absent, found_at, rising_before}
use Rattle.rising_table.specs.Table.{Table, with_entry}
use Rattle.rising_table.specs.Rising.{IsRising, IsAt, IsAbsent, entry_at, with_entry_of, present, table_of_places}

one_more : (b : Bool) (n m : ℕ) → n ≤ m → cond b n (n + 1) ≤ suc m
one_more true n m le = omega (arith, le)
one_more false n m le = omega (arith, le)

module _ {X : Type 0} where
  abbrev pub flat : Option (Option X) → Option X
  flat None = None
  flat (Some o) = o

  flat_put : (b : Bool) (x : X) (o : Option (Option X)) → flat (cond b (Some (Some x)) o) ≡ cond b (Some x) (flat o)
  flat_put true x o = refl
  flat_put false x o = refl

  flat_cut : (b : Bool) (o : Option (Option X)) → flat (cond b (Some None) o) ≡ cond b None (flat o)
  flat_cut true o = refl
  flat_cut false o = refl

  find_here : (k q : ℕ) (o : Option X) (b : Bool) → eq_by_cmp nat_cmp q k ≡ b → (rest : List (ℕ × X)) (found : Option (Option X)) → find nat_cmp q rest ≡ flat found → (b ≡ true → found ≡ None) → find nat_cmp q (with_entry_of k o rest) ≡ flat (cond b (Some o) found)
  find_here k q (Some x) true e rest found is none = ap (λ c. cond c (Some x) (find nat_cmp q rest)) e
  find_here k q (Some x) false e rest found is none = ap (λ c. cond c (Some x) (find nat_cmp q rest)) e ∙ is
  find_here k q None true e rest found is none = is ∙ ap flat (none refl)
  find_here k q None false e rest found is none = is

  find_present : (ps : List (ℕ × Option X)) (q : ℕ) → IsRising ps → find nat_cmp q (present ps) ≡ flat (find nat_cmp q ps)
  find_present [] q h = refl
  find_present (p ∷ ps) q h =
      find_here p.0 q p.1 (eq_by_cmp nat_cmp q p.0) refl (present ps) (find nat_cmp q ps) (find_present ps q (behind (below_all nat_cmp p.0 ps) _ h))
      (λ same. below_absent q ps (subst (λ k. T (below_all nat_cmp k ps)) (sym (equal q p.0 (sym (ties q p.0) ∙ same))) (front (below_all nat_cmp p.0 ps) _ h)))

  abbrev pub entries_of : List (ℕ × Option X) → map.FinMap nat_cmp X
  entries_of ps = map.from_entries (present ps)

  get_present : (ps : List (ℕ × Option X)) (q : ℕ) → IsRising ps → map.get (entries_of ps) q ≡ flat (find nat_cmp q ps)
  get_present ps q h = map.get-from_entries nat_cmp_total (present ps) q ∙ find_present ps q h

  pub get_absent : (ps : List (ℕ × Option X)) (q : ℕ) → IsRising ps → IsAbsent ps q → map.get (entries_of ps) q ≡ None
  get_absent ps q h absent = get_present ps q h ∙ ap flat absent

  pub get_at : (ps : List (ℕ × Option X)) (q i : ℕ) (d : ℕ × Option X) → IsRising ps → IsAt ps q i → map.get (entries_of ps) q ≡ entry_at ps i d
  get_at ps q i d h at = get_present ps q h ∙ ap flat (found_at ps q i d h at)

  pub rising_put : (ps : List (ℕ × Option X)) (k : ℕ) (o : Option X) → IsRising ps → IsRising (put nat_cmp k o ps)
  rising_put ps k o h = is_sorted-put nat_cmp nat_cmp_total k o ps h

  -- A place that is given an entry gives the map that entry.
  pub entries_put : (ps : List (ℕ × Option X)) (k : ℕ) (x : X) → IsRising ps → entries_of (put nat_cmp k (Some x) ps) ≡ map.insert (entries_of ps) k x
  entries_put ps k x h = alike _ _ (λ q.
      get_present (put nat_cmp k (Some x) ps) q (rising_put ps k (Some x) h)
      ∙ ap flat (find-put nat_cmp nat_cmp_total q k (Some x) ps)
      ∙ flat_put (eq_by_cmp nat_cmp q k) x (find nat_cmp q ps)
      ∙ sym (map.get-insert nat_cmp_total (entries_of ps) k x q ∙ ap (cond (eq_by_cmp nat_cmp q k) (Some x)) (get_present ps q h)))

  -- A place whose entry is taken out takes it from the map.
  pub entries_cut : (ps : List (ℕ × Option X)) (k : ℕ) → IsRising ps → entries_of (put nat_cmp k None ps) ≡ map.remove (entries_of ps) k
  entries_cut ps k h = alike _ _ (λ q.
      get_present (put nat_cmp k None ps) q (rising_put ps k None h)
      ∙ ap flat (find-put nat_cmp nat_cmp_total q k None ps)
      ∙ flat_cut (eq_by_cmp nat_cmp q k) (find nat_cmp q ps)
      ∙ sym (map.get-remove nat_cmp_total (entries_of ps) k q ∙ ap (cond (eq_by_cmp nat_cmp q k) None) (get_present ps q h)))

  present_or_not : (p : ℕ × Option X) (o : Option X) (kept rest : List (ℕ × Option X)) → p.1 ≡ o → present kept ≡ present rest → present (cond (is_some p.1) (p ∷ kept) kept) ≡ present (p ∷ rest)
  present_or_not p (Some x) kept rest is same = ap (λ b. present (cond b (p ∷ kept) kept)) (ap is_some is) ∙ ap (with_entry_of p.0 p.1) same
  present_or_not p None kept rest is same = ap (λ b. present (cond b (p ∷ kept) kept)) (ap is_some is) ∙ same ∙ sym (ap (λ o. with_entry_of p.0 o (present rest)) is)

  -- Places without entry may go.
  pub present_kept : (ps : List (ℕ × Option X)) → present (filter (λ p. is_some p.1) ps) ≡ present ps
  present_kept [] = refl
  present_kept (p ∷ ps) = present_or_not p p.1 (filter (λ p. is_some p.1) ps) ps refl (present_kept ps)

  len_with : (k : ℕ) (o : Option X) (es : List (ℕ × X)) (n : ℕ) → map.len (map.from_entries {R = nat_cmp} es) ≤ n → map.len (map.from_entries {R = nat_cmp} (with_entry_of k o es)) ≤ suc n
  len_with k None es n le = omega (arith, le)
  len_with k (Some x) es n le = rw (map.len-insert nat_cmp_total (map.from_entries es) k x) (one_more (map.contains_key (map.from_entries {R = nat_cmp} es) k) _ n le)

  -- There are no more entries than places.
  pub len_within : (ps : List (ℕ × Option X)) → map.len (entries_of ps) ≤ length ps
  len_within [] = rw (map.len-empty nat_cmp X) (omega arith)
  len_within (p ∷ ps) = len_with p.0 p.1 (present ps) (length ps) (len_within ps)

  -- What the table that is seen has of a number.
  pub table_absent : (ps : List (ℕ × Option X)) (room : ℕ) (t : Table X) (q : ℕ) → IsRising ps → table_of_places ps room ≡ t → IsAbsent ps q → map.get t.entries q ≡ None
  table_absent ps room t q h view absent = ap (λ (u : Table X). map.get u.entries q) (sym view) ∙ get_absent ps q h absent

  pub table_at : (ps : List (ℕ × Option X)) (room : ℕ) (t : Table X) (q i : ℕ) (d : ℕ × Option X) → IsRising ps → table_of_places ps room ≡ t → IsAt ps q i → map.get t.entries q ≡ entry_at ps i d
  table_at ps room t q i d h view at = ap (λ (u : Table X). map.get u.entries q) (sym view) ∙ get_at ps q i d h at

  pub seen : (ps : List (ℕ × Option X)) (room : ℕ) (t : Table X) → table_of_places ps room ≡ t → entries_of ps ≡ t.entries
  seen ps room t view = ap (λ (u : Table X). u.entries) view

  -- An entry is added.
  pub added : (ps qs : List (ℕ × Option X)) (k : ℕ) (x : X) → IsRising ps → qs ≡ put nat_cmp k (Some x) ps → entries_of qs ≡ map.insert (entries_of ps) k x
  added ps qs k x h is = ap (λ es. entries_of es) is ∙ entries_put ps k x h

  pub len_added : (ps qs : List (ℕ × Option X)) (k n : ℕ) (x : X) → IsRising ps → qs ≡ put nat_cmp k (Some x) ps → map.get (entries_of ps) k ≡ None → n ≡ map.len (entries_of ps) → n + 1 ≡ map.len (entries_of qs)
  len_added ps qs k n x h is none len = let more = len_new (entries_of ps) k x none in let same = ap map.len (added ps qs k x h is) in omega (arith, more, same, len)

  -- What is written over an entry that is there.
  pub over : (ps : List (ℕ × Option X)) (n k i : ℕ) (o : Option X) → IsRising ps → IsAt ps k i → n ≡ k → set ps i (n, o) ≡ put nat_cmp k o ps
  over ps n k i o h at same = ap (λ (m : ℕ). set ps i (m, o)) same ∙ sym (put_over ps k o i h at)

  pub len_over : (ps : List (ℕ × Option X)) (n k i : ℕ) (d : ℕ × Option X) (o : Option X) → IsRising ps → IsAt ps k i → n ≡ k → IsSome (entry_at ps i d) → IsSome o → map.len (entries_of (set ps i (n, o))) ≡ map.len (entries_of ps)
  len_over ps n k i d None h at same there some = absurd (let f : false ≡ true = some in cc)
  len_over ps n k i d (Some x) h at same there some =
      ap map.len (added ps (set ps i (n, Some x)) k x h (over ps n k i (Some x) h at same))
      ∙ len_still (entries_of ps) k x (ap is_some (get_at ps k i d h at) ∙ there)

  pub rising_over : (ps : List (ℕ × Option X)) (n k i : ℕ) (o : Option X) → IsRising ps → IsAt ps k i → n ≡ k → IsRising (set ps i (n, o))
  rising_over ps n k i o h at same = subst IsRising (sym (over ps n k i o h at same)) (rising_put ps k o h)

  -- An entry is taken out.
  pub cut_out : (ps qs : List (ℕ × Option X)) (k : ℕ) → IsRising ps → qs ≡ put nat_cmp k None ps → entries_of qs ≡ map.remove (entries_of ps) k
  cut_out ps qs k h is = ap (λ es. entries_of es) is ∙ entries_cut ps k h

  pub len_cut : (ps qs : List (ℕ × Option X)) (k n : ℕ) (x : X) → IsRising ps → qs ≡ put nat_cmp k None ps → map.get (entries_of ps) k ≡ Some x → n ≡ map.len (entries_of ps) → map.len (entries_of qs) + 1 ≡ n
  len_cut ps qs k n x h is there len = let less = len_gone (entries_of ps) k x there in let same = ap map.len (cut_out ps qs k h is) in omega (arith, less, same, len)

  pub entries_kept : (ps qs : List (ℕ × Option X)) → qs ≡ filter (λ p. is_some p.1) ps → entries_of qs ≡ entries_of ps
  entries_kept ps qs is = ap (λ es. entries_of es) is ∙ ap (λ (es : List (ℕ × X)). map.from_entries {R = nat_cmp} es) (present_kept ps)

  pub table_over : (ps : List (ℕ × Option X)) (room : ℕ) (t : Table X) (n k i : ℕ) (x : X) → IsRising ps → table_of_places ps room ≡ t → IsAt ps k i → n ≡ k → table_of_places (set ps i (n, Some x)) room ≡ with_entry t k x
  table_over ps room t n k i x h view at same = λ j. record {
    entries = (added ps (set ps i (n, Some x)) k x h (over ps n k i (Some x) h at same) ∙ ap (λ (u : Table X). map.insert u.entries k x) view) j;
    room = ap (λ (u : Table X). u.room) view j;
  }

  pub none_if_not_some : (o : Option X) → is_some o ≡ false → o ≡ None
  none_if_not_some None e = refl
  none_if_not_some (Some x) e = absurd (let f : true ≡ false = e in cc)

  -- A place is left as it is.
  pub table_left : (ps : List (ℕ × Option X)) (room : ℕ) (t : Table X) (i : ℕ) (p d : ℕ × Option X) → table_of_places ps room ≡ t → p ≡ slice_index_or ps i d → table_of_places (set ps i p) room ≡ t
  table_left ps room t i p d view is = ap (λ qs. table_of_places qs room) (ap (set ps i) is ∙ set-get_or ps i d) ∙ view

  present_but_last : (ps : List (ℕ × Option X)) (p : ℕ × Option X) → p.1 ≡ None → present (ps ++ p ∷ []) ≡ present ps
  present_but_last [] p none = ap (λ o. with_entry_of p.0 o []) none
  present_but_last (q ∷ ps) p none = ap (with_entry_of q.0 q.1) (present_but_last ps p none)

  -- A last place without entry goes.
  pub popped : (old new : List (ℕ × Option X)) (p : ℕ × Option X) → IsRising old → old ≡ new ++ p ∷ [] → p.1 ≡ None → IsRising new × (present new ≡ present old)
  popped old new p h is none = (rising_before new p (subst IsRising is h), sym (ap present is ∙ present_but_last new p none))
