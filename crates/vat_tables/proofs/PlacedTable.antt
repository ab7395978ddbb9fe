-- The finite map that entries in their places make with those that are hashed.
use Rattle.std.proofs.Common.{◌≡◌, ℕ, zero, suc, ◌+◌, ◌-◌, ◌<◌, ◌≤◌, Bool, true, false, ◌||◌, cond, min, List, [], ◌∷◌, ◌++◌, length, set, get_or, nat_eq, Option, Some, None, is_some, IsSome, refl, sym, ap, subst, ◌∙◌, arith, zero-add}
use Rattle.std.proofs.lemmas.List.{get_or-set_same, get_or-set_other, get_or_past, length-set, set-get_or}
use Rattle.std.specs.Option.{option_or}
use Rattle.std.specs.Ordering.{nat_cmp, eq_by_cmp}
use Rattle.std.specs.HashMap as hash
use Rattle.std.specs.HashMap.{HashMap, hash_map_len, Updates, WritesThrough}
use Rattle.std.specs.FinMap as map
use Rattle.std.specs.FinMap.{find}
use Rattle.std.specs.Cmp.{nat_cmp_total}
use Rattle.std.specs.List.{list_any}
use Rattle.finite_maps.proofs.Gets.{alike, remove_absent, each_inserted, each_removed, tied_same}
use Rattle.finite_maps.proofs.Lens.{len_new, len_still, len_gone}
use Rattle.slab.specs.Slab.{entries_from}
use Rattle.vat_tables.proofs.HashTable.{find-lookup, none_of_none, not_equal}
use Rattle.vat_tables.proofs.Keys.{inserted, removed}
use Rattle.vat_tables.proofs.SlabTable.{find_at}
use Rattle.vat_tables.specs.Table.{Table, with_entry}
use Rattle.vat_tables.specs.Placed.{entries_both, table_of_both, IsApart, HasSamePlaces, UnderIds}

module _ {X : Type 0} where
  or_none : (o : Option X) → option_or o None ≡ o
  or_none None = refl
  or_none (Some x) = refl

  or_first : (b : Bool) (x : X) (o p : Option X) → cond b (Some x) (option_or o p) ≡ option_or (cond b (Some x) o) p
  or_first true x o p = refl
  or_first false x o p = refl

  pub find_join : (q : ℕ) (xs ys : List (ℕ × X)) → find nat_cmp q (xs ++ ys) ≡ option_or (find nat_cmp q xs) (find nat_cmp q ys)
  find_join q [] ys = refl
  find_join q (e ∷ xs) ys = ap (cond (eq_by_cmp nat_cmp q e.0) (Some e.1)) (find_join q xs ys) ∙ or_first (eq_by_cmp nat_cmp q e.0) e.1 (find nat_cmp q xs) (find nat_cmp q ys)

  find_place : (ps : List (Option X)) (q : ℕ) → find nat_cmp q (entries_from 0 ps) ≡ get_or ps q None
  find_place ps q = ap (λ k. find nat_cmp k (entries_from 0 ps)) (sym (zero-add q)) ∙ find_at 0 q ps

  -- A new place without entry changes none.
  pub same_pushed : (ps : List (Option X)) (q : ℕ) → get_or (ps ++ None ∷ []) q None ≡ get_or ps q None
  same_pushed [] zero = refl
  same_pushed [] (suc q) = refl
  same_pushed (p ∷ ps) zero = refl
  same_pushed (p ∷ ps) (suc q) = same_pushed ps q

  -- A place is left as it is.
  pub left : (ps : List (Option X)) (k : ℕ) (p d : Option X) → p ≡ get_or ps k d → set ps k p ≡ ps
  left ps k p d is = ap (set ps k) is ∙ set-get_or ps k d

  module _ {S : Type 0} where
    get_both : (ps : List (Option X)) (m : HashMap ℕ X S) (q : ℕ) → map.get (entries_both ps m) q ≡ option_or (get_or ps q None) (hash.get nat_eq m q)
    get_both ps m q =
        map.get-from_entries nat_cmp_total (entries_from 0 ps ++ m.entries) q
        ∙ find_join q (entries_from 0 ps) m.entries
        ∙ (λ i. option_or (find_place ps q i) (find-lookup q m.entries i))

    pub get_placed : (ps : List (Option X)) (m : HashMap ℕ X S) (q : ℕ) → IsApart ps m → q < length ps → map.get (entries_both ps m) q ≡ get_or ps q None
    get_placed ps m q apart low = get_both ps m q ∙ ap (option_or (get_or ps q None)) (apart q low) ∙ or_none (get_or ps q None)

    pub get_hashed : (ps : List (Option X)) (m : HashMap ℕ X S) (q : ℕ) → length ps ≤ q → map.get (entries_both ps m) q ≡ hash.get nat_eq m q
    get_hashed ps m q high = get_both ps m q ∙ ap (λ o. option_or o (hash.get nat_eq m q)) (get_or_past ps q None high)

    -- What the table that is seen has of a number.
    pub seen : (ps : List (Option X)) (m : HashMap ℕ X S) (len : ℕ) (t : Table X) → table_of_both ps m len ≡ t → entries_both ps m ≡ t.entries
    seen ps m len t view = ap (λ (u : Table X). u.entries) view

    pub table_placed : (ps : List (Option X)) (m : HashMap ℕ X S) (len : ℕ) (t : Table X) (q : ℕ) → table_of_both ps m len ≡ t → IsApart ps m → q < length ps → map.get t.entries q ≡ get_or ps q None
    table_placed ps m len t q view apart low = ap (λ (u : Table X). map.get u.entries q) (sym view) ∙ get_placed ps m q apart low

    pub table_hashed : (ps : List (Option X)) (m : HashMap ℕ X S) (len : ℕ) (t : Table X) (q : ℕ) → table_of_both ps m len ≡ t → length ps ≤ q → map.get t.entries q ≡ hash.get nat_eq m q
    table_hashed ps m len t q view high = ap (λ (u : Table X). map.get u.entries q) (sym view) ∙ get_hashed ps m q high

    -- A place that is given an entry gives the map that entry.
    pub placed : (ps : List (Option X)) (m : HashMap ℕ X S) (k : ℕ) (x : X) → k < length ps → entries_both (set ps k (Some x)) m ≡ map.insert (entries_both ps m) k x
    placed ps m k x low = inserted _ _ k x
        (get_both (set ps k (Some x)) m k ∙ ap (λ o. option_or o (hash.get nat_eq m k)) (get_or-set_same ps k (Some x) None low))
        (λ q apart. get_both (set ps k (Some x)) m q ∙ ap (λ o. option_or o (hash.get nat_eq m q)) (get_or-set_other ps k q (Some x) None apart) ∙ sym (get_both ps m q))

    -- A place whose entry is taken out takes it from the map.
    pub cut : (ps : List (Option X)) (m : HashMap ℕ X S) (k : ℕ) → IsApart ps m → k < length ps → entries_both (set ps k None) m ≡ map.remove (entries_both ps m) k
    cut ps m k apart low = removed _ _ k
        (get_both (set ps k None) m k ∙ (λ i. option_or (get_or-set_same ps k None None low i) (apart k low i)))
        (λ q other. get_both (set ps k None) m q ∙ ap (λ o. option_or o (hash.get nat_eq m q)) (get_or-set_other ps k q None None other) ∙ sym (get_both ps m q))

    -- The same of an entry that is hashed.
    pub put_hashed : (ps : List (Option X)) (old new : HashMap ℕ X S) (k : ℕ) (x : X) → length ps ≤ k → Updates nat_eq old new k (Some x) → entries_both ps new ≡ map.insert (entries_both ps old) k x
    put_hashed ps old new k x high updates = inserted _ _ k x
        (get_hashed ps new k high ∙ updates.1)
        (λ q other. get_both ps new q ∙ ap (option_or (get_or ps q None)) (updates.2 q (not_equal k q other)) ∙ sym (get_both ps old q))

    pub cut_hashed : (ps : List (Option X)) (old new : HashMap ℕ X S) (k : ℕ) → length ps ≤ k → Updates nat_eq old new k None → entries_both ps new ≡ map.remove (entries_both ps old) k
    cut_hashed ps old new k high updates = removed _ _ k
        (get_hashed ps new k high ∙ updates.1)
        (λ q other. get_both ps new q ∙ ap (option_or (get_or ps q None)) (updates.2 q (not_equal k q other)) ∙ sym (get_both ps old q))

    -- Places with the same entries, and entries that are hashed in another order, make the same map.
    pub same_both : (ps qs : List (Option X)) (old new : HashMap ℕ X S) → HasSamePlaces ps qs → ((q : ℕ) → hash.get nat_eq new q ≡ hash.get nat_eq old q) → entries_both qs new ≡ entries_both ps old
    same_both ps qs old new places hashed = alike _ _ (λ q. get_both qs new q ∙ (λ i. option_or (places q i) (hashed q i)) ∙ sym (get_both ps old q))

    -- No number that has a place is hashed.
    pub apart_set : (ps : List (Option X)) (m : HashMap ℕ X S) (k : ℕ) (o : Option X) → IsApart ps m → IsApart (set ps k o) m
    apart_set ps m k o apart q low = apart q (subst (λ n. q < n) (length-set ps k o) low)

    pub apart_updated : (ps : List (Option X)) (old new : HashMap ℕ X S) (k : ℕ) (o : Option X) → IsApart ps old → length ps ≤ k → Updates nat_eq old new k o → IsApart ps new
    apart_updated ps old new k o apart high updates q low = updates.2 q (not_equal k q (λ same. absurd (omega arith))) ∙ apart q low

    pub apart_same : (ps : List (Option X)) (old new : HashMap ℕ X S) → IsApart ps old → ((q : ℕ) → hash.get nat_eq new q ≡ hash.get nat_eq old q) → IsApart ps new
    apart_same ps old new apart same q low = same q ∙ apart q low

    pub apart_empty : (ps : List (Option X)) (m : HashMap ℕ X S) → hash_map_len m ≡ 0 → IsApart ps m
    apart_empty ps m none q low = none_of_none q m.entries none

    pub apart_written : (ps : List (Option X)) (old new : HashMap ℕ X S) (k : ℕ) (x : X) → IsApart ps old → length ps ≤ k → IsSome (hash.get nat_eq old k) → WritesThrough nat_eq (nat_eq k) old x new → IsApart ps new
    apart_written ps old new k x apart high there written = apart_updated ps old new k (Some x) apart high (written.3 there)

    -- How many entries there are.
    pub len_nothing : (ps : List (Option X)) (m : HashMap ℕ X S) → ps ≡ [] → m.entries ≡ [] → map.len (entries_both ps m) ≡ 0
    len_nothing ps m none empty = (λ i. map.len (map.from_entries {R = nat_cmp} (entries_from 0 (none i) ++ empty i))) ∙ map.len-empty nat_cmp X

    pub len_placed : (ps : List (Option X)) (m : HashMap ℕ X S) (k n : ℕ) (x : X) → k < length ps → map.get (entries_both ps m) k ≡ None → n ≡ map.len (entries_both ps m) + 1 → n ≡ map.len (entries_both (set ps k (Some x)) m)
    len_placed ps m k n x low free is = let more = len_new (entries_both ps m) k x free in let now = ap map.len (placed ps m k x low) in omega (arith, more, now, is)

    pub len_hashed : (ps : List (Option X)) (old new : HashMap ℕ X S) (k n : ℕ) (x : X) → length ps ≤ k → Updates nat_eq old new k (Some x) → map.get (entries_both ps old) k ≡ None → n ≡ map.len (entries_both ps old) + 1 → n ≡ map.len (entries_both ps new)
    len_hashed ps old new k n x high updates free is = let more = len_new (entries_both ps old) k x free in let now = ap map.len (put_hashed ps old new k x high updates) in omega (arith, more, now, is)

    pub len_over : (ps : List (Option X)) (m : HashMap ℕ X S) (k : ℕ) (x : X) → IsApart ps m → k < length ps → IsSome (get_or ps k None) → map.len (entries_both (set ps k (Some x)) m) ≡ map.len (entries_both ps m)
    len_over ps m k x apart low there = ap map.len (placed ps m k x low) ∙ len_still (entries_both ps m) k x (ap is_some (get_placed ps m k apart low) ∙ there)

    pub len_written : (ps : List (Option X)) (old new : HashMap ℕ X S) (k : ℕ) (x : X) → length ps ≤ k → IsSome (hash.get nat_eq old k) → WritesThrough nat_eq (nat_eq k) old x new → map.len (entries_both ps new) ≡ map.len (entries_both ps old)
    len_written ps old new k x high there written = ap map.len (put_hashed ps old new k x high (written.3 there)) ∙ len_still (entries_both ps old) k x (ap is_some (get_hashed ps old k high) ∙ there)

    pub len_cut : (ps : List (Option X)) (m : HashMap ℕ X S) (k : ℕ) (x : X) → IsApart ps m → k < length ps → get_or ps k None ≡ Some x → map.len (entries_both (set ps k None) m) + 1 ≡ map.len (entries_both ps m)
    len_cut ps m k x apart low there = let less = len_gone (entries_both ps m) k x (get_placed ps m k apart low ∙ there) in let now = ap map.len (cut ps m k apart low) in omega (arith, less, now)

    pub len_cut_hashed : (ps : List (Option X)) (old new : HashMap ℕ X S) (k : ℕ) (x : X) → length ps ≤ k → Updates nat_eq old new k None → hash.get nat_eq old k ≡ Some x → map.len (entries_both ps new) + 1 ≡ map.len (entries_both ps old)
    len_cut_hashed ps old new k x high updates there = let less = len_gone (entries_both ps old) k x (get_hashed ps old k high ∙ there) in let now = ap map.len (cut_hashed ps old new k high updates) in omega (arith, less, now)

    pub none_cut_hashed : (ps : List (Option X)) (old new : HashMap ℕ X S) (k : ℕ) → length ps ≤ k → Updates nat_eq old new k None → hash.get nat_eq old k ≡ None → map.len (entries_both ps new) ≡ map.len (entries_both ps old)
    none_cut_hashed ps old new k high updates none = ap map.len (cut_hashed ps old new k high updates ∙ remove_absent (entries_both ps old) k (get_hashed ps old k high ∙ none))

    pub table_over : (ps : List (Option X)) (m : HashMap ℕ X S) (len : ℕ) (t : Table X) (k : ℕ) (x : X) → table_of_both ps m len ≡ t → k < length ps → table_of_both (set ps k (Some x)) m len ≡ with_entry t k x
    table_over ps m len t k x view low = λ i. record {
      entries = (placed ps m k x low ∙ ap (λ (u : Table X). map.insert u.entries k x) view) i;
      room = ap (λ (u : Table X). u.room) view i;
    }

    pub table_written : (ps : List (Option X)) (old new : HashMap ℕ X S) (len : ℕ) (t : Table X) (k : ℕ) (x : X) → table_of_both ps old len ≡ t → length ps ≤ k → IsSome (hash.get nat_eq old k) → WritesThrough nat_eq (nat_eq k) old x new → table_of_both ps new len ≡ with_entry t k x
    table_written ps old new len t k x view high there written = λ i. record {
      entries = (put_hashed ps old new k x high (written.3 there) ∙ ap (λ (u : Table X). map.insert u.entries k x) view) i;
      room = (ap (λ s. min s (18446744073709551615 - len)) written.6 ∙ ap (λ (u : Table X). u.room) view) i;
    }

    -- More places with no entry in them change nothing.
    pub table_wider : (ps qs : List (Option X)) (m : HashMap ℕ X S) (len : ℕ) (t : Table X) → HasSamePlaces ps qs → table_of_both ps m len ≡ t → table_of_both qs m len ≡ t
    table_wider ps qs m len t places view = λ i. record {
      entries = (same_both ps qs m m places (λ q. refl) ∙ ap (λ (u : Table X). u.entries) view) i;
      room = ap (λ (u : Table X). u.room) view i;
    }

  pub none_if_not_some : (o : Option X) → is_some o ≡ false → o ≡ None
  none_if_not_some None e = refl
  none_if_not_some (Some x) e = absurd (let f : true ≡ false = e in cc)

or_true : (b : Bool) → b || true ≡ true
or_true true = refl
or_true false = refl

any_at : (ks : List ℕ) (i : ℕ) → i < length ks → list_any (eq_by_cmp nat_cmp (get_or ks i 0)) ks ≡ true
any_at [] i low = absurd (omega (arith, low))
any_at (k ∷ ks) zero low = ap (λ b. b || list_any (eq_by_cmp nat_cmp k) ks) (tied_same k)
any_at (k ∷ ks) (suc i) low = ap (λ b. eq_by_cmp nat_cmp (get_or ks i 0) k || b) (any_at ks i (omega (arith, low))) ∙ or_true (eq_by_cmp nat_cmp (get_or ks i 0) k)

-- Every entry stands under an id.
module _ {X : Type 0} where
  no_value : {P : Type 0} (o : Option X) → o ≡ None → IsSome o → P
  no_value None is some = absurd (let e : false ≡ true = some in cc)
  no_value (Some x) is some = absurd (let e : true ≡ false = ap is_some is in cc)

  pub ids_inserted : (m : map.FinMap nat_cmp X) (k : ℕ) (x : X) → UnderIds m → k < 4294967296 → UnderIds (map.insert m k x)
  ids_inserted m k x ids id = each_inserted (λ q o. IsSome o → q < 4294967296) m k x (λ some. id) (λ q apart. ids q)

  pub ids_removed : (m : map.FinMap nat_cmp X) (k : ℕ) → UnderIds m → UnderIds (map.remove m k)
  ids_removed m k ids = each_removed (λ q o. IsSome o → q < 4294967296) m k (λ some. no_value None refl some) (λ q apart. ids q)

  pub ids_of_keys : (m : map.FinMap nat_cmp X) → UnderIds m → (i : ℕ) → i < length (map.keys m) → get_or (map.keys m) i 0 < 4294967296
  ids_of_keys m ids i low = ids (get_or (map.keys m) i 0) (map.contains_key-keys m (get_or (map.keys m) i 0) ∙ any_at (map.keys m) i low)

pub ids_empty : (X : Type 0) → UnderIds {X = X} map.empty
ids_empty X k some = no_value (map.get (map.empty {X = X}) k) (map.get-empty nat_cmp k) some
