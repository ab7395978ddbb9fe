-- What a change of a map does to a sum over its entries.
use Rattle.std.specs.Prelude.{◌≡◌, T, ◌≤◌, ℕ, ◌+◌, cond, Option, None, Some, List, [], ◌∷◌, length, refl}
use Rattle.std.specs.declared.cmp.Ordering.{Ordering}
use Rattle.std.specs.declared.cmp.Ordering.TheVariants.{Less, Equal, Greater}
use Rattle.std.specs.Ordering.{nat_cmp, is_eq}
use Rattle.std.specs.Cmp.{nat_cmp_total}
use Rattle.std.specs.FinMap.{empty, get, insert, remove, entries, entries_sorted, is_sorted, find, put, get-entries, entries-insert, len-entries, len-empty}
use Rattle.std.specs.FinMap.Entries.{by_order}
use Rattle.std.proofs.Common.{sym, ◌∙◌, ap, arith, zero-add}
use Rattle.finite_maps.specs.Tally.{Map, tally, tally_of, worth}
use Rattle.finite_maps.proofs.Sorted.{behind, first_entry, later_entry, sorted_tail}
use Rattle.finite_maps.proofs.Gets.{put_back, get-remove_same, insert_removed, remove_absent}

module _ {X : Type 0} (f : X → ℕ) where
  of_none : (es : List (ℕ × X)) → length es ≡ 0 → tally_of f es ≡ 0
  of_none [] none = refl
  of_none (e ∷ es) some = absurd (omega arith)

  pub tally-empty : tally f empty ≡ 0
  tally-empty = of_none (entries empty) (sym (len-entries empty) ∙ len-empty nat_cmp X)

  put_front : (k : ℕ) (v : X) (e : ℕ × X) (es : List (ℕ × X)) (o : Ordering) → cond (is_eq o) (Some e.1) (find nat_cmp k es) ≡ None
      → tally_of f (put nat_cmp k v es) ≡ f v + tally_of f es
      → tally_of f (by_order o ((k, v) ∷ e ∷ es) ((e.0, v) ∷ es) (e ∷ put nat_cmp k v es)) ≡ f v + (f e.1 + tally_of f es)
  put_front k v e es Less free ih = refl
  put_front k v e es Equal free ih = absurd (let h : ◌≡◌ {A = Option X} (Some e.1) None = free in cc)
  put_front k v e es Greater free ih = omega (arith, ih)

  find_behind : (k : ℕ) (e : ℕ × X) (es : List (ℕ × X)) (o : Ordering) → cond (is_eq o) (Some e.1) (find nat_cmp k es) ≡ None → find nat_cmp k es ≡ None
  find_behind k e es Less free = free
  find_behind k e es Equal free = absurd (let h : ◌≡◌ {A = Option X} (Some e.1) None = free in cc)
  find_behind k e es Greater free = free

  tally-put : (k : ℕ) (v : X) (es : List (ℕ × X)) → find nat_cmp k es ≡ None → tally_of f (put nat_cmp k v es) ≡ f v + tally_of f es
  tally-put k v [] free = refl
  tally-put k v (e ∷ es) free = put_front k v e es (nat_cmp k e.0) free (tally-put k v es (find_behind k e es (nat_cmp k e.0) free))

  -- A new entry adds what it counts for.
  pub tally-new : (m : Map X) (k : ℕ) (v : X) → get m k ≡ None → tally f (insert m k v) ≡ f v + tally f m
  tally-new m k v free = ap (tally_of f) (entries-insert nat_cmp_total m k v) ∙ tally-put k v (entries m) (sym (get-entries m k) ∙ free)

  -- The sum is that of the others and of what is there.
  pub tally-split : (m : Map X) (k : ℕ) (v : X) → get m k ≡ Some v → tally f m ≡ f v + tally f (remove m k)
  tally-split m k v there = sym (ap (tally f) (put_back m k v there)) ∙ tally-new (remove m k) k v (get-remove_same m k)

  -- What an insert leaves is the new entry and the others.
  pub tally-insert : (m : Map X) (k : ℕ) (v : X) → tally f (insert m k v) ≡ f v + tally f (remove m k)
  tally-insert m k v = sym (ap (tally f) (insert_removed m k v)) ∙ tally-new (remove m k) k v (get-remove_same m k)

  removed : (m : Map X) (k : ℕ) (o : Option X) → get m k ≡ o → tally f m ≡ worth f o + tally f (remove m k)
  removed m k None free = ap (tally f) (sym (remove_absent m k free)) ∙ sym (zero-add (tally f (remove m k)))
  removed m k (Some v) there = tally-split m k v there

  -- Without an entry, the sum lacks what it counted for.
  pub tally-remove : (m : Map X) (k : ℕ) → tally f m ≡ worth f (get m k) + tally f (remove m k)
  tally-remove m k = removed m k (get m k) refl

  -- Another value under a key that counts for as much leaves the sum.
  pub tally-same : (m : Map X) (k : ℕ) (v w : X) → get m k ≡ Some v → f w ≡ f v → tally f (insert m k w) ≡ tally f m
  tally-same m k v w there same = tally-insert m k w ∙ ap (λ n. n + tally f (remove m k)) same ∙ sym (tally-split m k v there)

  none_of : (es : List (ℕ × X)) → T (is_sorted nat_cmp es) → ((k : ℕ) (x : X) → find nat_cmp k es ≡ Some x → f x ≡ 0) → tally_of f es ≡ 0
  none_of [] s h = refl
  none_of (e ∷ es) s h =
      let g = sorted_tail e.0 es s in
      let one : f e.1 ≡ 0 = h e.0 e.1 (first_entry e es) in
      let two : tally_of f es ≡ 0 = none_of es g.1 (λ (k : ℕ) (x : X) i. h k x (later_entry e es k (behind e.0 es k x g.0 i) ∙ i)) in
      omega arith

  -- Where no entry counts for anything the sum is 0.
  pub tally-none : (m : Map X) → ((k : ℕ) (x : X) → get m k ≡ Some x → f x ≡ 0) → tally f m ≡ 0
  tally-none m h = none_of (entries m) (entries_sorted m) (λ k x g. h k x (get-entries m k ∙ g))

  -- An entry counts for no more than the sum.
  pub tally-within : (m : Map X) (k : ℕ) (x : X) → get m k ≡ Some x → f x ≤ tally f m
  tally-within m k x e = let g = tally-split m k x e in omega arith
