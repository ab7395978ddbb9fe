-- A map with other values under the same keys: its entries, what it answers, and that it changes as the first map does.
use Rattle.std.specs.Prelude.{◌≡◌, ℕ, suc, ◌+◌, Bool, true, false, cond, ◌&&◌, T, Option, Some, List, [], ◌∷◌, length, refl}
use Rattle.std.specs.Ordering.{nat_cmp, eq_by_cmp, is_lt}
use Rattle.std.specs.FinMap.{empty, get, insert, remove, len, entries, find, is_sorted, entries_sorted, entries-from_sorted, get-entries, get-empty, len-entries}
use Rattle.std.specs.FinMap.Entries.{below_all}
use Rattle.std.proofs.Common.{sym, ◌∙◌, ap, subst}
use Rattle.finite_maps.specs.Tally.{Map, tally, tally_of, map_values, changed_each, option_changed}
use Rattle.finite_maps.proofs.Gets.{at_each, alike, get-insert_same, get-insert_other, get-remove_same, get-remove_other, insert_same}

module _ {X Y : Type 0} (f : X → Y) where
  below-changed : (k : ℕ) (es : List (ℕ × X)) → below_all nat_cmp k (changed_each f es) ≡ below_all nat_cmp k es
  below-changed k [] = refl
  below-changed k (e ∷ es) = ap (λ b. is_lt (nat_cmp k e.0) && b) (below-changed k es)

  sorted-changed : (es : List (ℕ × X)) → is_sorted nat_cmp (changed_each f es) ≡ is_sorted nat_cmp es
  sorted-changed [] = refl
  sorted-changed (e ∷ es) =
      ap (λ b. b && is_sorted nat_cmp (changed_each f es)) (below-changed e.0 es)
      ∙ ap (λ b. below_all nat_cmp e.0 es && b) (sorted-changed es)

  pub entries-map_values : (m : Map X) → entries (map_values f m) ≡ changed_each f (entries m)
  entries-map_values m = entries-from_sorted nat_cmp (changed_each f (entries m)) (subst T (sym (sorted-changed (entries m))) (entries_sorted m))

  changed_first : (b : Bool) (x : X) (o : Option X) → cond b (Some (f x)) (option_changed f o) ≡ option_changed f (cond b (Some x) o)
  changed_first true x o = refl
  changed_first false x o = refl

  find-changed : (es : List (ℕ × X)) (q : ℕ) → find nat_cmp q (changed_each f es) ≡ option_changed f (find nat_cmp q es)
  find-changed [] q = refl
  find-changed (e ∷ es) q =
      ap (λ o. cond (eq_by_cmp nat_cmp q e.0) (Some (f e.1)) o) (find-changed es q)
      ∙ changed_first (eq_by_cmp nat_cmp q e.0) e.1 (find nat_cmp q es)

  pub get-map_values : (m : Map X) (q : ℕ) → get (map_values f m) q ≡ option_changed f (get m q)
  get-map_values m q =
      get-entries (map_values f m) q
      ∙ ap (find nat_cmp q) (entries-map_values m)
      ∙ find-changed (entries m) q
      ∙ ap (option_changed f) (sym (get-entries m q))

  length-changed : (es : List (ℕ × X)) → length (changed_each f es) ≡ length es
  length-changed [] = refl
  length-changed (e ∷ es) = ap suc (length-changed es)

  pub len-map_values : (m : Map X) → len (map_values f m) ≡ len m
  len-map_values m = len-entries (map_values f m) ∙ ap length (entries-map_values m) ∙ length-changed (entries m) ∙ sym (len-entries m)

  tally-changed : (g : Y → ℕ) (es : List (ℕ × X)) → tally_of g (changed_each f es) ≡ tally_of (λ x. g (f x)) es
  tally-changed g [] = refl
  tally-changed g (e ∷ es) = ap (λ n. g (f e.1) + n) (tally-changed g es)

  pub tally-map_values : (g : Y → ℕ) (m : Map X) → tally g (map_values f m) ≡ tally (λ x. g (f x)) m
  tally-map_values g m = ap (tally_of g) (entries-map_values m) ∙ tally-changed g (entries m)

  pub map_values-empty : map_values f empty ≡ empty
  map_values-empty = alike _ _ (λ q. get-map_values empty q ∙ ap (option_changed f) (get-empty nat_cmp q) ∙ sym (get-empty nat_cmp q))

  pub map_values-insert : (m : Map X) (k : ℕ) (v : X) → map_values f (insert m k v) ≡ insert (map_values f m) k (f v)
  map_values-insert m k v =
      alike _ _ (at_each (λ q. get (map_values f (insert m k v)) q ≡ get (insert (map_values f m) k (f v)) q) k
      (get-map_values (insert m k v) k ∙ ap (option_changed f) (get-insert_same m k v) ∙ sym (get-insert_same (map_values f m) k (f v)))
      (λ q apart. get-map_values (insert m k v) q ∙ ap (option_changed f) (get-insert_other m k v q apart) ∙ sym (get-map_values m q) ∙ sym (get-insert_other (map_values f m) k (f v) q apart)))

  pub map_values-remove : (m : Map X) (k : ℕ) → map_values f (remove m k) ≡ remove (map_values f m) k
  map_values-remove m k =
      alike _ _ (at_each (λ q. get (map_values f (remove m k)) q ≡ get (remove (map_values f m) k) q) k
      (get-map_values (remove m k) k ∙ ap (option_changed f) (get-remove_same m k) ∙ sym (get-remove_same (map_values f m) k))
      (λ q apart. get-map_values (remove m k) q ∙ ap (option_changed f) (get-remove_other m k q apart) ∙ sym (get-map_values m q) ∙ sym (get-remove_other (map_values f m) k q apart)))

  -- A value that is changed alike is not seen to change.
  pub map_values-same : (m : Map X) (k : ℕ) (v w : X) → get m k ≡ Some v → f w ≡ f v → map_values f (insert m k w) ≡ map_values f m
  map_values-same m k v w there same =
      map_values-insert m k w
      ∙ insert_same (map_values f m) k (f w) (get-map_values m k ∙ ap (option_changed f) there ∙ ap Some (sym same))
