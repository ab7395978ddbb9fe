-- What is seen of the entries, where lists or entries change.
use Rattle.std.proofs.Common.{◌≡◌, ◌≢◌, ℕ, List, ◌∷◌, [], ◌++◌, Option, None, Some, unwrap_or, refl, sym, ap, ◌∙◌}
use Rattle.std.specs.FinMap as map
use Rattle.finite_maps.specs.Tally.{Map, map_values, option_changed}
use Rattle.finite_maps.proofs.Gets.{at_each, alike, get-insert_same, get-insert_other}
use Rattle.finite_maps.proofs.Values.{get-map_values, map_values-insert}
use Rattle.rpc_machine.specs.declared.calls.HeldCall.{HeldCall}
use Rattle.vat_tables.specs.declared.held_pool.ListKey.{ListKey}
use Rattle.core_waits.specs.Waiting.{Lists, calls_of, calls_at, seen_by}
use Rattle.core_waits.specs.Owned.{key_of, list_in}

pub calls_kept : (lists more : Lists) (o : Option ListKey) → ((l : ℕ) → key_of o ≡ Some l → map.get more l ≡ map.get lists l) → calls_at more o ≡ calls_at lists o
calls_kept lists more None h = refl
calls_kept lists more (Some l) h = ap (λ (o : Option (List HeldCall)). unwrap_or o []) (h l.0 refl)

pub calls_put : (lists : Lists) (key : ListKey) (calls : List HeldCall) → calls_at (map.insert lists key.0 calls) (Some key) ≡ calls
calls_put lists key calls = ap (λ (o : Option (List HeldCall)). unwrap_or o []) (get-insert_same lists key.0 calls)

pub calls_of_put : (xs : List HeldCall) (x : HeldCall) → calls_of (xs ++ x ∷ []) ≡ calls_of xs ++ x.call ∷ []
calls_of_put [] x = refl
calls_of_put (y ∷ ys) x = ap (λ cs. y.call ∷ cs) (calls_of_put ys x)

module _ {E V : Type 0} (list_of : E → Option ListKey) (with_calls : E → List HeldCall → V) where
  seen_kept : (lists more : Lists) (o : Option E) → ((l : ℕ) → list_in list_of o ≡ Some l → map.get more l ≡ map.get lists l)
      → option_changed (seen_by list_of with_calls more) o ≡ option_changed (seen_by list_of with_calls lists) o
  seen_kept lists more None h = refl
  seen_kept lists more (Some e) h = ap (λ calls. Some (with_calls e calls)) (calls_kept lists more (list_of e) h)

  -- What is seen of the entry under a key.
  pub seen_here : (lists : Lists) (m : Map E) (k : ℕ) (e : E) → map.get m k ≡ Some e → map.get (map_values (seen_by list_of with_calls lists) m) k ≡ Some (with_calls e (calls_at lists (list_of e)))
  seen_here lists m k e there = get-map_values (seen_by list_of with_calls lists) m k ∙ ap (option_changed (seen_by list_of with_calls lists)) there

  -- The lists of all entries stay.
  pub each_kept : (lists more : Lists) (m : Map E) → ((q l : ℕ) → list_in list_of (map.get m q) ≡ Some l → map.get more l ≡ map.get lists l)
      → map_values (seen_by list_of with_calls more) m ≡ map_values (seen_by list_of with_calls lists) m
  each_kept lists more m h = alike _ _ (λ q. get-map_values (seen_by list_of with_calls more) m q ∙ seen_kept lists more (map.get m q) (h q) ∙ sym (get-map_values (seen_by list_of with_calls lists) m q))

  -- The lists of all other entries stay, and this one is set.
  pub one_set : (lists more : Lists) (m : Map E) (k : ℕ) (e : E) → ((q l : ℕ) → q ≢ k → list_in list_of (map.get m q) ≡ Some l → map.get more l ≡ map.get lists l)
      → map_values (seen_by list_of with_calls more) (map.insert m k e) ≡ map.insert (map_values (seen_by list_of with_calls lists) m) k (with_calls e (calls_at more (list_of e)))
  one_set lists more m k e h =
      map_values-insert (seen_by list_of with_calls more) m k e
      ∙ alike _ _ (at_each (λ q. map.get (map.insert (map_values (seen_by list_of with_calls more) m) k (with_calls e (calls_at more (list_of e)))) q
      ≡ map.get (map.insert (map_values (seen_by list_of with_calls lists) m) k (with_calls e (calls_at more (list_of e)))) q) k
      (get-insert_same (map_values (seen_by list_of with_calls more) m) k _ ∙ sym (get-insert_same (map_values (seen_by list_of with_calls lists) m) k _))
      (λ q far. get-insert_other (map_values (seen_by list_of with_calls more) m) k _ q far
      ∙ get-map_values (seen_by list_of with_calls more) m q ∙ seen_kept lists more (map.get m q) (λ l. h q l far) ∙ sym (get-map_values (seen_by list_of with_calls lists) m q)
      ∙ sym (get-insert_other (map_values (seen_by list_of with_calls lists) m) k _ q far)))
