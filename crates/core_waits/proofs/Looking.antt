-- Whether a call of a reference is in a list, and in the lists of a table's entries.
use Rattle.std.proofs.Common.{◌≡◌, ℕ, Bool, true, false, ◌||◌, List, [], ◌∷◌, Any, All, Bor, MatchBool, refl, sym, ap, ◌∙◌}
use Rattle.std.specs.List.{list_any}
use Rattle.std.specs.FinMap as map
use Rattle.std.proofs.lemmas.List.Folds.{list_any-append, list_any-from_Any, list_any_none}
use Rattle.finite_maps.specs.Tally.{Map, map_values, changed_each}
use Rattle.finite_maps.proofs.Values.{entries-map_values}
use Rattle.rpc_msg.specs.declared.ids.Stamp.{Stamp}
use Rattle.rpc_machine.specs.declared.calls.HeldCall.{HeldCall}
use Rattle.rpc_machine.specs.declared.calls.Promise.{Promise}
use Rattle.rpc_machine.specs.declared.calls.Promise.TheVariants as promise
use Rattle.rpc_machine.specs.Lists.{from_each, of_map}
use Rattle.rpc_machine.specs.Queries.{stamps_of_calls, stamps_of_held, stamps_at_promise}
use Rattle.core_waits.specs.Waiting.{calls_of}

abbrev pub stamp_in : HeldCall → Stamp
stamp_in h = h.call.request.stamp

module _ (t : Stamp → Bool) where
  pub by_calls : (hs : List HeldCall) → list_any (λ h. t (stamp_in h)) hs ≡ list_any t (stamps_of_held hs)
  by_calls [] = refl
  by_calls (h ∷ hs) = ap (λ b. t (stamp_in h) || b) (by_calls hs)

  abbrev shows : (Bor HeldCall → Type 0) → HeldCall → Type 0
  shows P h = (x : Bor HeldCall) × (x.now ≡ h) × P x

  -- What a search of a list of calls says.
  pub searched : (Found Missed : Bor HeldCall → Type 0) (b : Bool) (hs : List HeldCall)
      → ((x : Bor HeldCall) → Found x → t (stamp_in x.now) ≡ true) → ((x : Bor HeldCall) → Missed x → t (stamp_in x.now) ≡ false)
      → MatchBool b (Any (shows Found) hs) (All (shows Missed) hs) → b ≡ list_any t (stamps_of_held hs)
  searched Found Missed true hs found missed is =
      sym (list_any-from_Any (λ h. t (stamp_in h)) hs (is.0, is.1, is.2, is.3, ap (λ h. t (stamp_in h)) (sym is.4.1) ∙ found is.4.0 is.4.2)) ∙ by_calls hs
  searched Found Missed false hs found missed is =
      sym (list_any_none (λ h. t (stamp_in h)) hs (λ k d less. let here = is k d less in ap (λ h. t (stamp_in h)) (sym here.1) ∙ missed here.0 here.2)) ∙ by_calls hs

-- The paths that calls wait for make no difference.
pub without_paths : (hs : List HeldCall) → stamps_of_calls (calls_of hs) ≡ stamps_of_held hs
without_paths [] = refl
without_paths (h ∷ hs) = ap (λ (ss : List Stamp). stamp_in h ∷ ss) (without_paths hs)

-- Nor does the key of a promise.
pub under_any_key : (k j : ℕ) (x : Promise) → stamps_at_promise k x ≡ stamps_at_promise j x
under_any_key k j (promise.Open calls) = refl
under_any_key k j (promise.Fixed to) = refl

-- ---- The entries of a table, one by one

module _ {E V : Type 0} (t : Stamp → Bool) (stamps : ℕ → V → List Stamp) (seen : E → V) where
  -- Some stamp of these entries is so.
  abbrev pub some_in : List (ℕ × E) → Bool
  some_in es = list_any t (from_each stamps (changed_each seen es))

  pub some_in_next : (es rest : List (ℕ × E)) (k : ℕ) (e : E) → es ≡ (k, e) ∷ rest → some_in es ≡ (list_any t (stamps k (seen e)) || some_in rest)
  some_in_next es rest k e next = ap some_in next ∙ list_any-append t (stamps k (seen e)) (from_each stamps (changed_each seen rest))

  pub some_here : (es rest : List (ℕ × E)) (k : ℕ) (e : E) → es ≡ (k, e) ∷ rest → list_any t (stamps k (seen e)) ≡ true → some_in es ≡ true
  some_here es rest k e next here = some_in_next es rest k e next ∙ ap (λ b. b || some_in rest) here

  pub none_here : (es rest : List (ℕ × E)) (k : ℕ) (e : E) → es ≡ (k, e) ∷ rest → list_any t (stamps k (seen e)) ≡ false → some_in rest ≡ some_in es
  none_here es rest k e next none = sym (some_in_next es rest k e next ∙ ap (λ b. b || some_in rest) none)

  pub some_in_map : (m : Map E) → some_in (map.entries m) ≡ list_any t (of_map stamps (map_values seen m))
  some_in_map m = ap (λ (vs : List (ℕ × V)). list_any t (from_each stamps vs)) (sym (entries-map_values seen m))
