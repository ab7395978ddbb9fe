-- Each list of calls is that of one entry, or was taken out.
use Rattle.std.specs.Prelude.{◌≡◌, ℕ, Option, None, Some, List, [], ◌∷◌}
use Rattle.std.specs.FinMap as map
use Rattle.finite_maps.specs.Tally.{Map}
use Rattle.rpc_machine.specs.declared.calls.HeldCall.{HeldCall}
use Rattle.vat_tables.specs.declared.held_pool.ListKey.{ListKey}
use Rattle.core_waits.specs.declared.entries.PromiseEntry.{PromiseEntry}
use Rattle.core_waits.specs.declared.entries.OutcomeEntry.{OutcomeEntry}
use Rattle.core_waits.specs.declared.entries.EmbargoEntry.{EmbargoEntry}
use Rattle.core_waits.specs.Waiting.{Lists, promise_list, outcome_list, embargo_list}

-- Where a list may stand.
pub data Owner : Type 0 where
  InPromise : ℕ → Owner
  InOutcome : ℕ → Owner
  InEmbargo : ℕ → Owner
  Taken : Owner

abbrev pub key_of : Option ListKey → Option ℕ
key_of None = None
key_of (Some l) = Some l.0

-- The list of an entry, if the entry is there and has one.
abbrev pub list_in : {E : Type 0} → (E → Option ListKey) → Option E → Option ℕ
list_in list_of None = None
list_in list_of (Some e) = key_of (list_of e)

-- The list that stands there.
abbrev pub list_at : Map PromiseEntry → Map OutcomeEntry → Map EmbargoEntry → Option ListKey → Owner → Option ℕ
list_at promises outcomes embargoes taken (InPromise k) = list_in promise_list (map.get promises k)
list_at promises outcomes embargoes taken (InOutcome k) = list_in outcome_list (map.get outcomes k)
list_at promises outcomes embargoes taken (InEmbargo k) = list_in embargo_list (map.get embargoes k)
list_at promises outcomes embargoes taken Taken = key_of taken

-- There is a call at least.
abbrev pub HasCalls : Option (List HeldCall) → Type 0
HasCalls None = ⊥
HasCalls (Some []) = ⊥
HasCalls (Some (h ∷ hs)) = Unit {0}

-- A list stands in one place alone, and has calls.
pub record IsOwned (at : Owner → Option ℕ) (lists : Lists) : Type 0 where
  pub owned : (v w : Owner) (l : ℕ) → at v ≡ Some l → at w ≡ Some l → v ≡ w
  pub there : (v : Owner) (l : ℕ) → at v ≡ Some l → HasCalls (map.get lists l)

-- The list, if one is meant, is in the pool.
abbrev pub IsListed : Lists → Option ListKey → Type 0
IsListed lists None = Unit {0}
IsListed lists (Some l) = HasCalls (map.get lists l.0)

-- The key of that list, or of none.
abbrev pub IsPlace : Lists → Option ListKey → ℕ → Type 0
IsPlace lists None key = map.get lists key ≡ None
IsPlace lists (Some l) key = l.0 ≡ key
