-- What a look-up of an entry says of what is seen.
use Rattle.std.proofs.Common.{◌≡◌, ℕ, Bool, List, [], ◌∷◌, Option, None, Some, is_some, unwrap_or, MatchBool, refl, sym, ap, subst, ◌∙◌}
use Rattle.std.specs.FinMap as map
use Rattle.finite_maps.specs.Tally.{Map, map_values, option_changed}
use Rattle.finite_maps.proofs.Values.{get-map_values, len-map_values}
use Rattle.rpc_machine.specs.declared.calls.HeldCall.{HeldCall}
use Rattle.rpc_machine.specs.declared.calls.Caller.{Caller}
use Rattle.rpc_machine.specs.declared.calls.KeptOutcome.{KeptOutcome}
use Rattle.vat_tables.specs.declared.held_pool.ListKey.{ListKey}
use Rattle.core_waits.specs.declared.entries.PromiseEntry.{PromiseEntry}
use Rattle.core_waits.specs.declared.entries.OutcomeEntry.{OutcomeEntry}
use Rattle.core_waits.specs.declared.entries.EmbargoEntry.{EmbargoEntry}
use Rattle.core_waits.specs.Waiting.{Lists, calls_at, seen_by, promise_list, promise_with, outcome_list, outcome_with, embargo_list, embargo_with}
use Rattle.core_waits.specs.Changes.{caller_of, HasNoneWaiting}
use Rattle.core_waits.specs.Owned.{InOutcome, key_of, list_in, list_at, HasCalls, IsOwned}
use Rattle.core_waits.proofs.Seeing.{seen_here}

pub there_seen : (lists : Lists) (ps : Map PromiseEntry) (k : ℕ) → is_some (map.get (map_values (seen_by promise_list promise_with lists) ps) k) ≡ is_some (map.get ps k)
there_seen lists ps k = ap is_some (get-map_values (seen_by promise_list promise_with lists) ps k) ∙ by (map.get ps k)
  where
    by : (o : Option PromiseEntry) → is_some (option_changed (seen_by promise_list promise_with lists) o) ≡ is_some o
    by None = refl
    by (Some e) = refl

abbrev pub caller_in : Option OutcomeEntry → Option Caller
caller_in None = None
caller_in (Some e) = Some e.caller

pub caller_seen : (lists : Lists) (os : Map OutcomeEntry) (k : ℕ) → caller_of (map.get (map_values (seen_by outcome_list outcome_with lists) os) k) ≡ caller_in (map.get os k)
caller_seen lists os k = ap caller_of (get-map_values (seen_by outcome_list outcome_with lists) os k) ∙ by (map.get os k)
  where
    by : (o : Option OutcomeEntry) → caller_of (option_changed (seen_by outcome_list outcome_with lists) o) ≡ caller_in o
    by None = refl
    by (Some e) = refl

pub promises_seen : (lists : Lists) (ps : Map PromiseEntry) → map.len (map_values (seen_by promise_list promise_with lists) ps) ≡ map.len ps
promises_seen lists ps = len-map_values (seen_by promise_list promise_with lists) ps

pub outcomes_seen : (lists : Lists) (os : Map OutcomeEntry) → map.len (map_values (seen_by outcome_list outcome_with lists) os) ≡ map.len os
outcomes_seen lists os = len-map_values (seen_by outcome_list outcome_with lists) os

pub embargoes_seen : (lists : Lists) (es : Map EmbargoEntry) → map.len (map_values (seen_by embargo_list embargo_with lists) es) ≡ map.len es
embargoes_seen lists es = len-map_values (seen_by embargo_list embargo_with lists) es

abbrev pub Awaited : Bool → Option KeptOutcome → Type 0
Awaited b o = MatchBool b (¬ (HasNoneWaiting o)) (HasNoneWaiting o)

-- An outcome has a list exactly where calls wait for it.
pub awaited : (ps : Map PromiseEntry) (os : Map OutcomeEntry) (es : Map EmbargoEntry) (taken : Option ListKey) (lists : Lists) (k : ℕ) (e : OutcomeEntry) (b : Bool) → IsOwned (list_at ps os es taken) lists → map.get os k ≡ Some e → b ≡ is_some e.list
    → Awaited b (map.get (map_values (seen_by outcome_list outcome_with lists) os) k)
awaited ps os es taken lists k e b h there is =
    subst (Awaited b) (sym (seen_here outcome_list outcome_with lists os k e there))
    (subst (λ (b : Bool). Awaited b (Some (outcome_with e (calls_at lists e.list)))) (sym is) (by e.list refl))
  where
    some : (o : Option (List HeldCall)) → HasCalls o → ¬ (unwrap_or o [] ≡ [])
    some None has none = has
    some (Some []) has none = has
    some (Some (x ∷ xs)) has none = cc

    by : (o : Option ListKey) → e.list ≡ o → Awaited (is_some o) (Some (outcome_with e (calls_at lists o)))
    by None at = refl
    by (Some l) at = some (map.get lists l.0) (h.there (InOutcome k) l.0 (ap (list_in outcome_list) there ∙ ap key_of at))

pub not_awaited : (lists : Lists) (os : Map OutcomeEntry) (k : ℕ) → map.get os k ≡ None → HasNoneWaiting (map.get (map_values (seen_by outcome_list outcome_with lists) os) k)
not_awaited lists os k none =
    subst HasNoneWaiting (sym (get-map_values (seen_by outcome_list outcome_with lists) os k ∙ ap (option_changed (seen_by outcome_list outcome_with lists)) none)) tt
