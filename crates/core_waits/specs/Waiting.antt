-- What contracts see of all that waits: the promises, outcomes and embargoes of the machine's state, each with the calls
-- that wait there, the calls that were taken out to be routed, how many calls these are in all, and how many more entries
-- of each kind, and calls, need no more memory.
use Rattle.std.specs.Prelude.{ℕ, ◌≤◌, Option, None, Some, List, [], ◌∷◌, length, unwrap_or, refl}
use Rattle.std.specs.Coded.{Coded, code_by, coded×, coded_ℕ, coded_list}
use Rattle.std.specs.FinMap as map
use Rattle.finite_maps.specs.Tally.{Map, map_values, tally}
use Rattle.rpc_machine.specs.contracts.calls.HeldCall as held_row
use Rattle.rpc_machine.specs.contracts.calls.Promise as promise_row
use Rattle.rpc_machine.specs.contracts.calls.KeptOutcome as outcome_row
use Rattle.rpc_machine.specs.contracts.entries.Embargo as embargo_row
use Rattle.rpc_machine.specs.declared.calls.WaitingCall.{WaitingCall}
use Rattle.rpc_machine.specs.declared.calls.HeldCall.{HeldCall}
use Rattle.rpc_machine.specs.declared.calls.Promise.{Promise}
use Rattle.rpc_machine.specs.declared.calls.Promise.TheVariants as promise
use Rattle.rpc_machine.specs.declared.calls.KeptOutcome.{KeptOutcome}
use Rattle.rpc_machine.specs.declared.entries.Embargo.{Embargo}
use Rattle.vat_tables.specs.declared.held_pool.ListKey.{ListKey}
use Rattle.vat_tables.specs.Pool.{Pool}
use Rattle.vat_tables.specs.Table.{Table}
use Rattle.core_waits.specs.declared.entries.PromiseEntry.{PromiseEntry}
use Rattle.rpc_machine.specs.declared.node.Node.{Node}
use Rattle.core_waits.specs.declared.entries.OutcomeEntry.{OutcomeEntry}
use Rattle.core_waits.specs.declared.entries.EmbargoEntry.{EmbargoEntry}

pub record Waiting : Type 0 where
  pub promises : Map Promise
  pub outcomes : Map KeptOutcome
  pub embargoes : Map Embargo
  pub taken : List HeldCall
  pub held : ℕ
  pub room : ℕ

abbrev pub waiting_code : Coded Waiting
waiting_code =
    code_by
    (((Map Promise × Map KeptOutcome) × Map Embargo) × (List HeldCall × (ℕ × ℕ)))
    (coded×
    (coded× (coded× (map.code coded_ℕ promise_row.the_row.coded) (map.code coded_ℕ outcome_row.the_row.coded)) (map.code coded_ℕ embargo_row.the_row.coded))
    (coded× (coded_list held_row.the_row.coded) (coded× coded_ℕ coded_ℕ)))
    (λ w. (((w.promises, w.outcomes), w.embargoes), (w.taken, (w.held, w.room))))
    (λ p. record { promises = p.0.0.0; outcomes = p.0.0.1; embargoes = p.0.1; taken = p.1.0; held = p.1.1.0; room = p.1.1.1 })
    (λ w. refl)

abbrev pub Lists : Type 0
Lists = Map (List HeldCall)

-- The calls, without the paths that they wait for.
abbrev pub calls_of : List HeldCall → List WaitingCall
calls_of [] = []
calls_of (h ∷ hs) = h.call ∷ calls_of hs

-- A call that waits, but for no path.
abbrev pub at_no_path : WaitingCall → HeldCall
at_no_path call = record { path = []; call = call }

-- The calls of a list.
abbrev pub calls_at : Lists → Option ListKey → List HeldCall
calls_at lists None = []
calls_at lists (Some l) = unwrap_or (map.get lists l.0) []

-- The list of an entry, and the entry as contracts see it, with the calls of its list.
abbrev pub promise_list : PromiseEntry → Option ListKey
promise_list e = e.list

abbrev pub promise_at : Option Node → List HeldCall → Promise
promise_at None calls = promise.Open (calls_of calls)
promise_at (Some to) calls = promise.Fixed to

abbrev pub promise_with : PromiseEntry → List HeldCall → Promise
promise_with e calls = promise_at e.to calls

abbrev pub outcome_list : OutcomeEntry → Option ListKey
outcome_list e = e.list

abbrev pub outcome_with : OutcomeEntry → List HeldCall → KeptOutcome
outcome_with e calls = record { caller = e.caller; value = e.value; waiting = calls }

abbrev pub embargo_list : EmbargoEntry → Option ListKey
embargo_list e = e.list

abbrev pub embargo_with : EmbargoEntry → List HeldCall → Embargo
embargo_with e calls = record { reference = e.reference; node = e.node; waiting = calls_of calls }

abbrev pub seen_by : {E V : Type 0} → (E → Option ListKey) → (E → List HeldCall → V) → Lists → E → V
seen_by list_of with_calls lists e = with_calls e (calls_at lists (list_of e))

abbrev pub waiting_of : Map PromiseEntry → Map OutcomeEntry → Map EmbargoEntry → Option ListKey → Lists → ℕ → Waiting
waiting_of promises outcomes embargoes taken lists room = record {
  promises = map_values (seen_by promise_list promise_with lists) promises;
  outcomes = map_values (seen_by outcome_list outcome_with lists) outcomes;
  embargoes = map_values (seen_by embargo_list embargo_with lists) embargoes;
  taken = calls_at lists taken;
  held = tally length lists;
  room = room;
}

-- So many more entries of each kind, and calls, fit.
pub record HasRoom (promises : Table PromiseEntry) (outcomes : Table OutcomeEntry) (embargoes : Table EmbargoEntry) (pool : Pool HeldCall) (room : ℕ) : Type 0 where
  pub for_promises : room ≤ promises.room
  pub for_outcomes : room ≤ outcomes.room
  pub for_embargoes : room ≤ embargoes.room
  pub for_calls : room ≤ pool.room
