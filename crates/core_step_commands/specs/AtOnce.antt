-- A call of the application that ends where it is made.
use Rattle.std.specs.Prelude.{◌≡◌, ℕ, None, Some, List, [], ◌∷◌, ◌++◌}
use Rattle.std.specs.FinMap as map
use Rattle.rpc_msg.specs.declared.exception.Exception.{Exception}
use Rattle.rpc_msg.specs.declared.ids.CallId.{CallId}
use Rattle.rpc_journal.specs.declared.report.Outcome.TheVariants as outcome
use Rattle.rpc_machine.specs.declared.calls.Caller.TheVariants as caller
use Rattle.rpc_machine.specs.declared.calls.OwnCall.{OwnCall}
use Rattle.rpc_machine.specs.declared.calls.Value.{Value}
use Rattle.rpc_machine.specs.declared.calls.Value.TheVariants as value
use Rattle.rpc_machine.specs.Nodes.{is_field}
use Rattle.rpc_machine.specs.Places.{names}
use Rattle.rpc_machine.specs.Progress.{Progress, with_state, tell_ended}
use Rattle.rpc_machine.specs.Settling.{known}
use Rattle.core_store.specs.Noted.{Notes}

-- One outcome arose, that of an unfinished call of the application, and it is this exception. It is not known, nothing
-- waits for it, and no place names a field of it.
pub record EndsAtOnce (d : Progress) (call : CallId) (told : Exception) : Type 0 where
  pub key : ℕ
  pub from : OwnCall
  pub arisen : d.arisen ≡ (key, value.Exception told) ∷ []
  pub outcome : map.get d.state.outcomes key ≡ Some (record { caller = caller.Application call; value = None; waiting = [] })
  pub unfinished : map.get d.state.calls call.0 ≡ Some from
  pub unnamed : names d.state (is_field key) ≡ 0

-- The outcome under that key is known to be the exception, the application is told the same of the call, and nothing is left
-- that arose. All else is as it was.
abbrev pub ended_by : Progress → ℕ → CallId → Exception → Progress
ended_by d key call told =
    tell_ended
    (with_state (record d { arisen = [] }) (known d.state key (caller.Application call) [] (value.Exception told)))
    (record { call = call; outcome = outcome.Exception told; refs = [] })

-- The call that ends at once has ended so.
pub record HasEnded (d new : Progress) (call : CallId) (told : Exception) : Type 0 where
  pub ends : EndsAtOnce d call told
  pub is : new ≡ ended_by d ends.key call told

-- The outcomes that arose are noted, behind those that were.
abbrev pub keys_of : List (ℕ × Value) → List ℕ
keys_of [] = []
keys_of (x ∷ xs) = x.0 ∷ keys_of xs

abbrev pub noted_with : Notes → List (ℕ × Value) → Notes
noted_with n arisen = record n { outcomes = n.outcomes ++ keys_of arisen }
