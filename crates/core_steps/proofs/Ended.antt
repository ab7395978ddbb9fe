-- A call that ended at once leaves nothing loose.
use Rattle.std.proofs.Common.{ℕ, [], Option, None, Some, refl, sym, subst}
use Rattle.std.specs.FinMap as map
use Rattle.finite_maps.proofs.Gets.{at_each, get-insert_same, get-insert_other}
use Rattle.rpc_msg.specs.declared.exception.Exception.{Exception}
use Rattle.rpc_msg.specs.declared.ids.CallId.{CallId}
use Rattle.rpc_machine.specs.declared.calls.Caller.{Caller}
use Rattle.rpc_machine.specs.declared.calls.Caller.TheVariants as caller
use Rattle.rpc_machine.specs.declared.calls.KeptOutcome.{KeptOutcome}
use Rattle.rpc_machine.specs.declared.calls.Value.TheVariants as value
use Rattle.rpc_machine.specs.State.{State}
use Rattle.rpc_machine.specs.Collecting.{IsLooseOutcome, CallerIsDone}
use Rattle.rpc_machine.specs.Progress.{Progress}
use Rattle.rpc_machine.specs.Settling.{known}
use Rattle.laws_acts.proofs.Promises.{outcome_known}
use Rattle.core_steps.specs.Thinking.{IsQuiet}
use Rattle.core_step_commands.specs.AtOnce.{EndsAtOnce, HasEnded}
use Rattle.core_steps.proofs.Quietly.{quiet_behind}

module _ (d : Progress) (call : CallId) (told : Exception) (h : EndsAtOnce d call told) where
  abbrev s : State
  s = d.state

  abbrev was : KeptOutcome
  was = record { caller = caller.Application call; value = None; waiting = [] }

  abbrev now : KeptOutcome
  now = record { caller = caller.Application call; value = Some (value.Exception told); waiting = [] }

  abbrev t : State
  t = known d.state h.key (caller.Application call) [] (value.Exception told)

  loose : (o : ℕ) → IsLooseOutcome t o (map.get (map.insert s.outcomes h.key now) o) → IsLooseOutcome t o (map.get s.outcomes o)
  loose = at_each (λ o. IsLooseOutcome t o (map.get (map.insert s.outcomes h.key now) o) → IsLooseOutcome t o (map.get s.outcomes o)) h.key
      (λ i. let at : IsLooseOutcome t h.key (Some now) = subst (λ (o : Option KeptOutcome). IsLooseOutcome t h.key o) (get-insert_same s.outcomes h.key now) i in
      let done = at.1 in let unfinished = h.unfinished in cc)
      (λ o apart i. subst (λ (y : Option KeptOutcome). IsLooseOutcome t o y) (get-insert_other s.outcomes h.key now o apart) i)

  before : (o : ℕ) (who : Caller) → CallerIsDone t o who → CallerIsDone s o who
  before o (caller.Application c) i = i
  before o (caller.Peer q) i = i

  calm_known : IsQuiet d.state → IsQuiet t
  calm_known calm =
      quiet_behind s t [] (outcome_known s h.key was (value.Exception told) h.outcome refl)
      (record { promises = λ p i. i; outcomes = loose; imports = λ e i. i; questions = λ q i. i; callers = before; calls = λ c i. i })
      calm

pub calm_ended : (d new : Progress) (call : CallId) (told : Exception) → HasEnded d new call told → IsQuiet d.state → IsQuiet new.state
calm_ended d new call told h calm = subst (λ (p : Progress). IsQuiet p.state) (sym h.is) (calm_known d call told h.ends calm)
