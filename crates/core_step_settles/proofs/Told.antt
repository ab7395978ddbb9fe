-- The application is told how a call ended.
use Rattle.std.proofs.Common.{◌≡◌, ℕ, ◌≤◌, List, [], ◌∷◌, refl, ap, ◌∙◌}
use Rattle.rpc_msg.specs.declared.ids.RefId.{RefId}
use Rattle.rpc_journal.specs.declared.report.Outcome.{Outcome}
use Rattle.rpc_machine.specs.declared.node.Node.{Node}
use Rattle.rpc_machine.specs.declared.calls.Value.{Value}
use Rattle.rpc_machine.specs.State.{State}
use Rattle.rpc_machine.specs.Progress.{Progress, with_state, tell_ended, with_refs, new_refs, outcome_of, caps_of}
use Rattle.rpc_machine.specs.Settling.{report}
use Rattle.core_store.specs.declared.store.Store.{Store}
use Rattle.core_store.specs.Holding.{state_of, IsSound}
use Rattle.core_step.specs.declared.step.Step.{Step}
use Rattle.core_step.specs.InProgress.{progress_of, IsReady}
use Rattle.core_step.proofs.Readying.{ready_same}

-- ---- New references change references alone

abbrev referred : State → Node → State
referred s n = with_refs s (n ∷ [])

abbrev refs_of : State → State → State
refs_of s t = record s { refs = t.refs; next_ref = t.next_ref }

pub refs_only : (s : State) (ns : List Node) → with_refs s ns ≡ refs_of s (with_refs s ns)
refs_only s [] = refl
refs_only s (n ∷ ns) = refs_only (referred s n) ns

-- ---- The report

module _ (x : Step) (ns : List Node) (new : Store) (made : state_of new ≡ with_refs (state_of x.store) ns) where
  pub ready_referred : IsReady x → IsSound new → new.slack ≤ x.store.slack → IsReady (record x { store = new })
  ready_referred h sound less =
      let only = made ∙ refs_only (state_of x.store) ns in
      ready_same x new h sound less (ap (λ (s : State). s.questions) only) (ap (λ (s : State). s.imports) only)

abbrev ends : Progress → ℕ → Outcome → List RefId → Progress
ends p c o ids = tell_ended p (record { call = record { 0 = c }; outcome = o; refs = ids })

-- d is what there was before room was made, x what there was then.
pub reported : (d : Progress) (x : Step) (c : ℕ) (v : Value) (o : Outcome) (caps ns : List Node) (ids : List RefId) (new : Store) (p : Progress)
    → progress_of x ≡ d → state_of new ≡ with_refs (state_of x.store) ns → ids ≡ new_refs x.store.next_ref ns → ns ≡ caps → o ≡ outcome_of v → caps ≡ caps_of v
    → p ≡ ends (progress_of (record x { store = new })) c o ids → p ≡ report d c v
reported d x c v o caps ns ids new p same made numbered lent out of said =
    let e : Progress = progress_of x in
    said ∙ ap (λ (s : State). ends (with_state e s) c o ids) made
    ∙ ap (λ (u : Outcome). ends (with_state e (with_refs e.state ns)) c u ids) out
    ∙ ap (ends (with_state e (with_refs e.state ns)) c (outcome_of v)) numbered
    ∙ ap (λ (ms : List Node). ends (with_state e (with_refs e.state ms)) c (outcome_of v) (new_refs e.state.next_ref ms)) (lent ∙ of)
    ∙ ap (λ (q : Progress). report q c v) same
