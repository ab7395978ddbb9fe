-- An outcome becomes known: the pieces, put together.
use Rattle.std.proofs.Common.{◌≡◌, inl, inr, ℕ, ◌≤◌, List, [], Option, Some, None, sym, ap, subst, ◌∙◌}
use Rattle.std.specs.FinMap as map
use Rattle.finite_maps.proofs.Gets.{get-insert_same, insert_same}
use Rattle.rpc_machine.specs.declared.calls.HeldCall.{HeldCall}
use Rattle.rpc_machine.specs.declared.calls.KeptOutcome.{KeptOutcome}
use Rattle.rpc_machine.specs.declared.calls.Caller.{Caller}
use Rattle.rpc_machine.specs.declared.calls.Value.{Value}
use Rattle.rpc_machine.specs.State.{State}
use Rattle.rpc_machine.specs.Nodes.{is_field}
use Rattle.rpc_machine.specs.Progress.{Progress, with_state}
use Rattle.rpc_machine.specs.Routing.{RoutesHeld}
use Rattle.rpc_machine.specs.Settling.{Fits, known, Tells, SendsResolves, SettlesOpen, SettlesFrom, SettlesOutcome}
use Rattle.core_waits.specs.Changes.{caller_of, HasNoneWaiting}
use Rattle.core_store.specs.declared.store.Store.{Store}
use Rattle.core_store.specs.Holding.{state_of, IsSound}
use Rattle.core_store_waits.specs.Changes.{KnowsFrom, Knows, TakesHeld}
use Rattle.core_step.specs.declared.step.Step.{Step}
use Rattle.core_step.specs.InProgress.{IsReady}
use Rattle.core_step.proofs.Readying.{ready_same}
use Rattle.core_step_settles.proofs.Collected.{IsSameOrGone}
use Rattle.core_step_settles.proofs.Said.{tells_leaves}
use Rattle.core_step_settles.proofs.Fewer.{fits}

-- ---- What becomes known, and what is taken out, change the outcomes alone

abbrev outcomes_of : State → State → State
outcomes_of s t = record s { outcomes = t.outcomes }

knows_only : (s : State) (o : ℕ) (v : Value) (e : Option KeptOutcome) (t : State) → Knows s o v e t → t ≡ outcomes_of s t
knows_only s o v None t h = absurd h
knows_only s o v (Some x) t h = from x.value h
  where
    from : (b : Option Value) → KnowsFrom s o v x b t → t ≡ outcomes_of s t
    from (Some before) h = absurd h
    from None h = h ∙ ap (outcomes_of s) (sym h)

takes_only : (s : State) (o : ℕ) (e : Option KeptOutcome) (t : State) (held : List HeldCall) → TakesHeld s o e t held → t ≡ outcomes_of s t
takes_only s o None t held h = absurd h
takes_only s o (Some x) t held h = h.1 ∙ ap (outcomes_of s) (sym h.1)

module _ (x : Step) (new : Store) (h : IsReady x) (sound : IsSound new) (less : new.slack ≤ x.store.slack) where
  only : state_of new ≡ outcomes_of (state_of x.store) (state_of new) → IsReady (record x { store = new })
  only e = ready_same x new h sound less (ap (λ (s : State). s.questions) e) (ap (λ (s : State). s.imports) e)

  pub ready_known : (o : ℕ) (v : Value) (e : Option KeptOutcome) → Knows (state_of x.store) o v e (state_of new) → IsReady (record x { store = new })
  ready_known o v e k = only (knows_only (state_of x.store) o v e (state_of new) k)

  pub ready_freed : (o : ℕ) (e : Option KeptOutcome) (held : List HeldCall) → TakesHeld (state_of x.store) o e (state_of new) held → IsReady (record x { store = new })
  ready_freed o e held t = only (takes_only (state_of x.store) o e (state_of new) held t)

-- Where none waits, none is taken out.
pub none_to_take : (s : State) (o : ℕ) (who : Caller) (e : Option KeptOutcome) → map.get s.outcomes o ≡ e → Some who ≡ caller_of e → HasNoneWaiting e → TakesHeld s o e s []
none_to_take s o who None there is none = let bad : ◌≡◌ {A = Option Caller} (Some who) None = is in absurd (cc)
none_to_take s o who (Some x) there is none =
    let again : record x { waiting = [] } ≡ x = ap (λ (hs : List HeldCall). record x { waiting = hs }) (sym none) in
    (sym none, ap (λ (m : _). record s { outcomes = m }) (sym (ap (λ (y : KeptOutcome). map.insert s.outcomes o y) again ∙ insert_same s.outcomes o x there)))

-- ---- The whole

-- An outcome that is there still was not changed.
taken_so : (d : Progress) (o : ℕ) (y : KeptOutcome) (e : Option KeptOutcome) (taken : State) (held : List HeldCall) → IsSameOrGone (Some y) e → TakesHeld d.state o e taken held
    → TakesHeld d.state o (Some y) taken held
taken_so d o y e taken held (inl same) h = subst (λ (z : Option KeptOutcome). TakesHeld d.state o z taken held) same h
taken_so d o y e taken held (inr gone) h = absurd (subst (λ (z : Option KeptOutcome). TakesHeld d.state o z taken held) gone h)

module _ (d : Progress) (o : ℕ) (v fit : Value) (fitted knew : State) (told : Progress) (taken : State) (routed new : Progress) (held : List HeldCall) where
  settles_open : (x : KeptOutcome) (b : Option Value) → Fits d.state o x.caller x.waiting v fit fitted → KnowsFrom fitted o fit x b knew
      → Tells (with_state d knew) x.caller fit told → TakesHeld told.state o (map.get told.state.outcomes o) taken held
      → RoutesHeld (with_state told taken) o held routed → SendsResolves routed None (is_field o) new → SettlesOpen d o v x b new
  settles_open x (Some before) f k tells takes routes sends = absurd k
  settles_open x None f k tells takes routes sends =
      let y : KeptOutcome = record { caller = x.caller; value = Some fit; waiting = x.waiting } in
      let is : knew ≡ known fitted o x.caller x.waiting fit = k in
      let there : map.get knew.outcomes o ≡ Some y = ap (λ (s : State). map.get s.outcomes o) is ∙ get-insert_same fitted.outcomes o y in
      let left : IsSameOrGone (Some y) (map.get told.state.outcomes o) =
      subst (λ (e : Option KeptOutcome). IsSameOrGone e (map.get told.state.outcomes o)) there (tells_leaves (with_state d knew) x.caller fit told tells o) in
      let took : TakesHeld told.state o (Some y) taken held = taken_so told o y (map.get told.state.outcomes o) taken held left takes in
      let tell : Tells (with_state d (known fitted o x.caller x.waiting fit)) x.caller fit told = subst (λ (s : State). Tells (with_state d s) x.caller fit told) is tells in
      let route : RoutesHeld (with_state told (known told.state o x.caller [] fit)) o x.waiting routed =
      subst (λ (s : State). RoutesHeld (with_state told s) o x.waiting routed) took.1 (subst (λ (hs : List HeldCall). RoutesHeld (with_state told taken) o hs routed) took.0 routes) in
      (fit, fitted, f, (told, tell, (routed, route, sends)))

  settles_from : (e : Option KeptOutcome) (who : Caller) → Some who ≡ caller_of e → ((w : Caller) (waiting : List HeldCall) → Fits d.state o w waiting v fit fitted) → Knows fitted o fit e knew
      → Tells (with_state d knew) who fit told → TakesHeld told.state o (map.get told.state.outcomes o) taken held
      → RoutesHeld (with_state told taken) o held routed → SendsResolves routed None (is_field o) new → SettlesFrom d o v e new
  settles_from None who is f k tells takes routes sends = absurd k
  settles_from (Some x) who is f k tells takes routes sends =
      let same : ◌≡◌ {A = Option Caller} (Some who) (Some x.caller) = is in
      let whose : who ≡ x.caller = cc in
      settles_open x x.value (f x.caller x.waiting) k (subst (λ (w : Caller). Tells (with_state d knew) w fit told) whose tells) takes routes sends

  -- The states between are what the calls of a body leave.
  pub settles : (who : Caller) (copy : Value) → Some who ≡ caller_of (map.get d.state.outcomes o) → ((w : Caller) (waiting : List HeldCall) → Fits d.state o w waiting v fit fitted)
      → Knows fitted o fit (map.get fitted.outcomes o) knew → copy ≡ fit → Tells (with_state d knew) who copy told
      → TakesHeld told.state o (map.get told.state.outcomes o) taken held → RoutesHeld (with_state told taken) o held routed
      → SendsResolves routed None (is_field o) new → SettlesOutcome d o v new
  settles who copy is f k copied tells takes routes sends =
      let same : fitted.outcomes ≡ d.state.outcomes = fits d.state o who [] v fit fitted (f who []) in
      settles_from (map.get d.state.outcomes o) who is f (subst (λ (m : _). Knows fitted o fit (map.get m o) knew) same k)
      (subst (λ (w : Value). Tells (with_state d knew) who w told) copied tells) takes routes sends
