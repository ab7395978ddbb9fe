-- A call that ends where it is made: what arose is settled by one exception.
use Rattle.std.proofs.Common.{◌≡◌, ℕ, ◌≤◌, List, [], ◌∷◌, length, Option, None, Some, refl, sym, ap, subst, ◌∙◌, arith}
use Rattle.std.specs.FinMap as map
use Rattle.finite_maps.proofs.Gets.{insert_again}
use Rattle.rpc_msg.specs.declared.exception.Exception.{Exception}
use Rattle.rpc_msg.specs.declared.ids.CallId.{CallId}
use Rattle.rpc_msg.specs.declared.ids.RefId.{RefId}
use Rattle.rpc_journal.specs.declared.report.Ended.{Ended}
use Rattle.rpc_journal.specs.declared.report.Outcome.TheVariants as outcome
use Rattle.rpc_machine.specs.declared.calls.Caller.TheVariants as caller
use Rattle.rpc_machine.specs.declared.calls.KeptOutcome.{KeptOutcome}
use Rattle.rpc_machine.specs.declared.calls.OwnCall.{OwnCall}
use Rattle.rpc_machine.specs.declared.calls.Value.{Value}
use Rattle.rpc_machine.specs.declared.calls.Value.TheVariants as value
use Rattle.rpc_machine.specs.State.{State}
use Rattle.rpc_machine.specs.Nodes.{is_field}
use Rattle.rpc_machine.specs.Lists.{how_many}
use Rattle.rpc_machine.specs.Places.{places}
use Rattle.rpc_machine.specs.Progress.{Progress, with_state, tell_ended, caps_of}
use Rattle.rpc_machine.specs.Settling.{known, TellsCall, ResolvesEach, SettlesFrom, SettlesOutcome, Drains, NoneLeft, OneMore}
use Rattle.laws_acts.specs.Alike.{places_beside}
use Rattle.laws_acts.proofs.Resolves.{no_resolves}
use Rattle.core_refcounts.specs.Names.{times}
use Rattle.core_store.specs.declared.store.Store.{Store}
use Rattle.core_store.specs.Holding.{state_of, IsSound}
use Rattle.core_store.specs.Noted.{Notes, noted_of}
use Rattle.core_store_waits.specs.Changes.{IsUnknown, Knows}
use Rattle.core_store_waits.specs.Noting.{noted_at, noted_unnamed}
use Rattle.core_step.specs.declared.step.Step.{Step}
use Rattle.core_step.specs.InProgress.{progress_of, IsReady}
use Rattle.core_step.proofs.Readying.{ready_same}
use Rattle.core_step_commands.specs.AtOnce.{EndsAtOnce, HasEnded, ended_by, noted_with}

-- ---- What arose

abbrev first_key : List (ℕ × Value) → ℕ
first_key [] = 0
first_key (x ∷ xs) = x.0

abbrev first_value : Value → List (ℕ × Value) → Value
first_value v [] = v
first_value v (x ∷ xs) = x.1

abbrev others : List (ℕ × Value) → List (ℕ × Value)
others [] = []
others (x ∷ xs) = xs

pub none_arose : (d : Progress) (call : CallId) (told : Exception) → EndsAtOnce d call told → d.arisen ≡ [] → ⊥
none_arose d call told h none =
    let e = ap length (sym h.arisen ∙ none) in
    omega (arith, e)

module _ (d : Progress) (call : CallId) (told : Exception) (h : EndsAtOnce d call told) (then : Progress) (key : ℕ) (v : Value) (is : d ≡ record then { arisen = (key, v) ∷ then.arisen }) where
  lists : (key, v) ∷ then.arisen ≡ (h.key, value.Exception told) ∷ []
  lists = ap (λ (p : Progress). p.arisen) (sym is) ∙ h.arisen

  pub same_key : key ≡ h.key
  same_key = ap first_key lists

  pub same_value : v ≡ value.Exception told
  same_value = ap (first_value v) lists

  pub none_more : then.arisen ≡ []
  none_more = ap others lists

  pub no_caps : length (caps_of v) ≡ 0
  no_caps = ap (λ (w : Value). length (caps_of w)) same_value

  same_state : d.state ≡ then.state
  same_state = ap (λ (p : Progress). p.state) is

  abbrev its : KeptOutcome
  its = record { caller = caller.Application call; value = None; waiting = [] }

  there : map.get then.state.outcomes key ≡ Some its
  there = ap (λ (s : State). map.get s.outcomes key) (sym same_state) ∙ ap (map.get d.state.outcomes) same_key ∙ h.outcome

  pub not_known : IsUnknown (map.get then.state.outcomes key)
  not_known = subst (λ (e : Option KeptOutcome). IsUnknown e) (sym there) refl

  pub knew : (t : State) → Knows then.state key v (map.get then.state.outcomes key) t → t ≡ known d.state h.key (caller.Application call) [] (value.Exception told)
  knew t k =
      let one : Knows then.state key v (Some its) t = subst (λ (e : Option KeptOutcome). Knows then.state key v e t) there k in
      let two : t ≡ known then.state key (caller.Application call) [] v = one in
      two ∙ ap (λ (s : State). known s key (caller.Application call) [] v) (sym same_state)
      ∙ ap (λ (o : ℕ). known d.state o (caller.Application call) [] v) same_key
      ∙ ap (known d.state h.key (caller.Application call) []) same_value

-- ---- The whole

module _ (d : Progress) (call : CallId) (told : Exception) (h : EndsAtOnce d call told) where
  abbrev left : Progress
  left = record d { arisen = [] }

  abbrev knows : State
  knows = known d.state h.key (caller.Application call) [] (value.Exception told)

  abbrev pub ends : List RefId → Ended
  ends refs = record { call = call; outcome = outcome.Exception told; refs = refs }

  abbrev says : Progress
  says = ended_by d h.key call told

  twice : says ≡ with_state says (known says.state h.key (caller.Application call) [] (value.Exception told))
  twice =
      ap (λ (m : _). with_state says (record knows { outcomes = m }))
      (sym (insert_again d.state.outcomes h.key (record { caller = caller.Application call; value = Some (value.Exception told); waiting = [] }) (record { caller = caller.Application call; value = Some (value.Exception told); waiting = [] })))

  settled : SettlesOutcome left h.key (value.Exception told) says
  settled =
      subst (λ (e : Option KeptOutcome). SettlesFrom left h.key (value.Exception told) e says) (sym h.outcome) (
        value.Exception told,
        d.state,
        (refl, refl),
        (
          says,
          subst (λ (e : Option OwnCall). TellsCall (with_state left knows) call.0 (value.Exception told) e says) (sym h.unfinished) refl,
          (
            with_state says (known says.state h.key (caller.Application call) [] (value.Exception told)),
            refl,
            subst (λ (xs : _). ResolvesEach (with_state says (known says.state h.key (caller.Application call) [] (value.Exception told))) None xs says) (sym (no_resolves d.state (is_field h.key) h.unnamed)) twice,
          ),
        ),
      )

  module _ (then : Progress) (key : ℕ) (v : Value) (is : d ≡ record then { arisen = (key, v) ∷ then.arisen }) where
    pub said_so : (s : State) (refs : List RefId) (new : Progress) → s ≡ knows → refs ≡ [] → new ≡ tell_ended (with_state then s) (ends refs) → new ≡ says
    said_so s refs new knew none said =
        said ∙ ap (λ (xs : List RefId). tell_ended (with_state then s) (ends xs)) none
        ∙ ap (λ (t : State). tell_ended (with_state then t) (ends [])) knew
        ∙ ap (λ (xs : List (ℕ × Value)). tell_ended (with_state (record then { arisen = xs }) knows) (ends [])) (none_more d call told h then key v is)
        ∙ ap (λ (p : Progress). tell_ended (with_state (record p { arisen = [] }) knows) (ends [])) (sym is)

  pub drains : (new : Progress) → new ≡ says → Drains new d
  drains new is =
      subst (λ (p : Progress). Drains p d) (sym is) (OneMore {d = d} h.key (value.Exception told) [] h.arisen settled (NoneLeft refl))

  pub has_ended : (new : Progress) → new ≡ says → HasEnded d new call told
  has_ended new is = record { ends = h; is = is }

-- ---- What is noted

none_named : (x : Store) (o : ℕ) → IsSound x → x.waits.taken ≡ [] → how_many (is_field o) (places (state_of x)) ≡ 0 → times x.names.outcomes.counts o ≡ 0
none_named x o h none unnamed =
    h.counted.outcomes o ∙ ap (λ (taken : _). how_many (is_field o) (places_beside taken (state_of x))) none ∙ unnamed

pub noted_key : (x : Step) (call : CallId) (told : Exception) (h : EndsAtOnce (progress_of x) call told) → IsSound x.store → x.store.waits.taken ≡ []
    → (key : ℕ) (n : Notes) → key ≡ h.key → n ≡ noted_of (noted_unnamed x.store.names key) → n ≡ noted_with (noted_of x.store.names) (progress_of x).arisen
noted_key x call told h sound none key n same is =
    let c = x.store.names in
    is ∙ ap (λ (k : ℕ). noted_of (noted_unnamed c k)) same
    ∙ ap (λ (t : ℕ). noted_of (record c { outcomes = noted_at c.outcomes h.key t })) (none_named x.store h.key sound none h.unnamed)
    ∙ ap (λ (arose : List (ℕ × Value)). noted_with (noted_of c) arose) (sym h.arisen)

-- ---- What is ready

pub ready_knew : (x : Step) (new : Store) (d : Progress) (o : ℕ) (call : CallId) (v : Value) → IsReady x → IsSound new → new.slack ≤ x.store.slack → d.state ≡ state_of x.store
    → state_of new ≡ known d.state o (caller.Application call) [] v → IsReady (record x { store = new })
ready_knew x new d o call v h sound less same is =
    ready_same x new h sound less
    (ap (λ (s : State). s.questions) is ∙ ap (λ (s : State). s.questions) same)
    (ap (λ (s : State). s.imports) is ∙ ap (λ (s : State). s.imports) same)
