-- Outcomes become known and promises are fixed the same with other numbers.
use Rattle.std.proofs.Common.{◌≡◌, ℕ, Bool, true, false, cond, List, [], ◌∷◌, ◌++◌, map, Option, None, Some, refl, sym, ap, subst, ◌∙◌}
use Rattle.finite_maps.proofs.Values.{entries-map_values, get-map_values}
use Rattle.std.specs.FinMap as finite
use Rattle.finite_maps.specs.Tally.{option_changed, changed_each}
use Rattle.rpc_msg.specs.declared.ids.ObjectId.{ObjectId}
use Rattle.rpc_msg.specs.declared.ids.QuestionId.{QuestionId}
use Rattle.rpc_msg.specs.declared.exception.Exception.{Exception}
use Rattle.rpc_msg.specs.declared.parts.Descriptor.{Descriptor}
use Rattle.rpc_msg.specs.declared.message.ReturnBody.{ReturnBody}
use Rattle.rpc_msg.specs.declared.message.PlainMessage.TheVariants as plain
use Rattle.rpc_machine.specs.declared.node.Node.{Node}
use Rattle.rpc_machine.specs.declared.node.Node.TheVariants as node
use Rattle.rpc_machine.specs.declared.calls.Caller.{Caller}
use Rattle.rpc_machine.specs.declared.calls.Caller.TheVariants as caller
use Rattle.rpc_machine.specs.declared.calls.Value.{Value}
use Rattle.rpc_machine.specs.declared.calls.Value.TheVariants as value
use Rattle.rpc_machine.specs.declared.calls.KeptOutcome.{KeptOutcome}
use Rattle.rpc_machine.specs.declared.calls.OwnCall.{OwnCall}
use Rattle.rpc_machine.specs.declared.calls.Promise.{Promise}
use Rattle.rpc_machine.specs.declared.calls.Promise.TheVariants as promise
use Rattle.rpc_machine.specs.declared.entries.AnswerEntry.{AnswerEntry}
use Rattle.rpc_machine.specs.declared.entries.Export.{Export}
use Rattle.rpc_machine.specs.State.{State}
use Rattle.laws_numbers_hidden.specs.Renamed.{node_by, waiting_by, held_by, value_by, kept_by, promise_by, export_by, state_by, effects_by}
use Rattle.laws_numbers_hidden.specs.Steps.{KeepsApart}
use Rattle.rpc_msg.specs.Messages.{given}
use Rattle.rpc_machine.specs.Nodes.{settle, is_promise, is_field}
use Rattle.rpc_machine.specs.Progress.{Progress, with_state, send, numbers, outcome_of}
use Rattle.rpc_machine.specs.Routing.{RoutesAll, RoutesHeld}
use Rattle.rpc_machine.specs.Settling.{known, report, TellsCall, SaysBack, returned, Returns, TellsPeer, Tells, ResolvesTo, ResolvesBy, ResolvesEach, exports_where, SendsResolves, SettlesOpen, SettlesFrom, SettlesOutcome, FixesFrom, FixesPromise, Drains, NoneLeft, OneMore}
use Rattle.laws_numbers_hidden.proofs.Settles.{settles, blind}
use Rattle.laws_numbers_hidden.proofs.Going.{arisen_by, progress_by, put_promise, refs_so, same_news}
use Rattle.laws_numbers_hidden.proofs.Described.{describes, describes_all}
use Rattle.laws_numbers_hidden.proofs.Routed.{routes_all, routes_held}
use Rattle.laws_numbers_hidden.proofs.Untangled.{knows, fits}
use Rattle.laws_numbers_hidden.proofs.Collected.{collects, same_flag, gives}

module _ (f : ObjectId → ObjectId) (one : KeepsApart f) where
  abbrev N : Node → Node
  N = node_by f

  abbrev S : State → State
  S = state_by f

  abbrev P : Progress → Progress
  P = progress_by f

  abbrev V : Value → Value
  V = value_by f

  reports : (d : Progress) (c : ℕ) (v : Value) → P (report d c v) ≡ report (P d) c (V v)
  reports d c (value.Results payload caps) =
      let a = refs_so f d.state caps in
      let g = same_news f d.state.next_ref caps in
      λ i. record (P d) {
        state = a i;
        effects = record (effects_by f d.effects) { answers = d.effects.answers ++ record { call = record { 0 = c }; outcome = outcome_of (value.Results payload caps); refs = g i } ∷ [] };
      }
  reports d c (value.Exception e) = refl

  pub tells_call : (d : Progress) (c : ℕ) (v : Value) (o : Option OwnCall) (new : Progress) → TellsCall d c v o new → TellsCall (progress_by f d) c (value_by f v) o (progress_by f new)
  tells_call d c v None new h = ap P h
  tells_call d c v (Some from) new h = ap P h ∙ reports d c v

  says_back : (s : State) (b : Bool) (v : Value) (said : ReturnBody) (ds : List Descriptor) (new : State) → SaysBack s b v said ds new → SaysBack (S s) b (V v) said ds (S new)
  says_back s true v said ds new h = (h.0, h.1, ap S h.2)
  says_back s false (value.Exception e) said ds new h = (h.0, h.1, ap S h.2)
  says_back s false (value.Results payload caps) said ds new h = (h.0, describes_all f one s caps ds new h.1)

  gives_return : (d : Progress) (q : QuestionId) (a : AnswerEntry) (v : Value) (new : Progress) → Returns d q a v new → Returns (P d) q a (V v) (P new)
  gives_return d q a v new h =
      let k = h.4 in
      let g = k.0 in
      let ids = numbers a.taken in
      let x = gives f g.state ids in
      let y = sym (same_flag f g.state ids) in (
        h.0,
        h.1,
        S h.2,
        says_back d.state a.finished v h.0 h.1 h.2 h.3,
        (
          P g,
          collects f g (with_state d h.2) k.1,
          ap P k.2 ∙ (λ i. send (with_state (P g) (returned (x i) q.0 a (given h.1))) (plain.Return (record { answer = q; release_param_caps = y i; body = h.0 }))),
        ),
      )

  tells_peer : (d : Progress) (q : QuestionId) (v : Value) (o : Option AnswerEntry) (new : Progress) → TellsPeer d q v o new → TellsPeer (P d) q (V v) o (P new)
  tells_peer d q v None new h = absurd h
  tells_peer d q v (Some a) new h = gives_return d q a v new h

  tells : (d : Progress) (who : Caller) (v : Value) (new : Progress) → Tells d who v new → Tells (P d) who (V v) (P new)
  tells d (caller.Application c) v new h = tells_call d c.0 v (finite.get d.state.calls c.0) new h
  tells d (caller.Peer q) v new h = tells_peer d q v (finite.get d.state.answers q.0) new h

  -- ---- Resolves

  resolves_to : (d : Progress) (e : ℕ) (n : Node) (new : Progress) → ResolvesTo d e n new → ResolvesTo (P d) e (N n) (P new)
  resolves_to d e n new h = (h.0, S h.1, describes f one d.state n h.0 h.1 h.2, ap P h.3)

  resolves_by : (d : Progress) (e : ℕ) (told : Option Exception) (n : Node) (new : Progress) → ResolvesBy d e told n new → ResolvesBy (P d) e told (N n) (P new)
  resolves_by d e told (node.Object o) new h = resolves_to d e (node.Object o) new h
  resolves_by d e told (node.Promise p) new h = resolves_to d e (node.Promise p) new h
  resolves_by d e told (node.Field o path) new h = resolves_to d e (node.Field o path) new h
  resolves_by d e told (node.Import i) new h = resolves_to d e (node.Import i) new h
  resolves_by d e told (node.Pipe q path) new h = resolves_to d e (node.Pipe q path) new h
  resolves_by d e told (node.Broken reason) new h = ap P h

  -- An export and its node.
  abbrev E : ℕ × Node → ℕ × Node
  E x = (x.0, N x.1)

  resolves_each : (d : Progress) (told : Option Exception) (xs : List (ℕ × Node)) (new : Progress) → ResolvesEach d told xs new → ResolvesEach (P d) told (map E xs) (P new)
  resolves_each d told [] new h = ap P h
  resolves_each d told (x ∷ xs) new h = (
    P h.0,
    subst (λ (n : Node). ResolvesBy (P d) x.0 told n (P h.0)) (settles f d.state x.1) (resolves_by d x.0 told (settle d.state x.1) h.0 h.1),
    resolves_each h.0 told xs new h.2,
  )

  module _ (test : Node → Bool) (same : (o x : ObjectId) → test (node.Object o) ≡ test (node.Object x)) where
    one_export : (b : Bool) (x : ℕ × Node) (xs : List (ℕ × Node)) → map E (cond b (x ∷ xs) xs) ≡ cond b (E x ∷ map E xs) (map E xs)
    one_export true x xs = refl
    one_export false x xs = refl

    exports_so : (es : List (ℕ × Export)) → map E (exports_where test es) ≡ exports_where test (changed_each (export_by f) es)
    exports_so [] = refl
    exports_so (e ∷ es) =
        let a = sym (blind f test same e.1.node) in
        let b = exports_so es in
        one_export (test e.1.node) (e.0, e.1.node) (exports_where test es) ∙ (λ i. cond (a i) ((e.0, N e.1.node) ∷ b i) (b i))

    sends_resolves : (d : Progress) (told : Option Exception) (new : Progress) → SendsResolves d told test new → SendsResolves (P d) told test (P new)
    sends_resolves d told new h =
        subst (λ (xs : List (ℕ × Node)). ResolvesEach (P d) told xs (P new)) (exports_so (finite.entries d.state.exports) ∙ sym (ap (exports_where test) (entries-map_values (export_by f) d.state.exports)))
        (resolves_each d told (exports_where test (finite.entries d.state.exports)) new h)

  -- ---- the whole

  settles_open : (d : Progress) (o : ℕ) (v : Value) (x : KeptOutcome) (y : Option Value) (new : Progress) → SettlesOpen d o v x y new → SettlesOpen (P d) o (V v) (kept_by f x) (option_changed V y) (P new)
  settles_open d o v x (Some before) new h = absurd h
  settles_open d o v x None new h =
      let t = h.3 in
      let r = t.2 in (
        V h.0,
        S h.1,
        fits f one d.state o x.caller x.waiting v h.0 h.1 h.2,
        (
          P t.0,
          subst (λ (s : State). Tells (with_state (P d) s) x.caller (V h.0) (P t.0)) (knows f one h.1 o x.caller x.waiting h.0) (tells (with_state d (known h.1 o x.caller x.waiting h.0)) x.caller h.0 t.0 t.1),
          (
            P r.0,
            subst (λ (s : State). RoutesHeld (with_state (P t.0) s) o (map (held_by f) x.waiting) (P r.0)) (knows f one t.0.state o x.caller [] h.0)
                (routes_held f one (with_state t.0 (known t.0.state o x.caller [] h.0)) o x.waiting r.0 r.1),
            sends_resolves (is_field o) (λ o x. refl) r.0 None new r.2,
          ),
        ),
      )

  settles_from : (d : Progress) (o : ℕ) (v : Value) (x : Option KeptOutcome) (new : Progress) → SettlesFrom d o v x new → SettlesFrom (P d) o (V v) (option_changed (kept_by f) x) (P new)
  settles_from d o v None new h = absurd h
  settles_from d o v (Some x) new h = settles_open d o v x x.value new h

  pub settles_outcome : (d : Progress) (o : ℕ) (v : Value) (new : Progress) → SettlesOutcome d o v new → SettlesOutcome (progress_by f d) o (value_by f v) (progress_by f new)
  settles_outcome d o v new h =
      subst (λ (x : Option KeptOutcome). SettlesFrom (P d) o (V v) x (P new)) (sym (get-map_values (kept_by f) d.state.outcomes o)) (settles_from d o v (finite.get d.state.outcomes o) new h)

  fixes_from : (d : Progress) (p : ℕ) (to : Node) (why : Option Exception) (x : Option Promise) (new : Progress) → FixesFrom d p to why x new → FixesFrom (P d) p (N to) why (option_changed (promise_by f) x) (P new)
  fixes_from d p to why None new h = absurd h
  fixes_from d p to why (Some (promise.Fixed before)) new h = absurd h
  fixes_from d p to why (Some (promise.Open calls)) new h = (
    P h.0,
    subst (λ (s : State). RoutesAll (with_state (P d) s) (map (waiting_by f) calls) (node.Promise p) (P h.0)) (put_promise f d.state p (promise.Fixed to))
        (routes_all f one (with_state d (record (d.state) { promises = finite.insert d.state.promises p (promise.Fixed to) })) calls (node.Promise p) h.0 h.1),
    sends_resolves (is_promise p) (λ o x. refl) h.0 why new h.2,
  )

  pub fixes_promise : (d : Progress) (p : ℕ) (to : Node) (why : Option Exception) (new : Progress) → FixesPromise d p to why new → FixesPromise (progress_by f d) p (node_by f to) why (progress_by f new)
  fixes_promise d p to why new h =
      subst (λ (x : Option Promise). FixesFrom (P d) p (N to) why x (P new)) (sym (get-map_values (promise_by f) d.state.promises p)) (fixes_from d p to why (finite.get d.state.promises p) new h)

  pub drains : (new d : Progress) → Drains new d → Drains (progress_by f new) (progress_by f d)
  drains new _ (NoneLeft e) = NoneLeft (ap (map (arisen_by f)) e)
  drains new d (OneMore {mid = mid} o v rest e h more) =
      OneMore o (V v) (map (arisen_by f) rest) (ap (map (arisen_by f)) e) (settles_outcome (record d { arisen = rest }) o v mid h) (drains new mid more)
