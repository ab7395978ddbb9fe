-- The first act of a command is the same with other numbers.
use Rattle.std.proofs.Common.{◌≡◌, ℕ, ◌+◌, List, [], ◌∷◌, ◌++◌, map, Option, None, Some, refl, sym, ap, subst, ◌∙◌}
use Rattle.finite_maps.proofs.Values.{get-map_values, map_values-insert}
use Rattle.std.specs.FinMap as finite
use Rattle.finite_maps.specs.Tally.{Map, option_changed}
use Rattle.rpc_msg.specs.Op.{Op}
use Rattle.rpc_msg.specs.declared.ids.ObjectId.{ObjectId}
use Rattle.rpc_msg.specs.declared.ids.RefId.{RefId}
use Rattle.rpc_msg.specs.declared.ids.EmbargoId.{EmbargoId}
use Rattle.rpc_msg.specs.declared.exception.Exception.{Exception}
use Rattle.rpc_msg.specs.declared.parts.Target.{Target}
use Rattle.rpc_msg.specs.declared.parts.Target.TheVariants.{ImportedCap, PromisedAnswer}
use Rattle.rpc_msg.specs.declared.message.PlainMessage.TheVariants as plain
use Rattle.rpc_machine.specs.declared.node.Node.{Node}
use Rattle.rpc_machine.specs.declared.node.Node.TheVariants as node
use Rattle.rpc_machine.specs.declared.node.Reason.TheVariants.{BrokenPromise}
use Rattle.rpc_machine.specs.declared.calls.Request.{Request}
use Rattle.rpc_machine.specs.declared.calls.WaitingCall.{WaitingCall}
use Rattle.rpc_machine.specs.declared.calls.Caller.{Caller}
use Rattle.rpc_machine.specs.declared.calls.Caller.TheVariants as caller
use Rattle.rpc_machine.specs.declared.calls.Value.{Value}
use Rattle.rpc_machine.specs.declared.calls.Value.TheVariants as value
use Rattle.rpc_machine.specs.declared.calls.OwnCall.{OwnCall}
use Rattle.rpc_machine.specs.declared.calls.OwnCall.TheVariants as own
use Rattle.rpc_machine.specs.declared.calls.Promise.TheVariants as promise
use Rattle.rpc_machine.specs.declared.entries.Role.TheVariants as role
use Rattle.rpc_machine.specs.declared.entries.Finishing.TheVariants as finishing
use Rattle.rpc_machine.specs.declared.entries.Embargo.{Embargo}
use Rattle.rpc_machine.specs.declared.entries.Reference.{Reference}
use Rattle.rpc_machine.specs.declared.command.CallCommand.{CallCommand}
use Rattle.rpc_machine.specs.declared.command.Command.{Command}
use Rattle.rpc_machine.specs.declared.command.Command.TheVariants as command
use Rattle.rpc_machine.specs.declared.command.Granted.{Granted}
use Rattle.rpc_machine.specs.State.{State}
use Rattle.laws_numbers_hidden.specs.Renamed.{node_by, request_by, waiting_by, value_by, kept_by, promise_by, embargo_by, question_by, reference_by, state_by, command_by}
use Rattle.laws_numbers_hidden.specs.Steps.{KeepsApart}
use Rattle.rpc_machine.specs.Nodes.{settle}
use Rattle.rpc_machine.specs.Progress.{Progress, with_state, send, with_refs}
use Rattle.rpc_machine.specs.Routing.{Routes}
use Rattle.rpc_machine.specs.Advancing.{Advances}
use Rattle.rpc_machine.specs.Commands.{head_of, heads, NewRef, ClonesRef, with_outcome, AsksBootstrap, request, counted, CallsDirect, kept, CallsHere, CallsBy, WaitsForEmbargo, CallsThrough, MakesCall, field_node, NamesField, MakesPromise, settled_now, ResolvesPromise, answered, RejectsPromise, AnswersTask, FinishesCall, DropsRef, Acts}
use Rattle.laws_numbers_hidden.proofs.Settles.{map-append, free_in, settles}
use Rattle.laws_numbers_hidden.proofs.Going.{progress_by, put_outcome, put_embargo, cut_ref, refs_so}
use Rattle.laws_numbers_hidden.proofs.Routed.{asks, routes}
use Rattle.laws_numbers_hidden.proofs.Settled.{settles_outcome, fixes_promise}
use Rattle.laws_numbers_hidden.proofs.Advanced.{advances}

module _ (f : ObjectId → ObjectId) where
  head_so : (o : Option Reference) → node_by f (head_of o) ≡ head_of (option_changed (reference_by f) o)
  head_so None = refl
  head_so (Some x) = refl

  pub heads_so : (s : State) (rs : List RefId) → map (node_by f) (heads s rs) ≡ heads (state_by f s) rs
  heads_so s [] = refl
  heads_so s (r ∷ rs) =
      let a = head_so (finite.get s.refs r.0) ∙ sym (ap head_of (get-map_values (reference_by f) s.refs r.0)) in
      let b = heads_so s rs in
      λ i. a i ∷ b i

  pub opens : (s : State) (o : ℕ) (who : Caller) → state_by f (with_outcome s o who) ≡ with_outcome (state_by f s) o who
  opens s o who = put_outcome f s o (record { caller = who; value = None; waiting = [] })

module _ (f : ObjectId → ObjectId) (one : KeepsApart f) where
  abbrev N : Node → Node
  N = node_by f

  abbrev S : State → State
  S = state_by f

  abbrev P : Progress → Progress
  P = progress_by f

  abbrev R : Reference → Reference
  R = reference_by f

  keeps : (d : Progress) (c o : ℕ) → P (kept d c o) ≡ kept (P d) c o
  keeps d c o = ap (λ (s : State). with_state (P d) (record s { calls = finite.insert d.state.calls c (own.Kept o) })) (opens f d.state o (caller.Application (record { 0 = c })))

  new_ref : (g : Granted) (d : Progress) (n : Node) (new : Progress) → NewRef g d n new → NewRef g (P d) (N n) (P new)
  new_ref g d n new h = (h.0, ap P h.1 ∙ ap (with_state (P d)) (refs_so f d.state (n ∷ [])))

  clones : (d : Progress) (o : Option Reference) (g : Granted) (new : Progress) → ClonesRef d o g new → ClonesRef (P d) (option_changed R o) g (P new)
  clones d None g new h = absurd h
  clones d (Some x) g new h = new_ref g d x.head new h

  drops : (d : Progress) (r : ℕ) (o : Option Reference) (g : Granted) (new : Progress) → DropsRef d r o g new → DropsRef (P d) r (option_changed R o) g (P new)
  drops d r None g new h = absurd h
  drops d r (Some x) g new h = (h.0, ap P h.1 ∙ ap (with_state (P d)) (cut_ref f d.state r))

  finishes : (d : Progress) (c : ℕ) (o : Option OwnCall) (g : Granted) (new : Progress) → FinishesCall d c o g new → FinishesCall (P d) c o g (P new)
  finishes d c None g new h = absurd h
  finishes d c (Some from) g new h = (h.0, ap P h.1)

  field_stays : (path : List Op) (from : OwnCall) → N (field_node path from) ≡ field_node path from
  field_stays path (own.Direct q) = refl
  field_stays path (own.Kept o) = refl

  names_field : (d : Progress) (path : List Op) (o : Option OwnCall) (g : Granted) (new : Progress) → NamesField d path o g new → NamesField (P d) path o g (P new)
  names_field d path None g new h = absurd h
  names_field d path (Some from) g new h = subst (λ (n : Node). NewRef g (P d) n (P new)) (field_stays path from) (new_ref g d (field_node path from) new h)

  asks_bootstrap : (d : Progress) (g : Granted) (new : Progress) → AsksBootstrap d g new → AsksBootstrap (P d) g (P new)
  asks_bootstrap d g new h =
      let s = d.state in
      let q = h.0 in
      let said = plain.Bootstrap (record { 0 = q }) in
      let a = map_values-insert (question_by f) s.questions q (record { role = role.Direct (record { 0 = s.next_call }); given = []; returned = None; finish = finishing.Owed }) in (
        q,
        free_in (question_by f) s.questions q h.1,
        h.2,
        ap P h.3 ∙ (λ i. send (with_state (P d) (record (S s) { questions = a i; calls = finite.insert s.calls s.next_call (own.Direct (record { 0 = q })); next_call = s.next_call + 1 })) said),
      )

  makes_promise : (d : Progress) (g : Granted) (new : Progress) → MakesPromise d g new → MakesPromise (P d) g (P new)
  makes_promise d g new h =
      let s = d.state in
      let p = h.0 in
      let mid : State = record s { promises = finite.insert s.promises p (promise.Open []); unsettled = finite.insert s.unsettled s.next_promise p; next_promise = s.next_promise + 1 } in
      let a = map_values-insert (promise_by f) s.promises p (promise.Open []) in (
        p,
        free_in (promise_by f) s.promises p h.1,
        h.2,
        ap P h.3
            ∙ ap (with_state (P d)) (refs_so f mid (node.Promise p ∷ []))
            ∙ (λ i. with_state (P d) (with_refs (record (S s) { promises = a i; unsettled = finite.insert s.unsettled s.next_promise p; next_promise = s.next_promise + 1 }) (node.Promise p ∷ []))),
      )

  -- ---- call

  direct : (d : Progress) (c : ℕ) (r : Request) (t : Target) (new : Progress) → CallsDirect d c r t new → CallsDirect (P d) c (request_by f r) t (P new)
  direct d c r t new h = (h.0, asks f one (with_state d (record (d.state) { calls = finite.insert d.state.calls c (own.Direct (record { 0 = h.0 })) })) h.0 (role.Direct (record { 0 = c })) t r new h.1)

  here : (d : Progress) (c : ℕ) (r : Request) (n : Node) (new : Progress) → CallsHere d c r n new → CallsHere (P d) c (request_by f r) (N n) (P new)
  here d c r n new h =
      let w : WaitingCall = record { request = r; outcome = h.0 } in
      (h.0, free_in (kept_by f) d.state.outcomes h.0 h.1, subst (λ (x : Progress). Routes x (waiting_by f w) (N n) (P new)) (keeps d c h.0) (routes f one (kept d c h.0) w n new h.2))

  by : (d : Progress) (c : ℕ) (r : Request) (head n : Node) (new : Progress) → CallsBy d c r head n new → CallsBy (P d) c (request_by f r) (N head) (N n) (P new)
  by d c r head (node.Object o) new h = here d c r head new h
  by d c r head (node.Promise p) new h = here d c r head new h
  by d c r head (node.Field o path) new h = here d c r head new h
  by d c r head (node.Import e) new h = direct d c r (ImportedCap e) new h
  by d c r head (node.Pipe q path) new h = direct d c r (PromisedAnswer q path) new h
  by d c r head (node.Broken reason) new h = here d c r head new h

  waits_for_embargo : (d : Progress) (w : WaitingCall) (e : ℕ) (o : Option Embargo) (new : Progress) → WaitsForEmbargo d w e o new → WaitsForEmbargo (P d) (waiting_by f w) e (option_changed (embargo_by f) o) (P new)
  waits_for_embargo d w e None new h = absurd h
  waits_for_embargo d w e (Some x) new h =
      ap P h
      ∙ ap (with_state (P d))
      (put_embargo f d.state e (record x { waiting = x.waiting ++ w ∷ [] })
      ∙ ap (λ (cs : List WaitingCall). record (S d.state) { embargoes = finite.insert (S d.state).embargoes e (record (embargo_by f x) { waiting = cs }) }) (map-append (waiting_by f) x.waiting (w ∷ [])))

  through : (d : Progress) (c : ℕ) (r : Request) (head : Node) (o : Option EmbargoId) (new : Progress) → CallsThrough d c r head o new → CallsThrough (P d) c (request_by f r) (N head) o (P new)
  through d c r head None new h = subst (λ (n : Node). CallsBy (P d) c (request_by f r) (N head) n (P new)) (settles f d.state head) (by d c r head (settle d.state head) new h)
  through d c r head (Some e) new h =
      let w : WaitingCall = record { request = r; outcome = h.0 } in (
        h.0,
        free_in (kept_by f) d.state.outcomes h.0 h.1,
        subst (λ (x : Progress). WaitsForEmbargo x (waiting_by f w) e.0 (finite.get (S d.state).embargoes e.0) (P new)) (keeps d c h.0)
            (subst (λ (x : Option Embargo). WaitsForEmbargo (P (kept d c h.0)) (waiting_by f w) e.0 x (P new)) (sym (get-map_values (embargo_by f) d.state.embargoes e.0))
            (waits_for_embargo (kept d c h.0) w e.0 (finite.get d.state.embargoes e.0) new h.2)),
      )

  counts : (s : State) (r : ℕ) (x : Reference) → S (counted s r x) ≡ counted (S s) r (R x)
  counts s r x = ap (λ (m : Map Reference). record (S s) { refs = m; next_call = s.next_call + 1 }) (map_values-insert R s.refs r (record x { made = x.made + 1 }))

  made_so : (s : State) (c : CallCommand) (x : Reference) → request_by f (request s c x) ≡ request (S s) c (R x)
  made_so s c x = ap (λ (ns : List Node). record (request s c x) { caps = ns }) (heads_so f s c.refs)

  makes_call : (d : Progress) (c : CallCommand) (o : Option Reference) (g : Granted) (new : Progress) → MakesCall d c o g new → MakesCall (P d) c (option_changed R o) g (P new)
  makes_call d c None g new h = absurd h
  makes_call d c (Some x) g new h =
      let n = d.state.next_call in (
        h.0,
        subst (λ (s : State). CallsThrough (with_state (P d) s) n (request (S d.state) c (R x)) (N x.head) x.embargo (P new)) (counts d.state c.reference.0 x)
            (subst (λ (r : Request). CallsThrough (P (with_state d (counted d.state c.reference.0 x))) n r (N x.head) x.embargo (P new)) (made_so d.state c x)
            (through (with_state d (counted d.state c.reference.0 x)) n (request d.state c x) x.head x.embargo new h.1)),
      )

  -- ---- promises and tasks

  resolves : (d : Progress) (p : ℕ) (k : Option ℕ) (o : Option Reference) (g : Granted) (new : Progress) → ResolvesPromise d p k o g new → ResolvesPromise (P d) p k (option_changed R o) g (P new)
  resolves d p None o g new h = absurd h
  resolves d p (Some key) None g new h = absurd h
  resolves d p (Some key) (Some x) g new h = (h.0, fixes_promise f one (settled_now d p) key x.head None new h.1)

  rejects : (d : Progress) (p : ℕ) (e : Exception) (k : Option ℕ) (g : Granted) (new : Progress) → RejectsPromise d p e k g new → RejectsPromise (P d) p e k g (P new)
  rejects d p e None g new h = absurd h
  rejects d p e (Some key) g new h = (h.0, fixes_promise f one (settled_now d p) key (node.Broken BrokenPromise) (Some e) new h.1)

  answers : (d : Progress) (t : ℕ) (v : Value) (k : Option ℕ) (g : Granted) (new : Progress) → AnswersTask d t v k g new → AnswersTask (P d) t (value_by f v) k g (P new)
  answers d t v None g new h = absurd h
  answers d t v (Some o) g new h = (h.0, settles_outcome f one (answered d t) o v new h.1)

  -- By the reference with that number.
  at_ref : (d : Progress) (r : ℕ) (A : Option Reference → Type 0) → A (option_changed R (finite.get d.state.refs r)) → A (finite.get (S d.state).refs r)
  at_ref d r A h = subst A (sym (get-map_values R d.state.refs r)) h

  pub acts : (d : Progress) (c : Command) (g : Granted) (new : Progress) → Acts d c g new → Acts (progress_by f d) (command_by f c) g (progress_by f new)
  acts d (command.Host o) g new h = new_ref g d (node.Object o) new h
  acts d (command.CloneRef r) g new h = at_ref d r.0 (λ o. ClonesRef (P d) o g (P new)) (clones d (finite.get d.state.refs r.0) g new h)
  acts d (command.DropRef r) g new h = at_ref d r.0 (λ o. DropsRef (P d) r.0 o g (P new)) (drops d r.0 (finite.get d.state.refs r.0) g new h)
  acts d command.Bootstrap g new h = asks_bootstrap d g new h
  acts d (command.Call c) g new h = at_ref d c.reference.0 (λ o. MakesCall (P d) c o g (P new)) (makes_call d c (finite.get d.state.refs c.reference.0) g new h)
  acts d (command.Field c path) g new h = names_field d path (finite.get d.state.calls c.0) g new h
  acts d command.Promise g new h = makes_promise d g new h
  acts d (command.Resolve p r) g new h =
      at_ref d r.0 (λ o. ResolvesPromise (P d) p.0 (finite.get d.state.unsettled p.0) o g (P new)) (resolves d p.0 (finite.get d.state.unsettled p.0) (finite.get d.state.refs r.0) g new h)
  acts d (command.Reject p e) g new h = rejects d p.0 e (finite.get d.state.unsettled p.0) g new h
  acts d (command.Answer t p refs) g new h =
      subst (λ (ns : List Node). AnswersTask (P d) t.0 (value.Results p ns) (finite.get d.state.tasks t.0) g (P new)) (heads_so f d.state refs) (answers d t.0 (value.Results p (heads d.state refs)) (finite.get d.state.tasks t.0) g new h)
  acts d (command.Fail t e) g new h = answers d t.0 (value.Exception e) (finite.get d.state.tasks t.0) g new h
  acts d (command.Finish c) g new h = finishes d c.0 (finite.get d.state.calls c.0) g new h
  acts d (command.Advance r) g new h = at_ref d r.0 (λ o. Advances (P d) r.0 o g (P new)) (advances f one d r.0 (finite.get d.state.refs r.0) g new h)
  acts d (command.Shut n) g new h = absurd h
