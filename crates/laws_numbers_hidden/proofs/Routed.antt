-- Calls are routed the same with other numbers.
use Rattle.std.proofs.Common.{◌≡◌, ℕ, ◌+◌, List, [], ◌∷◌, ◌++◌, map, Option, None, Some, sym, ap, subst, ◌∙◌}
use Rattle.finite_maps.proofs.Values.{get-map_values}
use Rattle.std.specs.FinMap as finite
use Rattle.finite_maps.specs.Tally.{option_changed}
use Rattle.rpc_msg.specs.Op.{Op}
use Rattle.rpc_msg.specs.declared.ids.ObjectId.{ObjectId}
use Rattle.rpc_msg.specs.declared.parts.Target.{Target}
use Rattle.rpc_msg.specs.declared.parts.Target.TheVariants.{ImportedCap, PromisedAnswer}
use Rattle.rpc_msg.specs.declared.message.PlainMessage.TheVariants as plain
use Rattle.rpc_machine.specs.declared.node.Node.{Node}
use Rattle.rpc_machine.specs.declared.node.Node.TheVariants as node
use Rattle.rpc_machine.specs.declared.calls.Request.{Request}
use Rattle.rpc_machine.specs.declared.calls.WaitingCall.{WaitingCall}
use Rattle.rpc_machine.specs.declared.calls.HeldCall.{HeldCall}
use Rattle.rpc_machine.specs.declared.calls.Value.{Value}
use Rattle.rpc_machine.specs.declared.calls.Value.TheVariants as value
use Rattle.rpc_machine.specs.declared.calls.KeptOutcome.{KeptOutcome}
use Rattle.rpc_machine.specs.declared.calls.Promise.{Promise}
use Rattle.rpc_machine.specs.declared.calls.Promise.TheVariants as promise
use Rattle.rpc_machine.specs.declared.entries.Role.{Role}
use Rattle.rpc_machine.specs.declared.entries.Role.TheVariants as role
use Rattle.rpc_machine.specs.declared.entries.Finishing.TheVariants as finishing
use Rattle.rpc_machine.specs.declared.entries.Question.{Question}
use Rattle.rpc_machine.specs.State.{State}
use Rattle.laws_numbers_hidden.specs.Renamed.{node_by, request_by, waiting_by, held_by, value_by, kept_by, promise_by, question_by, state_by, delivery_by, effects_by}
use Rattle.laws_numbers_hidden.specs.Steps.{KeepsApart}
use Rattle.rpc_msg.specs.Messages.{given}
use Rattle.rpc_machine.specs.Nodes.{settle}
use Rattle.rpc_machine.specs.Progress.{Progress, with_state, send, arises, with_refs, new_refs, export_ids}
use Rattle.rpc_machine.specs.Routing.{reason_text, failed, deliver, Asks, WaitsForPromise, WaitsForField, Relays, RoutedTo, Routes, RoutesAll, RoutesHeld}
use Rattle.laws_numbers_hidden.proofs.Settles.{map-append, free_in, settles}
use Rattle.laws_numbers_hidden.proofs.Going.{arisen_by, progress_by, put_promise, put_outcome, put_question, refs_so, same_news}
use Rattle.laws_numbers_hidden.proofs.Described.{describes_all}

module _ (f : ObjectId → ObjectId) (one : KeepsApart f) where
  abbrev N : Node → Node
  N = node_by f

  abbrev S : State → State
  S = state_by f

  abbrev P : Progress → Progress
  P = progress_by f

  abbrev W : WaitingCall → WaitingCall
  W = waiting_by f

  delivers : (d : Progress) (c : WaitingCall) (o : ObjectId) → P (deliver d c o) ≡ deliver (P d) (W c) (f o)
  delivers d c o =
      let s = d.state in
      let r = c.request in
      let a = refs_so f s r.caps in
      let e = map-append (delivery_by f) d.effects.deliveries (record { task = record { 0 = s.next_task }; object = o; stamp = r.stamp; interface = r.interface; method = r.method; payload = r.payload; refs = new_refs s.next_ref r.caps } ∷ []) in
      let g = same_news f s.next_ref r.caps in
      (λ i. record (P d) {
        state = record (a i) { tasks = finite.insert s.tasks s.next_task c.outcome; next_task = s.next_task + 1 };
        effects = record (effects_by f d.effects) { deliveries = e i };
      })
      ∙ (λ i. record (P d) {
        state = record (with_refs (S s) (map N r.caps)) { tasks = finite.insert s.tasks s.next_task c.outcome; next_task = s.next_task + 1 };
        effects = record (effects_by f d.effects) {
          deliveries = map (delivery_by f) d.effects.deliveries
              ++ record { task = record { 0 = s.next_task }; object = f o; stamp = r.stamp; interface = r.interface; method = r.method; payload = r.payload; refs = g i } ∷ [];
        };
      })

  pub arises_so : (d : Progress) (o : ℕ) (v : Value) → progress_by f (arises d o v) ≡ arises (progress_by f d) o (value_by f v)
  arises_so d o v = ap (λ (xs : List (ℕ × Value)). record (P d) { arisen = xs }) (map-append (arisen_by f) d.arisen ((o, v) ∷ []))

  waits_for_promise : (d : Progress) (c : WaitingCall) (p : ℕ) (o : Option Promise) (new : Progress) → WaitsForPromise d c p o new → WaitsForPromise (P d) (W c) p (option_changed (promise_by f) o) (P new)
  waits_for_promise d c p None new h = absurd h
  waits_for_promise d c p (Some (promise.Fixed to)) new h = absurd h
  waits_for_promise d c p (Some (promise.Open calls)) new h =
      ap P h
      ∙ ap (with_state (P d))
      (put_promise f d.state p (promise.Open (calls ++ c ∷ []))
      ∙ ap (λ (cs : List WaitingCall). record (S d.state) { promises = finite.insert (S d.state).promises p (promise.Open cs) }) (map-append W calls (c ∷ [])))

  waits_for_field : (d : Progress) (c : WaitingCall) (o : ℕ) (path : List Op) (x : Option KeptOutcome) (new : Progress) → WaitsForField d c o path x new → WaitsForField (P d) (W c) o path (option_changed (kept_by f) x) (P new)
  waits_for_field d c o path None new h = absurd h
  waits_for_field d c o path (Some x) new h =
      let held : HeldCall = record { path = path; call = c } in
      ap P h
      ∙ ap (with_state (P d))
      (put_outcome f d.state o (record x { waiting = x.waiting ++ held ∷ [] })
      ∙ ap (λ (hs : List HeldCall). record (S d.state) { outcomes = finite.insert (S d.state).outcomes o (record (kept_by f x) { waiting = hs }) }) (map-append (held_by f) x.waiting (held ∷ [])))

  pub asks : (d : Progress) (q : ℕ) (r : Role) (t : Target) (x : Request) (new : Progress) → Asks d q r t x new → Asks (progress_by f d) q r t (request_by f x) (progress_by f new)
  asks d q r t x new h =
      let k = h.1 in
      let ds = k.0 in
      let said = plain.Call (record { question = record { 0 = q }; target = t; interface = x.interface; method = x.method; payload = x.payload; descriptors = ds; stamp = x.stamp }) in
      let y : Question = record { role = r; given = export_ids (given ds); returned = None; finish = finishing.Owed } in (
        free_in (question_by f) d.state.questions q h.0,
        (ds, S k.1, describes_all f one d.state x.caps ds k.1 k.2, ap P k.3 ∙ ap (λ (s : State). send (with_state (P d) s) said) (put_question f k.1 q y)),
      )

  relays : (d : Progress) (c : WaitingCall) (t : Target) (new : Progress) → Relays d c t new → Relays (P d) (W c) t (P new)
  relays d c t new h = (h.0, asks d h.0 (role.Relay c.outcome) t c.request new h.1)

  routed_to : (d : Progress) (c : WaitingCall) (n : Node) (new : Progress) → RoutedTo d c n new → RoutedTo (P d) (W c) (N n) (P new)
  routed_to d c (node.Object o) new h = ap P h ∙ delivers d c o
  routed_to d c (node.Promise p) new h =
      subst (λ (o : Option Promise). WaitsForPromise (P d) (W c) p o (P new)) (sym (get-map_values (promise_by f) d.state.promises p)) (waits_for_promise d c p (finite.get d.state.promises p) new h)
  routed_to d c (node.Field o path) new h =
      subst (λ (x : Option KeptOutcome). WaitsForField (P d) (W c) o path x (P new)) (sym (get-map_values (kept_by f) d.state.outcomes o)) (waits_for_field d c o path (finite.get d.state.outcomes o) new h)
  routed_to d c (node.Import e) new h = relays d c (ImportedCap e) new h
  routed_to d c (node.Pipe q path) new h = relays d c (PromisedAnswer q path) new h
  routed_to d c (node.Broken reason) new h = ap P h ∙ arises_so d c.outcome (value.Exception (failed (reason_text reason)))

  pub routes : (d : Progress) (c : WaitingCall) (n : Node) (new : Progress) → Routes d c n new → Routes (progress_by f d) (waiting_by f c) (node_by f n) (progress_by f new)
  routes d c n new h = subst (λ (x : Node). RoutedTo (P d) (W c) x (P new)) (settles f d.state n) (routed_to d c (settle d.state n) new h)

  pub routes_all : (d : Progress) (cs : List WaitingCall) (n : Node) (new : Progress) → RoutesAll d cs n new → RoutesAll (progress_by f d) (map (waiting_by f) cs) (node_by f n) (progress_by f new)
  routes_all d [] n new h = ap P h
  routes_all d (c ∷ cs) n new h = (P h.0, routes d c n h.0 h.1, routes_all h.0 cs n new h.2)

  pub routes_held : (d : Progress) (o : ℕ) (hs : List HeldCall) (new : Progress) → RoutesHeld d o hs new → RoutesHeld (progress_by f d) o (map (held_by f) hs) (progress_by f new)
  routes_held d o [] new h = ap P h
  routes_held d o (x ∷ xs) new h = (P h.0, routes d x.call (node.Field o x.path) h.0 h.1, routes_held h.0 o xs new h.2)
