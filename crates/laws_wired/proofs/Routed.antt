-- Calls are routed alike in both.
use Rattle.std.proofs.Common.{◌≡◌, ℕ, ◌+◌, Bool, true, false, List, [], ◌∷◌, ◌++◌, map, Option, None, Some, refl, sym, ap, subst, ◌∙◌}
use Rattle.std.specs.FinMap as finite
use Rattle.finite_maps.specs.Tally.{option_changed}
use Rattle.finite_maps.proofs.Values.{get-map_values}
use Rattle.rpc_msg.specs.Op.{Op}
use Rattle.rpc_msg.specs.declared.ids.ObjectId.{ObjectId}
use Rattle.rpc_msg.specs.declared.parts.Descriptor.{Descriptor}
use Rattle.rpc_msg.specs.declared.parts.Target.{Target}
use Rattle.rpc_msg.specs.declared.parts.Target.TheVariants.{ImportedCap, PromisedAnswer}
use Rattle.rpc_msg.specs.Messages.{given}
use Rattle.rpc_machine.specs.declared.node.Node.{Node}
use Rattle.rpc_machine.specs.declared.node.Node.TheVariants as node
use Rattle.rpc_machine.specs.declared.calls.WaitingCall.{WaitingCall}
use Rattle.rpc_machine.specs.declared.calls.HeldCall.{HeldCall}
use Rattle.rpc_machine.specs.declared.calls.Promise.{Promise}
use Rattle.rpc_machine.specs.declared.calls.Promise.TheVariants as promise
use Rattle.rpc_machine.specs.declared.calls.KeptOutcome.{KeptOutcome}
use Rattle.rpc_machine.specs.declared.entries.Role.{Role}
use Rattle.rpc_machine.specs.declared.entries.Role.TheVariants as role
use Rattle.rpc_machine.specs.declared.entries.Finishing.TheVariants as finishing
use Rattle.rpc_machine.specs.State.{State}
use Rattle.rpc_machine.specs.Progress.{Progress, with_state, arises, with_refs, new_refs, export_ids}
use Rattle.rpc_machine.specs.Routing.{deliver, Asks, WaitsForPromise, WaitsForField, Relays, RoutedTo, Routes, RoutesAll, RoutesHeld}
use Rattle.laws_wired.specs.Contents.{SaysNone, EachLost}
use Rattle.laws_wired.specs.Pairs.{TwoNodes, OneNode, BothBroken, node_at, SaysWhy, TwoRequests, TwoWaiting, TwoHeld, TwoValues, Failure, value_at, TwoKept, TwoPromises, Open, Fixed, TwoQuestions, TwoStates, Calls, TwoMessages, TwoDeliveries, request_at, waiting_at, held_at, kept_at, promise_at, question_at, state_at, message_at, delivery_at, effects_at}
use Rattle.laws_wired.proofs.Settles.{map-append, settle2, settles}
use Rattle.laws_wired.proofs.Going.{TwoProgress, progress_at, Next2, in_state, send2, arise2, sends, arises_so, put_promise, put_outcome, put_question, with_refs2, refs_at, same_news, free_in}
use Rattle.laws_wired.proofs.Described.{describes_all, says_none}

-- ---- a call is delivered

abbrev told2 : TwoProgress → TwoWaiting → ObjectId → TwoDeliveries
told2 d c o = record {
  of = record {
    task = record { 0 = d.state.rest.next_task };
    object = o;
    stamp = c.request.stamp false;
    interface = c.request.interface;
    method = c.request.method;
    payload = c.request.payload.at false;
    refs = new_refs d.state.rest.next_ref (map (node_at false) c.request.caps);
  };
  stamp = c.request.stamp;
  payload = c.request.payload;
}

abbrev deliver2 : TwoProgress → TwoWaiting → ObjectId → TwoProgress
deliver2 d c o =
    let y = with_refs2 d.state c.request.caps in
    record d {
      state = record y { rest = record (y.rest) { tasks = finite.insert d.state.rest.tasks d.state.rest.next_task c.outcome; next_task = d.state.rest.next_task + 1 } };
      effects = record (d.effects) { deliveries = d.effects.deliveries ++ told2 d c o ∷ [] };
    }

delivers : (b : Bool) (d : TwoProgress) (c : TwoWaiting) (o : ObjectId) → progress_at b (deliver2 d c o) ≡ deliver (progress_at b d) (waiting_at b c) o
delivers b d c o =
    let a = refs_at b d.state c.request.caps in
    let e = map-append (delivery_at b) d.effects.deliveries (told2 d c o ∷ []) in
    let f = sym (same_news d.state.rest.next_ref c.request.caps b) in
    (λ i. record (progress_at b d) {
      state = record (a i) { tasks = finite.insert d.state.rest.tasks d.state.rest.next_task c.outcome; next_task = d.state.rest.next_task + 1 };
      effects = record (effects_at b d.effects) { deliveries = e i };
    })
    ∙ (λ i. record (progress_at b d) {
      state = record (with_refs (state_at b d.state) (map (node_at b) c.request.caps)) { tasks = finite.insert d.state.rest.tasks d.state.rest.next_task c.outcome; next_task = d.state.rest.next_task + 1 };
      effects = record (effects_at b d.effects) { deliveries = map (delivery_at b) d.effects.deliveries ++ record (delivery_at b (told2 d c o)) { refs = f i } ∷ [] };
    })

-- ---- it waits

abbrev wait_promise : TwoProgress → TwoWaiting → ℕ → List TwoWaiting → TwoProgress
wait_promise d c p calls = in_state d (record (d.state) { promises = finite.insert d.state.promises p (Open (calls ++ c ∷ [])) })

waits_so : (b : Bool) (d : TwoProgress) (c : TwoWaiting) (p : ℕ) (calls : List TwoWaiting)
    → progress_at b (wait_promise d c p calls)
    ≡ with_state (progress_at b d) (record (state_at b d.state) { promises = finite.insert (state_at b d.state).promises p (promise.Open (map (waiting_at b) calls ++ waiting_at b c ∷ [])) })
waits_so b d c p calls =
    ap (with_state (progress_at b d))
    (put_promise b d.state p (Open (calls ++ c ∷ []))
    ∙ ap (λ (cs : List WaitingCall). record (state_at b d.state) { promises = finite.insert (state_at b d.state).promises p (promise.Open cs) })
    (map-append (waiting_at b) calls (c ∷ [])))

waits_for_promise : (d : TwoProgress) (c : TwoWaiting) (p : ℕ) (o : Option TwoPromises) (new : Progress)
    → WaitsForPromise (progress_at false d) (waiting_at false c) p (option_changed (promise_at false) o) new
    → Next2 new (WaitsForPromise (progress_at true d) (waiting_at true c) p (option_changed (promise_at true) o))
waits_for_promise d c p None new h = absurd h
waits_for_promise d c p (Some (Fixed to)) new h = absurd h
waits_for_promise d c p (Some (Open calls)) new h = (wait_promise d c p calls, h ∙ sym (waits_so false d c p calls), waits_so true d c p calls)

abbrev held2 : List Op → TwoWaiting → TwoHeld
held2 path c = record { path = path; call = c }

abbrev wait_field : TwoProgress → TwoWaiting → ℕ → List Op → TwoKept → TwoProgress
wait_field d c o path x = in_state d (record (d.state) { outcomes = finite.insert d.state.outcomes o (record x { waiting = x.waiting ++ held2 path c ∷ [] }) })

holds_so : (b : Bool) (d : TwoProgress) (c : TwoWaiting) (o : ℕ) (path : List Op) (x : TwoKept)
    → progress_at b (wait_field d c o path x)
    ≡ with_state (progress_at b d) (record (state_at b d.state) { outcomes = finite.insert (state_at b d.state).outcomes o (record (kept_at b x) { waiting = map (held_at b) x.waiting ++ held_at b (held2 path c) ∷ [] }) })
holds_so b d c o path x =
    ap (with_state (progress_at b d))
    (put_outcome b d.state o (record x { waiting = x.waiting ++ held2 path c ∷ [] })
    ∙ ap (λ (hs : List HeldCall). record (state_at b d.state) { outcomes = finite.insert (state_at b d.state).outcomes o (record (kept_at b x) { waiting = hs }) })
    (map-append (held_at b) x.waiting (held2 path c ∷ [])))

waits_for_field : (d : TwoProgress) (c : TwoWaiting) (o : ℕ) (path : List Op) (x : Option TwoKept) (new : Progress)
    → WaitsForField (progress_at false d) (waiting_at false c) o path (option_changed (kept_at false) x) new
    → Next2 new (WaitsForField (progress_at true d) (waiting_at true c) o path (option_changed (kept_at true) x))
waits_for_field d c o path None new h = absurd h
waits_for_field d c o path (Some x) new h = (wait_field d c o path x, h ∙ sym (holds_so false d c o path x), holds_so true d c o path x)

-- ---- it goes out

abbrev asked2 : Role → List Descriptor → TwoQuestions
asked2 r ds = record { role = r; given = export_ids (given ds); returned = None; finish = finishing.Owed }

abbrev said2 : ℕ → Target → (x : TwoRequests) (ds : List Descriptor) → EachLost SaysNone ds x.payload.lost → TwoMessages
said2 q t x ds gone =
    Calls (record { question = record { 0 = q }; target = t; interface = x.interface; method = x.method; payload = x.payload.at false; descriptors = ds; stamp = x.stamp false }) x.stamp x.payload gone

pub asks : (d : TwoProgress) (q : ℕ) (r : Role) (t : Target) (x : TwoRequests) (new : Progress)
    → Asks (progress_at false d) q r t (request_at false x) new → Next2 new (Asks (progress_at true d) q r t (request_at true x))
asks d q r t x new h =
    let k = h.1 in
    let ds = k.0 in
    let y = describes_all d.state x.caps ds k.1 k.2 in
    let after : TwoStates = record (y.0) { questions = finite.insert y.0.questions q (asked2 r ds) } in
    let m = said2 q t x ds (λ i e. says_none (state_at true d.state) (state_at true y.0) x.caps ds y.2 i (x.gone i e)) in
    let so : (b : Bool) → progress_at b (send2 (in_state d after) m)
    ≡ record (progress_at b d) {
      state = record (state_at b y.0) { questions = finite.insert (state_at b y.0).questions q (question_at b (asked2 r ds)) };
      effects = record (effects_at b d.effects) { sends = map (message_at b) d.effects.sends ++ message_at b m ∷ [] };
    } =
    λ b. sends b (in_state d after) m
    ∙ ap (λ (s : State). record (progress_at b d) { state = s; effects = record (effects_at b d.effects) { sends = map (message_at b) d.effects.sends ++ message_at b m ∷ [] } })
    (put_question b y.0 q (asked2 r ds)) in (
      send2 (in_state d after) m,
      k.3
          ∙ ap (λ (s : State). record (progress_at false d) {
            state = record s { questions = finite.insert s.questions q (question_at false (asked2 r ds)) };
            effects = record (effects_at false d.effects) { sends = map (message_at false) d.effects.sends ++ message_at false m ∷ [] };
          }) y.1
          ∙ sym (so false),
      (free_in (question_at false) (question_at true) d.state.questions q h.0, (ds, state_at true y.0, y.2, so true)),
    )

-- ---- all

relays : (d : TwoProgress) (c : TwoWaiting) (t : Target) (new : Progress) → Relays (progress_at false d) (waiting_at false c) t new → Next2 new (Relays (progress_at true d) (waiting_at true c) t)
relays d c t new h = let k = asks d h.0 (role.Relay c.outcome) t c.request new h.1 in (k.0, k.1, (h.0, k.2))

breaks : (d : TwoProgress) (c : TwoWaiting) (w : TwoValues) (new : Progress) → new ≡ arises (progress_at false d) c.outcome (value_at false w) → Next2 new (λ x. x ≡ arises (progress_at true d) c.outcome (value_at true w))
breaks d c w new h = (arise2 d c.outcome w, h ∙ sym (arises_so false d c.outcome w), arises_so true d c.outcome w)

routed_to : (d : TwoProgress) (c : TwoWaiting) (m : TwoNodes) (new : Progress)
    → RoutedTo (progress_at false d) (waiting_at false c) (node_at false m) new → Next2 new (RoutedTo (progress_at true d) (waiting_at true c) (node_at true m))
routed_to d c (OneNode (node.Object o)) new h = (deliver2 d c o, h ∙ sym (delivers false d c o), delivers true d c o)
routed_to d c (OneNode (node.Promise p)) new h =
    let k = waits_for_promise d c p (finite.get d.state.promises p) new (subst (λ (o : Option Promise). WaitsForPromise (progress_at false d) (waiting_at false c) p o new) (get-map_values (promise_at false) d.state.promises p) h) in
    (k.0, k.1, subst (λ (o : Option Promise). WaitsForPromise (progress_at true d) (waiting_at true c) p o (progress_at true k.0)) (sym (get-map_values (promise_at true) d.state.promises p)) k.2)
routed_to d c (OneNode (node.Field o path)) new h =
    let k = waits_for_field d c o path (finite.get d.state.outcomes o) new (subst (λ (x : Option KeptOutcome). WaitsForField (progress_at false d) (waiting_at false c) o path x new) (get-map_values (kept_at false) d.state.outcomes o) h) in
    (k.0, k.1, subst (λ (x : Option KeptOutcome). WaitsForField (progress_at true d) (waiting_at true c) o path x (progress_at true k.0)) (sym (get-map_values (kept_at true) d.state.outcomes o)) k.2)
routed_to d c (OneNode (node.Import e)) new h = relays d c (ImportedCap e) new h
routed_to d c (OneNode (node.Pipe q path)) new h = relays d c (PromisedAnswer q path) new h
routed_to d c (OneNode (node.Broken reason)) new h = breaks d c (Failure (SaysWhy (λ b. reason))) new h
routed_to d c (BothBroken why) new h = breaks d c (Failure (SaysWhy why)) new h

pub routes : (d : TwoProgress) (c : TwoWaiting) (m : TwoNodes) (new : Progress)
    → Routes (progress_at false d) (waiting_at false c) (node_at false m) new → Next2 new (Routes (progress_at true d) (waiting_at true c) (node_at true m))
routes d c m new h =
    let k = routed_to d c (settle2 d.state m) new (subst (λ (x : Node). RoutedTo (progress_at false d) (waiting_at false c) x new) (sym (settles false d.state m)) h) in
    (k.0, k.1, subst (λ (x : Node). RoutedTo (progress_at true d) (waiting_at true c) x (progress_at true k.0)) (settles true d.state m) k.2)

pub routes_all : (d : TwoProgress) (cs : List TwoWaiting) (m : TwoNodes) (new : Progress)
    → RoutesAll (progress_at false d) (map (waiting_at false) cs) (node_at false m) new → Next2 new (RoutesAll (progress_at true d) (map (waiting_at true) cs) (node_at true m))
routes_all d [] m new h = (d, h, refl)
routes_all d (c ∷ cs) m new h =
    let k = routes d c m h.0 h.1 in
    let r = routes_all k.0 cs m new (subst (λ (z : Progress). RoutesAll z (map (waiting_at false) cs) (node_at false m) new) k.1 h.2) in
    (r.0, r.1, (progress_at true k.0, k.2, r.2))

pub routes_held : (d : TwoProgress) (o : ℕ) (hs : List TwoHeld) (new : Progress) → RoutesHeld (progress_at false d) o (map (held_at false) hs) new → Next2 new (RoutesHeld (progress_at true d) o (map (held_at true) hs))
routes_held d o [] new h = (d, h, refl)
routes_held d o (x ∷ xs) new h =
    let k = routes d x.call (OneNode (node.Field o x.path)) h.0 h.1 in
    let r = routes_held k.0 o xs new (subst (λ (z : Progress). RoutesHeld z o (map (held_at false) xs) new) k.1 h.2) in
    (r.0, r.1, (progress_at true k.0, k.2, r.2))
