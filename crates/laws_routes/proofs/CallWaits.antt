-- A call waits, at an own promise or at an outcome.
use Rattle.std.specs.FinMap as map
use Rattle.std.proofs.Common.{◌≡◌, ◌⊎◌, inl, inr, ℕ, nat_eq, false, List, [], ◌∷◌, ◌++◌, Option, None, Some, IsSome, refl, sym, ap, subst, ◌∙◌}
use Rattle.rpc_msg.specs.Op.{Op}
use Rattle.finite_maps.specs.Tally.{Map}
use Rattle.finite_maps.proofs.Gets.{get-insert_same}
use Rattle.finite_maps.proofs.Tested.{apart, at_put}
use Rattle.rpc_msg.specs.declared.ids.Vat.{Vat}
use Rattle.rpc_msg.specs.Vats.{other_vat}
use Rattle.rpc_journal.specs.History.{caller}
use Rattle.rpc_machine.specs.declared.node.Node.TheVariants as node
use Rattle.rpc_machine.specs.declared.calls.WaitingCall.{WaitingCall}
use Rattle.rpc_machine.specs.declared.calls.HeldCall.{HeldCall}
use Rattle.rpc_machine.specs.declared.calls.KeptOutcome.{KeptOutcome}
use Rattle.rpc_machine.specs.declared.calls.Promise.{Promise}
use Rattle.rpc_machine.specs.declared.calls.Promise.TheVariants as promise
use Rattle.rpc_machine.specs.State.{State}
use Rattle.rpc_machine.specs.Nodes.{promise_link, field_link, value_of}
use Rattle.rpc_machine.specs.Progress.{Progress}
use Rattle.rpc_machine.specs.Routing.{WaitsForPromise, WaitsForField}
use Rattle.laws_order.specs.Machine.{Kind, Message, Net, Call, changed, choose}
use Rattle.laws_order.specs.Machine as routing
use Rattle.laws_order.specs.Routing as route
use Rattle.laws_order.specs.Moves.{Done, Next, Routes}
use Rattle.laws_order.proofs.Choices.{by_choice, changed_here, changed_other}
use Rattle.laws_routes.specs.Points.{Point, APromise, AField, Group, OfPromise, OfOutcome, routes}
use Rattle.laws_routes.specs.Ghosts.{Ghost}
use Rattle.laws_routes.specs.Sides.{Side, Stops, IsLinked, Queue, AllWait, AllHeld, WaitsAt, PromiseWaits, HeldFor, OutcomeHolds, IsOpenPromise, IsOpenOutcome, Lists, Ids}
use Rattle.laws_routes.specs.Ties.{Around, Ghosts, Tied}
use Rattle.laws_routes.specs.Laws.{Follows}
use Rattle.laws_routes.proofs.Differing.{not_outcome, not_promise, outcome_elsewhere, outcome_id, promise_elsewhere, promise_id}
use Rattle.laws_routes.proofs.UnbornKept.{unborn_fewer, unborn_lists, unborn_elsewhere}

-- ---- Lists that are the same

pub lists_same : (u : Vat) (ps : Map Promise) (os : Map KeptOutcome) (pi oi : ℕ → ℕ) (stop : Point → Point) (a b : Group → Queue) → ((i : ℕ) → b (OfPromise u i) ≡ a (OfPromise u i)) → ((i : ℕ) → b (OfOutcome u i) ≡ a (OfOutcome u i))
    → Lists u ps os pi oi stop a → Lists u ps os pi oi stop b
lists_same u ps os pi oi stop a b f g h = record {
  at_promises = λ p. subst (λ (q : Queue). PromiseWaits stop u (pi p) q (map.get ps p)) (sym (f (pi p))) (h.at_promises p);
  at_outcomes = λ o. subst (λ (q : Queue). OutcomeHolds stop u (oi o) q (map.get os o)) (sym (g (oi o))) (h.at_outcomes o);
  no_other_promise = λ i. subst (λ (q : Queue). (q ≡ []) ⊎ ((p : ℕ) × IsOpenPromise (map.get ps p) × (pi p ≡ i))) (sym (f i)) (h.no_other_promise i);
  no_other_outcome = λ i. subst (λ (q : Queue). (q ≡ []) ⊎ ((o : ℕ) × IsOpenOutcome (map.get os o) × (oi o ≡ i))) (sym (g i)) (h.no_other_outcome i);
}

-- ---- A promise's list

wait_more : (stop : Point → Point) (x : Point) (cs : List WaitingCall) (ms : Queue) (c : WaitingCall) (m : Message routes) → AllWait stop x cs ms → WaitsAt stop x c.request.stamp m → AllWait stop x (cs ++ c ∷ []) (ms ++ m ∷ [])
wait_more stop x [] [] c m h k = (k, tt)
wait_more stop x [] (y ∷ ys) c m h k = absurd h
wait_more stop x (d ∷ ds) [] c m h k = absurd h
wait_more stop x (d ∷ ds) (y ∷ ys) c m h k = (h.0, wait_more stop x ds ys c m h.1 k)

module _ (v : Vat) (s : State) (p : ℕ) (calls more : List WaitingCall) (e : map.get s.promises p ≡ Some (promise.Open calls)) where
  abbrev put : Map Promise
  put = map.insert s.promises p (promise.Open more)

  there_before : (q : ℕ) → IsSome (map.get put q) → IsSome (map.get s.promises q)
  there_before = at_put (λ q o. IsSome o → IsSome (map.get s.promises q)) s.promises p (promise.Open more) (λ h. subst (λ (o : Option Promise). IsSome o) (sym e) refl) (λ q n h. h)

  pub promise_stops : (g : Ghost) (n : Net routes) → Stops v s g n → Stops v (record s { promises = put }) g n
  promise_stops g n h (node.Object o) w i = h (node.Object o) w i
  promise_stops g n h (node.Promise q) w i =
      at_put (λ q o. IsSome o → IsLinked v g n (node.Promise q) (promise_link o)) s.promises p (promise.Open more)
      (λ j. subst (λ o. IsLinked v g n (node.Promise p) (promise_link o)) e (h (node.Promise p) refl (subst (λ (o : Option Promise). IsSome o) (sym e) refl)))
      (λ q f j. h (node.Promise q) refl j) q i
  promise_stops g n h (node.Field o path) w i = h (node.Field o path) w i
  promise_stops g n h (node.Import k) w i = h (node.Import k) w i
  promise_stops g n h (node.Pipe q path) w i = h (node.Pipe q path) w i
  promise_stops g n h (node.Broken reason) w i = h (node.Broken reason) w i

  pub promise_ids : (pi oi : ℕ → ℕ) (stop : Point → Point) (kind : Point → Kind routes) (next : ℕ) → Ids v s.promises s.outcomes pi oi stop kind next → Ids v put s.outcomes pi oi stop kind next
  promise_ids pi oi stop kind next h = record {
    of_promises = λ q i. h.of_promises q (there_before q i);
    of_outcomes = h.of_outcomes;
    promises_differ = λ q r i j. h.promises_differ q r (there_before q i) (there_before r j);
    outcomes_differ = h.outcomes_differ;
    new_promises = h.new_promises;
    new_outcomes = h.new_outcomes;
  }

  pub promise_lists : (pi oi : ℕ → ℕ) (stop : Point → Point) (kind : Point → Kind routes) (next : ℕ) (waiting : Group → Queue) (after : Queue) → Ids v s.promises s.outcomes pi oi stop kind next
      → Lists v s.promises s.outcomes pi oi stop waiting → AllWait stop (APromise v (pi p)) more after
      → Lists v put s.outcomes pi oi stop (changed routes.same_group waiting (OfPromise v (pi p)) after)
  promise_lists pi oi stop kind next waiting after ids h a = record {
    at_promises = at_put (λ q o. PromiseWaits stop v (pi q) (waits (OfPromise v (pi q))) o) s.promises p (promise.Open more)
        (subst (AllWait stop (APromise v (pi p)) more) (sym (changed_here routes.same_group waiting at after)) a)
        (λ q f. other q f (map.get s.promises q) refl (h.at_promises q));
    at_outcomes = λ o. subst (λ (z : Queue). OutcomeHolds stop v (oi o) z (map.get s.outcomes o)) (sym (changed_other routes.same_group waiting at after (OfOutcome v (oi o)) (not_promise v v (oi o) (pi p)))) (h.at_outcomes o);
    no_other_promise = λ i. by_choice (λ (z : Queue). (z ≡ []) ⊎ ((q : ℕ) × IsOpenPromise (map.get put q) × (pi q ≡ i))) (routes.same_group (OfPromise v i) at) after (waiting (OfPromise v i))
        (λ f. inr (p, subst IsOpenPromise (sym (get-insert_same s.promises p (promise.Open more))) tt, sym (promise_id v v i (pi p) f)))
        (λ f. still i (h.no_other_promise i));
    no_other_outcome = λ i. subst (λ (z : Queue). (z ≡ []) ⊎ ((o : ℕ) × IsOpenOutcome (map.get s.outcomes o) × (oi o ≡ i))) (sym (changed_other routes.same_group waiting at after (OfOutcome v i) (not_promise v v i (pi p)))) (h.no_other_outcome i);
  }
    where
      at : Group
      at = OfPromise v (pi p)

      waits : Group → Queue
      waits = changed routes.same_group waiting at after

      other : (q : ℕ) → nat_eq q p ≡ false → (o : Option Promise) → map.get s.promises q ≡ o → PromiseWaits stop v (pi q) (waiting (OfPromise v (pi q))) o → PromiseWaits stop v (pi q) (waits (OfPromise v (pi q))) o
      other q f None j k = tt
      other q f (Some x) j k =
          subst (λ (z : Queue). PromiseWaits stop v (pi q) z (Some x))
          (sym (changed_other routes.same_group waiting at after (OfPromise v (pi q)) (λ z. apart q p f (ids.promises_differ q p (subst (λ (o : Option Promise). IsSome o) (sym j) refl) (subst (λ (o : Option Promise). IsSome o) (sym e) refl) (promise_id v v (pi q) (pi p) z))))) k

      still : (i : ℕ) → (waiting (OfPromise v i) ≡ []) ⊎ ((q : ℕ) × IsOpenPromise (map.get s.promises q) × (pi q ≡ i)) → (waiting (OfPromise v i) ≡ []) ⊎ ((q : ℕ) × IsOpenPromise (map.get put q) × (pi q ≡ i))
      still i (inl f) = inl f
      still i (inr f) = inr (f.0, at_put (λ q o. IsOpenPromise (map.get s.promises q) → IsOpenPromise o) s.promises p (promise.Open more) (λ z. tt) (λ q j z. z) f.0 f.1, f.2)

-- The other vat's lists are not that one.
pub there_too : (v : Vat) (t : State) (f : Ghost) (next : ℕ) (m : routing.State routes) (waiting : Group → Queue) → ((i : ℕ) → waiting (OfPromise (other_vat v) i) ≡ m.net.waiting (OfPromise (other_vat v) i)) → ((i : ℕ) → waiting (OfOutcome (other_vat v) i) ≡ m.net.waiting (OfOutcome (other_vat v) i))
    → Side (other_vat v) t f next m → Side (other_vat v) t f next (record m { net = record (m.net) { waiting = waiting } })
there_too v t f next m waiting a b h = record {
  stops = h.stops;
  refs = h.refs;
  embargoes = h.embargoes;
  no_other_embargoes = h.no_other_embargoes;
  lists = lists_same (other_vat v) t.promises t.outcomes f.promise f.outcome m.net.stop m.net.waiting waiting a b h.lists;
  ids = h.ids;
}

-- At an open promise the call waits.
pub waits_for_promise : (w : Around) (d : Progress) (g : Ghosts) (m : routing.State routes) (c : WaitingCall) (p : ℕ) (x : Point) (then : List (Message routes)) (o : Option Promise) (new : Progress) → Tied w d g m
    → m.net.stop x ≡ APromise w.vat (g.own.promise p) → m.net.kind (m.net.stop x) ≡ routing.Open → map.get d.state.promises p ≡ o → WaitsForPromise d c p o new
    → Follows w new g m (record { target = x; ref = caller c.request.stamp; what = Call c.request.stamp.index } ∷ then) then
waits_for_promise w d g m c p x then None new h e k at f = absurd f
waits_for_promise w d g m c p x then (Some (promise.Fixed to)) new h e k at f = absurd f
waits_for_promise w d g m c p x then (Some (promise.Open calls)) new h e k at f =
    let v = w.vat in
    let s = d.state in
    let i = c.request.stamp.index in
    let msg : Message routes = record { target = x; ref = caller c.request.stamp; what = Call i } in
    let group = OfPromise v (g.own.promise p) in
    let after = m.net.waiting group ++ msg ∷ [] in
    let waiting : Group → Queue = changed routes.same_group m.net.waiting group after in
    let n : routing.State routes = record m { net = record (m.net) { waiting = waiting } } in
    let is : n ≡ route.route m msg =
    sym
    (ap (route.route_by m msg i) k
    ∙ ap (λ y. record m { net = record (m.net) { waiting = changed routes.same_group m.net.waiting (routes.group y) (m.net.waiting (routes.group y) ++ msg ∷ []) } }) e) in
    let more = calls ++ c ∷ [] in
    let own = h.own in
    let view = h.view in
    let back = h.back in
    let before : AllWait m.net.stop (APromise v (g.own.promise p)) calls (m.net.waiting group) = subst (PromiseWaits m.net.stop v (g.own.promise p) (m.net.waiting group)) at (own.lists.at_promises p) in
    rw f (
      g,
      n,
      Next (Routes msg refl is) Done,
      record {
        own = record {
          stops = promise_stops v s p calls more at g.own m.net own.stops;
          refs = own.refs;
          embargoes = own.embargoes;
          no_other_embargoes = own.no_other_embargoes;
          lists = promise_lists v s p calls more at g.own.promise g.own.outcome m.net.stop m.net.kind g.next m.net.waiting after own.ids own.lists (wait_more m.net.stop _ calls _ c msg before (e, refl, refl));
          ids = promise_ids v s p calls more at g.own.promise g.own.outcome m.net.stop m.net.kind g.next own.ids;
        };
        theirs = there_too v w.other g.theirs g.next m waiting
            (λ j. changed_other routes.same_group m.net.waiting group after (OfPromise (other_vat v) j) (promise_elsewhere v j (g.own.promise p)))
            (λ j. changed_other routes.same_group m.net.waiting group after (OfOutcome (other_vat v) j) (not_promise (other_vat v) v j (g.own.promise p))) h.theirs;
        view = record { imports = view.imports; sessions = view.sessions; link = view.link };
        back = record { imports = back.imports; sessions = back.sessions; link = back.link };
        told = h.told;
        unborn = unborn_lists h.unborn waiting (λ j z. changed_other routes.same_group m.net.waiting group after (OfOutcome (other_vat v) j) (not_promise (other_vat v) v j (g.own.promise p)));
        unborn_back = unborn_lists h.unborn_back waiting (λ j z. changed_other routes.same_group m.net.waiting group after (OfOutcome v j) (not_promise v v j (g.own.promise p)));
        known = h.known;
        known_there = h.known_there;
        goes = h.goes;
        comes = h.comes;
      },
      (refl, refl, refl, refl),
    )

-- ---- An outcome's list

held_more : (stop : Point → Point) (v : Vat) (i : ℕ) (hs : List HeldCall) (ms : Queue) (h : HeldCall) (m : Message routes) → AllHeld stop v i hs ms → WaitsAt stop (AField v i h.path) h.call.request.stamp m → AllHeld stop v i (hs ++ h ∷ []) (ms ++ m ∷ [])
held_more stop v i [] [] c m h k = (k, tt)
held_more stop v i [] (y ∷ ys) c m h k = absurd h
held_more stop v i (d ∷ ds) [] c m h k = absurd h
held_more stop v i (d ∷ ds) (y ∷ ys) c m h k = (h.0, held_more stop v i ds ys c m h.1 k)

module _ (v : Vat) (s : State) (o : ℕ) (x y : KeptOutcome) (e : map.get s.outcomes o ≡ Some x) (same : y.value ≡ x.value) where
  abbrev kept : Map KeptOutcome
  kept = map.insert s.outcomes o y

  kept_before : (q : ℕ) → IsSome (map.get kept q) → IsSome (map.get s.outcomes q)
  kept_before = at_put (λ q z. IsSome z → IsSome (map.get s.outcomes q)) s.outcomes o y (λ h. subst (λ (z : Option KeptOutcome). IsSome z) (sym e) refl) (λ q n h. h)

  pub outcome_stops : (g : Ghost) (n : Net routes) → Stops v s g n → Stops v (record s { outcomes = kept }) g n
  outcome_stops g n h (node.Object k) w i = h (node.Object k) w i
  outcome_stops g n h (node.Promise q) w i = h (node.Promise q) w i
  outcome_stops g n h (node.Field q path) w i =
      at_put (λ q z. IsSome z → IsLinked v g n (node.Field q path) (field_link path (value_of z))) s.outcomes o y
      (λ j. subst (λ z. IsLinked v g n (node.Field o path) (field_link path z)) (ap value_of e ∙ sym same) (h (node.Field o path) refl (subst (λ (z : Option KeptOutcome). IsSome z) (sym e) refl)))
      (λ q f j. h (node.Field q path) refl j) q i
  outcome_stops g n h (node.Import k) w i = h (node.Import k) w i
  outcome_stops g n h (node.Pipe q path) w i = h (node.Pipe q path) w i
  outcome_stops g n h (node.Broken reason) w i = h (node.Broken reason) w i

  pub outcome_ids : (pi oi : ℕ → ℕ) (stop : Point → Point) (kind : Point → Kind routes) (next : ℕ) → Ids v s.promises s.outcomes pi oi stop kind next → Ids v s.promises kept pi oi stop kind next
  outcome_ids pi oi stop kind next h = record {
    of_promises = h.of_promises;
    of_outcomes = λ q i. h.of_outcomes q (kept_before q i);
    promises_differ = h.promises_differ;
    outcomes_differ = λ q r i j. h.outcomes_differ q r (kept_before q i) (kept_before r j);
    new_promises = h.new_promises;
    new_outcomes = h.new_outcomes;
  }

  pub outcome_lists : (pi oi : ℕ → ℕ) (stop : Point → Point) (kind : Point → Kind routes) (next : ℕ) (waiting : Group → Queue) (after : Queue) → x.value ≡ None → Ids v s.promises s.outcomes pi oi stop kind next
      → Lists v s.promises s.outcomes pi oi stop waiting → AllHeld stop v (oi o) y.waiting after
      → Lists v s.promises kept pi oi stop (changed routes.same_group waiting (OfOutcome v (oi o)) after)
  outcome_lists pi oi stop kind next waiting after unknown ids h a = record {
    at_promises = λ p. subst (λ (z : Queue). PromiseWaits stop v (pi p) z (map.get s.promises p)) (sym (changed_other routes.same_group waiting at after (OfPromise v (pi p)) (not_outcome v v (pi p) (oi o)))) (h.at_promises p);
    at_outcomes = at_put (λ q z. OutcomeHolds stop v (oi q) (waits (OfOutcome v (oi q))) z) s.outcomes o y
        (subst (HeldFor stop v (oi o) (waits at) y.waiting) (sym none) (subst (λ (z : Queue). AllHeld stop v (oi o) y.waiting z) (sym (changed_here routes.same_group waiting at after)) a))
        (λ q f. other q f (map.get s.outcomes q) refl (h.at_outcomes q));
    no_other_promise = λ i. subst (λ (z : Queue). (z ≡ []) ⊎ ((q : ℕ) × IsOpenPromise (map.get s.promises q) × (pi q ≡ i))) (sym (changed_other routes.same_group waiting at after (OfPromise v i) (not_outcome v v i (oi o)))) (h.no_other_promise i);
    no_other_outcome = λ i. by_choice (λ (z : Queue). (z ≡ []) ⊎ ((q : ℕ) × IsOpenOutcome (map.get kept q) × (oi q ≡ i))) (routes.same_group (OfOutcome v i) at) after (waiting (OfOutcome v i))
        (λ f. inr (o, subst IsOpenOutcome (sym (get-insert_same s.outcomes o y)) none, sym (outcome_id v v i (oi o) f)))
        (λ f. still i (h.no_other_outcome i));
  }
    where
      at : Group
      at = OfOutcome v (oi o)

      none : y.value ≡ None
      none = same ∙ unknown

      waits : Group → Queue
      waits = changed routes.same_group waiting at after

      other : (q : ℕ) → nat_eq q o ≡ false → (z : Option KeptOutcome) → map.get s.outcomes q ≡ z → OutcomeHolds stop v (oi q) (waiting (OfOutcome v (oi q))) z → OutcomeHolds stop v (oi q) (waits (OfOutcome v (oi q))) z
      other q f None j k = tt
      other q f (Some z) j k =
          subst (λ (l : Queue). OutcomeHolds stop v (oi q) l (Some z))
          (sym (changed_other routes.same_group waiting at after (OfOutcome v (oi q)) (λ l. apart q o f (ids.outcomes_differ q o (subst (λ (z : Option KeptOutcome). IsSome z) (sym j) refl) (subst (λ (z : Option KeptOutcome). IsSome z) (sym e) refl) (outcome_id v v (oi q) (oi o) l))))) k

      still : (i : ℕ) → (waiting (OfOutcome v i) ≡ []) ⊎ ((q : ℕ) × IsOpenOutcome (map.get s.outcomes q) × (oi q ≡ i)) → (waiting (OfOutcome v i) ≡ []) ⊎ ((q : ℕ) × IsOpenOutcome (map.get kept q) × (oi q ≡ i))
      still i (inl f) = inl f
      still i (inr f) = inr (f.0, at_put (λ q z. IsOpenOutcome (map.get s.outcomes q) → IsOpenOutcome z) s.outcomes o y (λ z. none) (λ q j z. z) f.0 f.1, f.2)

-- At a field of an open outcome the call waits.
pub waits_for_field : (w : Around) (d : Progress) (g : Ghosts) (m : routing.State routes) (c : WaitingCall) (o : ℕ) (path : List Op) (x : Point) (then : List (Message routes)) (z : Option KeptOutcome) (new : Progress) → Tied w d g m
    → m.net.stop x ≡ AField w.vat (g.own.outcome o) path → m.net.kind (m.net.stop x) ≡ routing.Open → map.get d.state.outcomes o ≡ z → value_of z ≡ None → WaitsForField d c o path z new
    → Follows w new g m (record { target = x; ref = caller c.request.stamp; what = Call c.request.stamp.index } ∷ then) then
waits_for_field w d g m c o path x then None new h e k at unknown f = absurd f
waits_for_field w d g m c o path x then (Some z) new h e k at unknown f =
    let v = w.vat in
    let s = d.state in
    let i = c.request.stamp.index in
    let id = g.own.outcome o in
    let msg : Message routes = record { target = x; ref = caller c.request.stamp; what = Call i } in
    let group = OfOutcome v id in
    let after = m.net.waiting group ++ msg ∷ [] in
    let waiting : Group → Queue = changed routes.same_group m.net.waiting group after in
    let n : routing.State routes = record m { net = record (m.net) { waiting = waiting } } in
    let is : n ≡ route.route m msg =
    sym
    (ap (route.route_by m msg i) k
    ∙ ap (λ y. record m { net = record (m.net) { waiting = changed routes.same_group m.net.waiting (routes.group y) (m.net.waiting (routes.group y) ++ msg ∷ []) } }) e) in
    let held : HeldCall = record { path = path; call = c } in
    let y : KeptOutcome = record z { waiting = z.waiting ++ held ∷ [] } in
    let own = h.own in
    let view = h.view in
    let back = h.back in
    let before : AllHeld m.net.stop v id z.waiting (m.net.waiting group) = subst (HeldFor m.net.stop v id (m.net.waiting group) z.waiting) unknown (subst (OutcomeHolds m.net.stop v id (m.net.waiting group)) at (own.lists.at_outcomes o)) in
    rw f (
      g,
      n,
      Next (Routes msg refl is) Done,
      record {
        own = record {
          stops = outcome_stops v s o z y at refl g.own m.net own.stops;
          refs = own.refs;
          embargoes = own.embargoes;
          no_other_embargoes = own.no_other_embargoes;
          lists = outcome_lists v s o z y at refl g.own.promise g.own.outcome m.net.stop m.net.kind g.next m.net.waiting after unknown own.ids own.lists (held_more m.net.stop v id z.waiting _ held msg before (e, refl, refl));
          ids = outcome_ids v s o z y at refl g.own.promise g.own.outcome m.net.stop m.net.kind g.next own.ids;
        };
        theirs = there_too v w.other g.theirs g.next m waiting
            (λ j. changed_other routes.same_group m.net.waiting group after (OfPromise (other_vat v) j) (not_outcome (other_vat v) v j id))
            (λ j. changed_other routes.same_group m.net.waiting group after (OfOutcome (other_vat v) j) (outcome_elsewhere v j id)) h.theirs;
        view = record { imports = view.imports; sessions = view.sessions; link = view.link };
        back = record { imports = back.imports; sessions = back.sessions; link = back.link };
        told = h.told;
        unborn = unborn_lists h.unborn waiting (λ j z. changed_other routes.same_group m.net.waiting group after (OfOutcome (other_vat v) j) (outcome_elsewhere v j id));
        unborn_back =
            unborn_lists (unborn_fewer h.unborn_back (map.insert s.outcomes o y) (kept_before v s o z y at refl)) waiting
            (λ j a. changed_other routes.same_group m.net.waiting group after (OfOutcome v j) (unborn_elsewhere h.unborn_back o (subst (λ (k : Option KeptOutcome). IsSome k) (sym at) refl) j a));
        known = h.known;
        known_there = h.known_there;
        goes = h.goes;
        comes = h.comes;
      },
      (refl, refl, refl, refl),
    )
