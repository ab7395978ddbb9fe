-- A promise is fixed: its group settles, and its list is routed.
use Rattle.std.specs.FinMap as map
use Rattle.std.proofs.Common.{◌≡◌, ◌⊎◌, inl, inr, ℕ, nat_eq, false, List, [], ◌∷◌, Option, None, Some, IsSome, refl, sym, ap, subst, ◌∙◌, arith, ◌++◌}
use Rattle.finite_maps.specs.Tally.{Map}
use Rattle.finite_maps.proofs.Tested.{apart, at_put}
use Rattle.rpc_msg.specs.declared.ids.Vat.{Vat}
use Rattle.rpc_msg.specs.Vats.{other_vat}
use Rattle.rpc_machine.specs.declared.node.Node.{Node}
use Rattle.rpc_machine.specs.declared.node.Node.TheVariants as node
use Rattle.rpc_machine.specs.declared.calls.WaitingCall.{WaitingCall}
use Rattle.rpc_machine.specs.declared.calls.Promise.{Promise}
use Rattle.rpc_machine.specs.declared.calls.Promise.TheVariants as promise
use Rattle.rpc_machine.specs.State.{State}
use Rattle.rpc_machine.specs.Nodes.{link, settle, is_wire, is_promise, promise_link}
use Rattle.rpc_machine.specs.Progress.{Progress, with_state}
use Rattle.rpc_machine.specs.Routing.{RoutesAll}
use Rattle.laws_steps.specs.Settled.{IsThere}
use Rattle.laws_order.specs.Machine.{Kind, Message, Net, changed, choose}
use Rattle.laws_order.specs.Machine as routing
use Rattle.laws_order.specs.Events.{Fate, Leaves, Merges, Settle, Allowed, place_of, kind_of, new_stop, new_kind, settled}
use Rattle.laws_order.specs.Invariant.{InPlace, InvariantWith}
use Rattle.laws_order.specs.Moves.{Moves, Done, Next, Settles}
use Rattle.laws_order.proofs.Moves.{moves_keep}
use Rattle.laws_order.proofs.Choices.{by_choice, changed_other}
use Rattle.laws_routes.specs.Points.{Point, APromise, AField, Group, OfPromise, OfOutcome, group_of, vat_of, end, routes}
use Rattle.laws_routes.specs.Ghosts.{Ghost, point, far}
use Rattle.laws_routes.specs.Sides.{Side, Stops, IsLinked, LinkedTo, EndsAs, Queue, AllWait, PromiseWaits, OutcomeHolds, IsOpenPromise, IsOpenOutcome, Lists, Ids}
use Rattle.laws_routes.specs.Ties.{Around, Ghosts, Tied}
use Rattle.laws_routes.specs.Laws.{Comes, AreToGo, AllMayGo, MayFix, fate_to}
use Rattle.laws_routes.proofs.NewReferences.{moves_on}
use Rattle.laws_routes.proofs.Differing.{group_vat, not_apart, not_promise, promise_elsewhere, promise_id}
use Rattle.laws_routes.proofs.WhereNodesEnd.{ends}
use Rattle.laws_routes.proofs.CallWaits.{lists_same}
use Rattle.laws_routes.proofs.CallsRouted.{law, list_routed}
use Rattle.laws_routes.proofs.CallRouted.{own_vat}
use Rattle.laws_routes.proofs.GroupSettles.{ids_after, keeps_at, linked_after, outcome_after, promise_after}
use Rattle.laws_routes.proofs.UnbornKept.{unborn_settled}
use Rattle.laws_routes.specs.Sayings.{bare, has_of}
use Rattle.laws_routes.proofs.SayingsKept.{all_said, known_stays}
use Rattle.laws_routes.specs.Views.{sessions_at}

own_of_far : (v : Vat) (g : Ghost) (n : Node) → far v g n ≡ None → is_wire n ≡ false
own_of_far v g (node.Object o) e = refl
own_of_far v g (node.Promise p) e = refl
own_of_far v g (node.Field o path) e = refl
own_of_far v g (node.Import i) e = cc
own_of_far v g (node.Pipe q path) e = cc
own_of_far v g (node.Broken reason) e = refl

some_promise : (o : Option Promise) (x : Promise) → o ≡ Some x → IsSome o
some_promise o x e = subst (λ (z : Option Promise). IsSome z) (sym e) refl

module _ (v : Vat) (s : State) (g : Ghost) (next : ℕ) (m : routing.State routes) (p : ℕ) (calls : List WaitingCall) (to : Node) (h : Side v s g next m) (e : map.get s.promises p ≡ Some (promise.Open calls)) (may : MayFix s p to) where
  abbrev id : ℕ
  id = g.promise p

  abbrev group : Group
  group = OfPromise v id

  abbrev fate : Point → Fate routes
  fate = λ x. fate_to m.net (point v g to) (far v g to)

  abbrev after : Net routes
  after = settled m.net group fate

  abbrev put : Map Promise
  put = map.insert s.promises p (promise.Fixed to)

  abbrev here : Point
  here = APromise v id

  there : IsSome (map.get s.promises p)
  there = some_promise (map.get s.promises p) (promise.Open calls) e

  was_open : (m.net.stop here ≡ here) × (m.net.kind here ≡ routing.Open)
  was_open = subst (λ o. IsLinked v g m.net (node.Promise p) (promise_link o)) e (h.stops (node.Promise p) refl there)

  differ : (q : ℕ) → IsSome (map.get s.promises q) → nat_eq q p ≡ false → OfPromise v (g.promise q) ≡ group → ⊥
  differ q i n f = let ids = h.ids in apart q p n (ids.promises_differ q p i there (promise_id v v (g.promise q) id f))

  placed : after.stop here ≡ place_of here (fate here)
  placed =
      ap (λ z. new_stop group fate z (m.net.kind z)) was_open.0
      ∙ (ap (new_stop group fate here) was_open.1
      ∙ by_choice (λ z. z ≡ place_of here (fate here)) (routes.same_group group group) (place_of here (fate here)) here (λ f. refl) (λ f. absurd (f refl)))

  becomes : after.kind here ≡ kind_of (fate here)
  becomes =
      ap (new_kind group fate here) was_open.1
      ∙ by_choice (λ z. z ≡ kind_of (fate here)) (routes.same_group group group) (kind_of (fate here)) routing.Open (λ f. refl) (λ f. absurd (f refl))

  -- Where the target stops is no point of the group.
  target_stays : (z : Node) → is_promise p z ≡ false → IsThere s z → EndsAs v g m.net (point v g to) z → after.stop (point v g to) ≡ m.net.stop (point v g to)
  target_stays (node.Object o) n i k = ap (new_stop group fate (m.net.stop (point v g to))) k.1
  target_stays (node.Promise q) n i k = keeps_at m.net group fate (point v g to) (APromise v (g.promise q)) k.0 (differ q i n) ∙ sym k.0
  target_stays (node.Field o path) n i k = keeps_at m.net group fate (point v g to) (AField v (g.outcome o) path) k.0 (not_promise v v (g.outcome o) id) ∙ sym k.0
  target_stays (node.Import j) n i k = ap (new_stop group fate (m.net.stop (point v g to))) k
  target_stays (node.Pipe q path) n i k = ap (new_stop group fate (m.net.stop (point v g to))) k
  target_stays (node.Broken reason) n i k = ap (new_stop group fate (m.net.stop (point v g to))) k

  led : (o : Option Point) → far v g to ≡ o → LinkedTo after here (point v g to) o
  led (Some x) f =
      let a : fate here ≡ Leaves x = ap (fate_to m.net (point v g to)) f in
      ap after.kind (placed ∙ ap (place_of here) a) ∙ (becomes ∙ ap kind_of a)
  led None f =
      let a : fate here ≡ Merges (m.net.stop (point v g to)) = ap (fate_to m.net (point v g to)) f in
      let own = own_of_far v g to f in
      inl (placed ∙ (ap (place_of here) a ∙ sym (target_stays (settle s to) may.no_circle may.there_too (ends law v s g m.net h.stops may.rest to own (may.there own)))))

  fixed_stops : Stops v (record s { promises = put }) g after
  fixed_stops (node.Object o) w i = linked_after m.net group fate v g (node.Object o) None (not_apart (OfPromise v id) tt) (h.stops (node.Object o) w i)
  fixed_stops (node.Promise q) w i =
      at_put (λ q o. IsSome o → IsLinked v g after (node.Promise q) (promise_link o)) s.promises p (promise.Fixed to)
      (λ j. led (far v g to) refl)
      (λ q n j. linked_after m.net group fate v g (node.Promise q) (promise_link (map.get s.promises q)) (differ q j n) (h.stops (node.Promise q) refl j)) q i
  fixed_stops (node.Field o path) w i = linked_after m.net group fate v g (node.Field o path) (link s (node.Field o path)) (not_promise v v (g.outcome o) id) (h.stops (node.Field o path) w i)
  fixed_stops (node.Import k) w i = cc
  fixed_stops (node.Pipe q path) w i = cc
  fixed_stops (node.Broken reason) w i = linked_after m.net group fate v g (node.Broken reason) None (not_apart (OfPromise v id) tt) (h.stops (node.Broken reason) w i)

  fixed_before : (q : ℕ) → IsSome (map.get put q) → IsSome (map.get s.promises q)
  fixed_before = at_put (λ q o. IsSome o → IsSome (map.get s.promises q)) s.promises p (promise.Fixed to) (λ i. there) (λ q n i. i)

  fixed_ids : Ids v put s.outcomes g.promise g.outcome after.stop after.kind next
  fixed_ids =
      let ids = h.ids in
      let old : Ids v put s.outcomes g.promise g.outcome m.net.stop m.net.kind next = record {
        of_promises = λ q i. ids.of_promises q (fixed_before q i);
        of_outcomes = ids.of_outcomes;
        promises_differ = λ q r i j. ids.promises_differ q r (fixed_before q i) (fixed_before r j);
        outcomes_differ = ids.outcomes_differ;
        new_promises = ids.new_promises;
        new_outcomes = ids.new_outcomes;
      } in
      let l = ids.of_promises p there in
      ids_after m.net group fate v put s.outcomes g.promise g.outcome next (λ i k f. (let a = promise_id v v i id f in omega (arith, k))) (λ i k. not_promise v v i id) old

  waits : Group → Queue
  waits = changed routes.same_group m.net.waiting group []

  fixed_lists : Lists v put s.outcomes g.promise g.outcome after.stop after.waiting
  fixed_lists =
      let l = h.lists in
      record {
        at_promises = at_put (λ q o. PromiseWaits after.stop v (g.promise q) (after.waiting (OfPromise v (g.promise q))) o) s.promises p (promise.Fixed to) tt (λ q n. other q n (map.get s.promises q) refl (l.at_promises q));
        at_outcomes = λ o. subst (λ (z : Queue). OutcomeHolds after.stop v (g.outcome o) z (map.get s.outcomes o)) (sym (changed_other routes.same_group m.net.waiting group [] (OfOutcome v (g.outcome o)) (not_promise v v (g.outcome o) id)))
            (outcome_after m.net group fate v (g.outcome o) (m.net.waiting (OfOutcome v (g.outcome o))) (map.get s.outcomes o) (not_promise v v (g.outcome o) id) (l.at_outcomes o));
        no_other_promise = λ i. by_choice (λ (z : Queue). (z ≡ []) ⊎ ((q : ℕ) × IsOpenPromise (map.get put q) × (g.promise q ≡ i))) (routes.same_group (OfPromise v i) group) [] (m.net.waiting (OfPromise v i)) (λ f. inl refl) (λ f. still i f (l.no_other_promise i));
        no_other_outcome = λ i. subst (λ (z : Queue). (z ≡ []) ⊎ ((o : ℕ) × IsOpenOutcome (map.get s.outcomes o) × (g.outcome o ≡ i))) (sym (changed_other routes.same_group m.net.waiting group [] (OfOutcome v i) (not_promise v v i id))) (l.no_other_outcome i);
      }
    where
      other : (q : ℕ) → nat_eq q p ≡ false → (o : Option Promise) → map.get s.promises q ≡ o → PromiseWaits m.net.stop v (g.promise q) (m.net.waiting (OfPromise v (g.promise q))) o → PromiseWaits after.stop v (g.promise q) (after.waiting (OfPromise v (g.promise q))) o
      other q n None f k = tt
      other q n (Some x) f k =
          let out = differ q (some_promise (map.get s.promises q) x f) n in
          subst (λ (z : Queue). PromiseWaits after.stop v (g.promise q) z (Some x)) (sym (changed_other routes.same_group m.net.waiting group [] (OfPromise v (g.promise q)) out))
          (promise_after m.net group fate v (g.promise q) (m.net.waiting (OfPromise v (g.promise q))) (Some x) out k)

      still : (i : ℕ) → (OfPromise v i ≡ group → ⊥) → (m.net.waiting (OfPromise v i) ≡ []) ⊎ ((q : ℕ) × IsOpenPromise (map.get s.promises q) × (g.promise q ≡ i)) → (m.net.waiting (OfPromise v i) ≡ []) ⊎ ((q : ℕ) × IsOpenPromise (map.get put q) × (g.promise q ≡ i))
      still i out (inl f) = inl f
      still i out (inr f) =
          inr (
            f.0,
            at_put (λ q o. g.promise q ≡ i → IsOpenPromise (map.get s.promises q) → IsOpenPromise o) s.promises p (promise.Fixed to) (λ k z. absurd (out (ap (OfPromise v) (sym k)))) (λ q n k z. z) f.0 f.2 f.1,
            f.2,
          )

  pub fixed_side : Side v (record s { promises = put }) g next (record m { net = after })
  fixed_side = record { stops = fixed_stops; refs = h.refs; embargoes = h.embargoes; no_other_embargoes = h.no_other_embargoes; lists = fixed_lists; ids = fixed_ids }

  pub fixed_to_go : AreToGo after here calls (m.net.waiting group)
  fixed_to_go = go calls (m.net.waiting group) (subst (PromiseWaits m.net.stop v id (m.net.waiting group)) e (let l = h.lists in l.at_promises p))
    where
      go : (cs : List WaitingCall) (ms : List (Message routes)) → AllWait m.net.stop here cs ms → AreToGo after here cs ms
      go [] [] a = tt
      go [] (x ∷ xs) a = absurd a
      go (c ∷ cs) [] a = absurd a
      go (c ∷ cs) (x ∷ xs) a = let b = a.0 in ((ap (λ z. new_stop group fate z (m.net.kind z)) (b.0 ∙ sym was_open.0), b.1, b.2), go cs xs a.1)

  pub fixed_allowed : InPlace m.net → Allowed m (Settle group fate)
  fixed_allowed place x into k a f = by (far v g to) refl
    where
      by : (o : Option Point) → far v g to ≡ o → end (vat_of into) ≡ end (vat_of x)
      by (Some y) j = absurd (let b : Leaves y ≡ Merges into = sym (ap (fate_to m.net (point v g to)) j) ∙ f in cc)
      by None j =
          let b : Merges (m.net.stop (point v g to)) ≡ Merges into = sym (ap (fate_to m.net (point v g to)) j) ∙ f in
          let c : m.net.stop (point v g to) ≡ into = cc in
          ap (λ z. end (vat_of z)) (sym c) ∙ (place.homes (point v g to) ∙ (ap end (own_vat v g to (own_of_far v g to j)) ∙ sym (ap end (group_vat x v (OfPromise v id) tt a))))

-- The other vat is not concerned.
pub settled_there : (v : Vat) (t : State) (f : Ghost) (next : ℕ) (m : routing.State routes) (i : ℕ) (fate : Point → Fate routes) → Side (other_vat v) t f next m
    → Side (other_vat v) t f next (record m { net = settled m.net (OfPromise v i) fate })
settled_there v t f next m i fate h = record {
  stops = λ k w a. linked_after m.net group fate u f k (link t k) (elsewhere k w) (h.stops k w a);
  refs = h.refs;
  embargoes = h.embargoes;
  no_other_embargoes = h.no_other_embargoes;
  lists = lists_same u t.promises t.outcomes f.promise f.outcome after.stop m.net.waiting after.waiting
      (λ j. changed_other routes.same_group m.net.waiting group [] (OfPromise u j) (promise_elsewhere v j i)) (λ j. changed_other routes.same_group m.net.waiting group [] (OfOutcome u j) (not_promise u v j i))
      (let l = h.lists in record {
        at_promises = λ p. promise_after m.net group fate u (f.promise p) (m.net.waiting (OfPromise u (f.promise p))) (map.get t.promises p) (promise_elsewhere v (f.promise p) i) (l.at_promises p);
        at_outcomes = λ o. outcome_after m.net group fate u (f.outcome o) (m.net.waiting (OfOutcome u (f.outcome o))) (map.get t.outcomes o) (not_promise u v (f.outcome o) i) (l.at_outcomes o);
        no_other_promise = l.no_other_promise;
        no_other_outcome = l.no_other_outcome;
      });
  ids = ids_after m.net group fate u t.promises t.outcomes f.promise f.outcome next (λ j l. promise_elsewhere v j i) (λ j l. not_promise u v j i) h.ids;
}
  where
    u : Vat
    u = other_vat v

    group : Group
    group = OfPromise v i

    after : Net routes
    after = settled m.net group fate

    elsewhere : (k : Node) → is_wire k ≡ false → group_of (point u f k) ≡ group → ⊥
    elsewhere (node.Object o) w e = not_apart (OfPromise v i) tt e
    elsewhere (node.Promise p) w e = promise_elsewhere v (f.promise p) i e
    elsewhere (node.Field o path) w e = not_promise u v (f.outcome o) i e
    elsewhere (node.Import k) w e = cc
    elsewhere (node.Pipe q path) w e = cc
    elsewhere (node.Broken reason) w e = not_apart (OfPromise v i) tt e

-- The promise is fixed and its list is routed; the Resolves are yet to be sent.
pub promise_fixed : (w : Around) (d : Progress) (g : Ghosts) (m : routing.State routes) (p : ℕ) (calls : List WaitingCall) (to : Node) (new : Progress) → Tied w d g m → InvariantWith m []
    → map.get d.state.promises p ≡ Some (promise.Open calls) → MayFix d.state p to
    → (h : RoutesAll (with_state d (record (d.state) { promises = map.insert d.state.promises p (promise.Fixed to) })) calls (node.Promise p) new)
    → AllMayGo w (with_state d (record (d.state) { promises = map.insert d.state.promises p (promise.Fixed to) })) calls (node.Promise p) new h → Comes w new m [] []
promise_fixed w d g m p calls to new t i e may h go =
    let v = w.vat in
    let s = d.state in
    let group = OfPromise v (g.own.promise p) in
    let fate : Point → Fate routes = λ x. fate_to m.net (point v g.own to) (far v g.own to) in
    let mid = with_state d (record s { promises = map.insert s.promises p (promise.Fixed to) }) in
    let n : routing.State routes = record m { net = settled m.net group fate } in
    let ms = m.net.waiting group in
    let view = t.view in
    let back = t.back in
    let tied : Tied w mid g n = record {
      own = fixed_side v s g.own g.next m p calls to t.own e may;
      theirs = settled_there v w.other g.theirs g.next m (g.own.promise p) fate t.theirs;
      view = record { imports = view.imports; sessions = view.sessions; link = view.link };
      back = record { imports = back.imports; sessions = back.sessions; link = back.link };
      told = t.told;
      unborn = unborn_settled m.net group fate t.unborn (λ j z. not_promise (other_vat v) v j (g.own.promise p));
      unborn_back = unborn_settled m.net group fate t.unborn_back (λ j z. not_promise v v j (g.own.promise p));
      known = λ l. known_stays (bare m.net) group fate v s g.own (t.known l);
      known_there = λ l. known_stays (bare m.net) group fate (other_vat v) w.other g.theirs (t.known_there l);
      goes = all_said (bare m.net) group fate v s.exports g.own (other_vat v) (w.other).exports g.theirs (has_of [] (w.other).imports (w.other).questions) (sessions_at g.theirs.outcome (w.other).answers) (w.out ++ d.effects.sends) t.goes;
      comes = all_said (bare m.net) group fate (other_vat v) (w.other).exports g.theirs v s.exports g.own (has_of [] s.imports s.questions) (sessions_at g.own.outcome s.answers) w.back t.comes;
    } in
    let first : Moves n ms m [] = Next (Settles group fate (fixed_allowed v s g.own g.next m p calls to t.own e may i.in_place) refl refl refl) Done in
    let r = list_routed w mid g n calls ms (node.Promise p) new tied (moves_keep n ms m [] first i) refl (fixed_to_go v s g.own g.next m p calls to t.own e may) h go in
    (r.0, r.1, moves_on r.1 [] n ms m [] r.2 first, r.3)
