-- An outcome becomes known: its group settles. The lists, the identities and the other vat; the stops are in FieldStops.
use Rattle.std.specs.FinMap as map
use Rattle.std.proofs.Common.{◌≡◌, ◌⊎◌, inl, inr, ℕ, nat_eq, false, List, [], ◌∷◌, Option, None, Some, IsSome, refl, sym, ap, subst, ◌∙◌, arith, ◌++◌}
use Rattle.rpc_msg.specs.Op.{Op}
use Rattle.finite_maps.specs.Tally.{Map}
use Rattle.finite_maps.proofs.Tested.{apart, at_put}
use Rattle.rpc_msg.specs.declared.ids.Vat.{Vat}
use Rattle.rpc_msg.specs.Vats.{other_vat}
use Rattle.rpc_machine.specs.declared.node.Node.{Node}
use Rattle.rpc_machine.specs.declared.node.Node.TheVariants as node
use Rattle.rpc_machine.specs.declared.calls.Caller.{Caller}
use Rattle.rpc_machine.specs.declared.calls.HeldCall.{HeldCall}
use Rattle.rpc_machine.specs.declared.calls.KeptOutcome.{KeptOutcome}
use Rattle.rpc_machine.specs.declared.calls.Value.{Value}
use Rattle.rpc_machine.specs.State.{State}
use Rattle.rpc_machine.specs.Nodes.{link, settle, is_wire, field_link, value_of}
use Rattle.rpc_machine.specs.Progress.{Progress, with_state}
use Rattle.rpc_machine.specs.Settling.{known}
use Rattle.laws_order.specs.Machine.{Kind, Message, Net, changed}
use Rattle.laws_order.specs.Machine as routing
use Rattle.laws_order.specs.Events.{Fate, Leaves, Merges, Breaks, Settle, Allowed, new_stop, settled}
use Rattle.laws_order.specs.Moves.{Moves, Done, Next, Settles}
use Rattle.laws_order.proofs.Choices.{by_choice, changed_other}
use Rattle.laws_routes.specs.Points.{Point, AnObject, APromise, AField, Nowhere, Group, OfPromise, OfOutcome, group_of, vat_of, end, routes}
use Rattle.laws_routes.specs.Ghosts.{Ghost, point}
use Rattle.laws_routes.specs.Sides.{Side, Stops, IsLinked, Queue, AllHeld, HeldFor, PromiseWaits, OutcomeHolds, IsOpenPromise, IsOpenOutcome, Lists, Ids}
use Rattle.laws_routes.specs.Premises.{LinksRest}
use Rattle.laws_routes.specs.Ties.{Around, Ghosts, Tied}
use Rattle.laws_routes.specs.Laws.{fate_as, fate_of_field}
use Rattle.laws_routes.specs.OutcomeLaws.{AreHeldToGo}
use Rattle.laws_routes.proofs.Differing.{group_vat, not_apart, not_outcome, outcome_elsewhere, outcome_id}
use Rattle.laws_routes.proofs.CallWaits.{lists_same}
use Rattle.laws_routes.proofs.FieldStops.{known_stops}
use Rattle.laws_routes.proofs.GroupSettles.{ids_after, linked_after, outcome_after, promise_after}
use Rattle.laws_routes.proofs.UnbornKept.{unborn_fewer, unborn_settled, unborn_elsewhere}
use Rattle.laws_routes.specs.Sayings.{bare, has_of}
use Rattle.laws_routes.proofs.SayingsKept.{all_said, known_stays}
use Rattle.laws_routes.specs.Views.{sessions_at}

-- Where a fate merges is a point of the vat.
abbrev IsIn : Vat → Fate routes → Type 0
IsIn v (Leaves to) = Unit {0}
IsIn v (Merges into) = vat_of into ≡ v
IsIn v Breaks = Unit {0}

fate_in : (v : Vat) (g : Ghost) (n : Node) → IsIn v (fate_as v g n)
fate_in v g (node.Object o) = refl
fate_in v g (node.Promise p) = refl
fate_in v g (node.Field o path) = refl
fate_in v g (node.Import e) = tt
fate_in v g (node.Pipe q path) = tt
fate_in v g (node.Broken reason) = tt

field_in : (v : Vat) (g : Ghost) (s : State) (o : ℕ) (x : Point) → IsIn v (fate_of_field v g s o x)
field_in v g s o (AnObject u n) = tt
field_in v g s o (APromise u i) = tt
field_in v g s o (AField u i path) = fate_in v g (settle s (node.Field o path))
field_in v g s o (Nowhere u) = tt

module _ (v : Vat) (s : State) (g : Ghost) (next : ℕ) (m : routing.State routes) (o : ℕ) (x : KeptOutcome) (fit : Value) (h : Side v s g next m) (e : map.get s.outcomes o ≡ Some x) (unknown : x.value ≡ None) (rest : LinksRest (known s o x.caller x.waiting fit)) where
  abbrev id : ℕ
  id = g.outcome o

  abbrev group : Group
  group = OfOutcome v id

  abbrev fate : Point → Fate routes
  fate = fate_of_field v g (known s o x.caller x.waiting fit) o

  abbrev after : Net routes
  after = settled m.net group fate

  abbrev entry : KeptOutcome
  entry = record { caller = x.caller; value = Some fit; waiting = x.waiting }

  abbrev put : Map KeptOutcome
  put = map.insert s.outcomes o entry

  there : IsSome (map.get s.outcomes o)
  there = subst (λ (z : Option KeptOutcome). IsSome z) (sym e) refl

  differ : (q : ℕ) → IsSome (map.get s.outcomes q) → nat_eq q o ≡ false → OfOutcome v (g.outcome q) ≡ group → ⊥
  differ q i n f = let ids = h.ids in apart q o n (ids.outcomes_differ q o i there (outcome_id v v (g.outcome q) id f))

  was_open : (path : List Op) → (m.net.stop (AField v id path) ≡ AField v id path) × (m.net.kind (AField v id path) ≡ routing.Open)
  was_open path = subst (λ z. IsLinked v g m.net (node.Field o path) (field_link path z)) (ap value_of e ∙ unknown) (h.stops (node.Field o path) refl there)

  before : (q : ℕ) → IsSome (map.get put q) → IsSome (map.get s.outcomes q)
  before = at_put (λ q z. IsSome z → IsSome (map.get s.outcomes q)) s.outcomes o entry (λ i. there) (λ q n i. i)

  learnt_ids : Ids v s.promises put g.promise g.outcome after.stop after.kind next
  learnt_ids =
      let ids = h.ids in
      let old : Ids v s.promises put g.promise g.outcome m.net.stop m.net.kind next = record {
        of_promises = ids.of_promises;
        of_outcomes = λ q i. ids.of_outcomes q (before q i);
        promises_differ = ids.promises_differ;
        outcomes_differ = λ q r i j. ids.outcomes_differ q r (before q i) (before r j);
        new_promises = ids.new_promises;
        new_outcomes = ids.new_outcomes;
      } in
      let l = ids.of_outcomes o there in
      ids_after m.net group fate v s.promises put g.promise g.outcome next (λ i k. not_outcome v v i id) (λ i k f. (let a = outcome_id v v i id f in omega (arith, k))) old

  learnt_lists : Lists v s.promises put g.promise g.outcome after.stop after.waiting
  learnt_lists =
      let l = h.lists in
      record {
        at_promises = λ p. subst (λ (z : Queue). PromiseWaits after.stop v (g.promise p) z (map.get s.promises p)) (sym (changed_other routes.same_group m.net.waiting group [] (OfPromise v (g.promise p)) (not_outcome v v (g.promise p) id)))
            (promise_after m.net group fate v (g.promise p) (m.net.waiting (OfPromise v (g.promise p))) (map.get s.promises p) (not_outcome v v (g.promise p) id) (l.at_promises p));
        at_outcomes = at_put (λ q z. OutcomeHolds after.stop v (g.outcome q) (after.waiting (OfOutcome v (g.outcome q))) z) s.outcomes o entry tt (λ q n. other q n (map.get s.outcomes q) refl (l.at_outcomes q));
        no_other_promise = λ i. subst (λ (z : Queue). (z ≡ []) ⊎ ((p : ℕ) × IsOpenPromise (map.get s.promises p) × (g.promise p ≡ i))) (sym (changed_other routes.same_group m.net.waiting group [] (OfPromise v i) (not_outcome v v i id))) (l.no_other_promise i);
        no_other_outcome = λ i. by_choice (λ (z : Queue). (z ≡ []) ⊎ ((q : ℕ) × IsOpenOutcome (map.get put q) × (g.outcome q ≡ i))) (routes.same_group (OfOutcome v i) group) [] (m.net.waiting (OfOutcome v i)) (λ f. inl refl) (λ f. still i f (l.no_other_outcome i));
      }
    where
      other : (q : ℕ) → nat_eq q o ≡ false → (z : Option KeptOutcome) → map.get s.outcomes q ≡ z → OutcomeHolds m.net.stop v (g.outcome q) (m.net.waiting (OfOutcome v (g.outcome q))) z → OutcomeHolds after.stop v (g.outcome q) (after.waiting (OfOutcome v (g.outcome q))) z
      other q n None f k = tt
      other q n (Some y) f k =
          let out = differ q (subst (λ (z : Option KeptOutcome). IsSome z) (sym f) refl) n in
          subst (λ (z : Queue). OutcomeHolds after.stop v (g.outcome q) z (Some y)) (sym (changed_other routes.same_group m.net.waiting group [] (OfOutcome v (g.outcome q)) out))
          (outcome_after m.net group fate v (g.outcome q) (m.net.waiting (OfOutcome v (g.outcome q))) (Some y) out k)

      still : (i : ℕ) → (OfOutcome v i ≡ group → ⊥) → (m.net.waiting (OfOutcome v i) ≡ []) ⊎ ((q : ℕ) × IsOpenOutcome (map.get s.outcomes q) × (g.outcome q ≡ i)) → (m.net.waiting (OfOutcome v i) ≡ []) ⊎ ((q : ℕ) × IsOpenOutcome (map.get put q) × (g.outcome q ≡ i))
      still i out (inl f) = inl f
      still i out (inr f) =
          inr (
            f.0,
            at_put (λ q z. g.outcome q ≡ i → IsOpenOutcome (map.get s.outcomes q) → IsOpenOutcome z) s.outcomes o entry (λ k z. absurd (out (ap (OfOutcome v) (sym k)))) (λ q n k z. z) f.0 f.2 f.1,
            f.2,
          )

  pub learnt_side : Side v (known s o x.caller x.waiting fit) g next (record m { net = after })
  learnt_side = record {
    stops = known_stops v s g next m o x fit h e unknown rest;
    refs = h.refs;
    embargoes = h.embargoes;
    no_other_embargoes = h.no_other_embargoes;
    lists = learnt_lists;
    ids = learnt_ids;
  }

  pub learnt_to_go : AreHeldToGo after v id x.waiting (m.net.waiting group)
  learnt_to_go =
      go x.waiting (m.net.waiting group)
      (subst (HeldFor m.net.stop v id (m.net.waiting group) x.waiting) unknown (subst (OutcomeHolds m.net.stop v id (m.net.waiting group)) e (let l = h.lists in l.at_outcomes o)))
    where
      go : (hs : List HeldCall) (ms : List (Message routes)) → AllHeld m.net.stop v id hs ms → AreHeldToGo after v id hs ms
      go [] [] a = tt
      go [] (y ∷ ys) a = absurd a
      go (c ∷ cs) [] a = absurd a
      go (c ∷ cs) (y ∷ ys) a = let b = a.0 in let was = was_open c.path in ((ap (λ z. new_stop group fate z (m.net.kind z)) (b.0 ∙ sym was.0), b.1, b.2), go cs ys a.1)

  pub learnt_allowed : Allowed m (Settle group fate)
  learnt_allowed y into k a f = ap end (subst (IsIn v) f (field_in v g (known s o x.caller x.waiting fit) o y) ∙ sym (group_vat y v (OfOutcome v id) tt a))

-- The other vat is not concerned.
learnt_there : (v : Vat) (t : State) (f : Ghost) (next : ℕ) (m : routing.State routes) (i : ℕ) (fate : Point → Fate routes) → Side (other_vat v) t f next m
    → Side (other_vat v) t f next (record m { net = settled m.net (OfOutcome v i) fate })
learnt_there v t f next m i fate h = record {
  stops = λ k w a. linked_after m.net group fate u f k (link t k) (elsewhere k w) (h.stops k w a);
  refs = h.refs;
  embargoes = h.embargoes;
  no_other_embargoes = h.no_other_embargoes;
  lists = lists_same u t.promises t.outcomes f.promise f.outcome after.stop m.net.waiting after.waiting
      (λ j. changed_other routes.same_group m.net.waiting group [] (OfPromise u j) (not_outcome u v j i)) (λ j. changed_other routes.same_group m.net.waiting group [] (OfOutcome u j) (outcome_elsewhere v j i))
      (let l = h.lists in record {
        at_promises = λ p. promise_after m.net group fate u (f.promise p) (m.net.waiting (OfPromise u (f.promise p))) (map.get t.promises p) (not_outcome u v (f.promise p) i) (l.at_promises p);
        at_outcomes = λ o. outcome_after m.net group fate u (f.outcome o) (m.net.waiting (OfOutcome u (f.outcome o))) (map.get t.outcomes o) (outcome_elsewhere v (f.outcome o) i) (l.at_outcomes o);
        no_other_promise = l.no_other_promise;
        no_other_outcome = l.no_other_outcome;
      });
  ids = ids_after m.net group fate u t.promises t.outcomes f.promise f.outcome next (λ j l. not_outcome u v j i) (λ j l. outcome_elsewhere v j i) h.ids;
}
  where
    u : Vat
    u = other_vat v

    group : Group
    group = OfOutcome v i

    after : Net routes
    after = settled m.net group fate

    elsewhere : (k : Node) → is_wire k ≡ false → group_of (point u f k) ≡ group → ⊥
    elsewhere (node.Object o) w e = not_apart (OfOutcome v i) tt e
    elsewhere (node.Promise p) w e = not_outcome u v (f.promise p) i e
    elsewhere (node.Field o path) w e = outcome_elsewhere v (f.outcome o) i e
    elsewhere (node.Import k) w e = cc
    elsewhere (node.Pipe q path) w e = cc
    elsewhere (node.Broken reason) w e = not_apart (OfOutcome v i) tt e

pub outcome_known : (w : Around) (d : Progress) (g : Ghosts) (m : routing.State routes) (o : ℕ) (x : KeptOutcome) (fit : Value) → Tied w d g m → map.get d.state.outcomes o ≡ Some x → x.value ≡ None
    → LinksRest (known d.state o x.caller x.waiting fit)
    → (n : routing.State routes) × Moves n (m.net.waiting (OfOutcome w.vat (g.own.outcome o))) m [] × Tied w (with_state d (known d.state o x.caller x.waiting fit)) g n
    × AreHeldToGo n.net w.vat (g.own.outcome o) x.waiting (m.net.waiting (OfOutcome w.vat (g.own.outcome o)))
outcome_known w d g m o x fit t e unknown rest =
    let v = w.vat in
    let s = d.state in
    let group = OfOutcome v (g.own.outcome o) in
    let fate : Point → Fate routes = fate_of_field v g.own (known s o x.caller x.waiting fit) o in
    let view = t.view in
    let back = t.back in (
      record m { net = settled m.net group fate },
      Next (Settles group fate (learnt_allowed v s g.own g.next m o x fit t.own e unknown rest) refl refl refl) Done,
      record {
        own = learnt_side v s g.own g.next m o x fit t.own e unknown rest;
        theirs = learnt_there v w.other g.theirs g.next m (g.own.outcome o) fate t.theirs;
        view = record { imports = view.imports; sessions = view.sessions; link = view.link };
        back = record { imports = back.imports; sessions = back.sessions; link = back.link };
        told = t.told;
        unborn = unborn_settled m.net group fate t.unborn (λ j z. outcome_elsewhere v j (g.own.outcome o));
        unborn_back =
            unborn_fewer (unborn_settled m.net group fate t.unborn_back (unborn_elsewhere t.unborn_back o (there v s g.own g.next m o x fit t.own e unknown rest))) _
            (before v s g.own g.next m o x fit t.own e unknown rest);
        known = λ l. known_stays (bare m.net) group fate v s g.own (t.known l);
        known_there = λ l. known_stays (bare m.net) group fate (other_vat v) w.other g.theirs (t.known_there l);
        goes = all_said (bare m.net) group fate v s.exports g.own (other_vat v) (w.other).exports g.theirs (has_of [] (w.other).imports (w.other).questions) (sessions_at g.theirs.outcome (w.other).answers) (w.out ++ d.effects.sends) t.goes;
        comes = all_said (bare m.net) group fate (other_vat v) (w.other).exports g.theirs v s.exports g.own (has_of [] s.imports s.questions) (sessions_at g.own.outcome s.answers) w.back t.comes;
      },
      learnt_to_go v s g.own g.next m o x fit t.own e unknown rest,
    )

-- ---- The list is out

-- Of a known outcome the list is of no concern.
module _ (v : Vat) (s : State) (g : Ghost) (next : ℕ) (m : routing.State routes) (o : ℕ) (x : KeptOutcome) (from : Caller) (waiting : List HeldCall) (fit : Value) (h : Side v s g next m) (e : map.get s.outcomes o ≡ Some x) (is : x.value ≡ Some fit) where
  abbrev entry' : KeptOutcome
  entry' = record { caller = from; value = Some fit; waiting = waiting }

  there' : IsSome (map.get s.outcomes o)
  there' = subst (λ (z : Option KeptOutcome). IsSome z) (sym e) refl

  before' : (q : ℕ) → IsSome (map.get (map.insert s.outcomes o entry') q) → IsSome (map.get s.outcomes q)
  before' = at_put (λ q z. IsSome z → IsSome (map.get s.outcomes q)) s.outcomes o entry' (λ i. there') (λ q n i. i)

  emptied_stops : Stops v (known s o from waiting fit) g m.net
  emptied_stops (node.Object k) w i = h.stops (node.Object k) w i
  emptied_stops (node.Promise p) w i = h.stops (node.Promise p) w i
  emptied_stops (node.Field q path) w i =
      at_put (λ q z. IsSome z → IsLinked v g m.net (node.Field q path) (field_link path (value_of z))) s.outcomes o entry'
      (λ j. subst (λ z. IsLinked v g m.net (node.Field o path) (field_link path z)) (ap value_of e ∙ is) (h.stops (node.Field o path) refl there'))
      (λ q n j. h.stops (node.Field q path) refl j) q i
  emptied_stops (node.Import k) w i = cc
  emptied_stops (node.Pipe q path) w i = cc
  emptied_stops (node.Broken reason) w i = h.stops (node.Broken reason) w i

  pub emptied_side : Side v (known s o from waiting fit) g next m
  emptied_side = let l = h.lists in let ids = h.ids in record {
    stops = emptied_stops;
    refs = h.refs;
    embargoes = h.embargoes;
    no_other_embargoes = h.no_other_embargoes;
    lists = record {
      at_promises = l.at_promises;
      at_outcomes = at_put (λ q z. OutcomeHolds m.net.stop v (g.outcome q) (m.net.waiting (OfOutcome v (g.outcome q))) z) s.outcomes o entry' tt (λ q n. l.at_outcomes q);
      no_other_promise = l.no_other_promise;
      no_other_outcome = λ i. still i (l.no_other_outcome i);
    };
    ids = record {
      of_promises = ids.of_promises;
      of_outcomes = λ q i. ids.of_outcomes q (before' q i);
      promises_differ = ids.promises_differ;
      outcomes_differ = λ q r i j. ids.outcomes_differ q r (before' q i) (before' r j);
      new_promises = ids.new_promises;
      new_outcomes = ids.new_outcomes;
    };
  }
    where
      closed : IsOpenOutcome (map.get s.outcomes o) → ⊥
      closed k = let a : x.value ≡ None = subst IsOpenOutcome e k in let b : Some fit ≡ None = sym is ∙ a in cc

      still : (i : ℕ) → (m.net.waiting (OfOutcome v i) ≡ []) ⊎ ((q : ℕ) × IsOpenOutcome (map.get s.outcomes q) × (g.outcome q ≡ i)) → (m.net.waiting (OfOutcome v i) ≡ []) ⊎ ((q : ℕ) × IsOpenOutcome (map.get (map.insert s.outcomes o entry') q) × (g.outcome q ≡ i))
      still i (inl f) = inl f
      still i (inr f) = inr (f.0, at_put (λ q z. IsOpenOutcome (map.get s.outcomes q) → IsOpenOutcome z) s.outcomes o entry' (λ k. absurd (closed k)) (λ q n k. k) f.0 f.1, f.2)

pub emptied : (w : Around) (d : Progress) (g : Ghosts) (m : routing.State routes) (o : ℕ) (x : KeptOutcome) (from : Caller) (waiting : List HeldCall) (fit : Value) → Tied w d g m → map.get d.state.outcomes o ≡ Some x → x.value ≡ Some fit
    → Tied w (with_state d (known d.state o from waiting fit)) g m
emptied w d g m o x from waiting fit t e is =
    let view = t.view in
    let back = t.back in
    record {
      own = emptied_side w.vat d.state g.own g.next m o x from waiting fit t.own e is;
      theirs = t.theirs;
      view = record { imports = view.imports; sessions = view.sessions; link = view.link };
      back = record { imports = back.imports; sessions = back.sessions; link = back.link };
      told = t.told;
      unborn = t.unborn;
      unborn_back = unborn_fewer t.unborn_back _ (before' w.vat d.state g.own g.next m o x from waiting fit t.own e is);
      known = t.known;
      known_there = t.known_there;
      goes = t.goes;
      comes = t.comes;
    }
