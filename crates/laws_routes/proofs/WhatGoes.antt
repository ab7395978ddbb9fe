-- What no place names goes.
use Rattle.std.specs.FinMap as map
use Rattle.std.proofs.Common.{◌≡◌, ◌⊎◌, inl, inr, ℕ, [], true, Option, None, Some, IsSome, refl}
use Rattle.finite_maps.proofs.Tested.{at_cut}
use Rattle.rpc_msg.specs.declared.ids.Vat.{Vat}
use Rattle.rpc_msg.specs.Vats.{other_vat}
use Rattle.rpc_machine.specs.declared.node.Node.TheVariants as node
use Rattle.rpc_machine.specs.declared.calls.KeptOutcome.{KeptOutcome}
use Rattle.rpc_machine.specs.declared.calls.Promise.{Promise}
use Rattle.rpc_machine.specs.declared.calls.Promise.TheVariants as promise
use Rattle.rpc_machine.specs.declared.calls.Value.{Value}
use Rattle.rpc_machine.specs.State.{State}
use Rattle.rpc_machine.specs.Nodes.{promise_link, field_link, value_of}
use Rattle.rpc_machine.specs.Progress.{Progress}
use Rattle.rpc_machine.specs.Collecting.{Goes, PromiseGoes, OutcomeGoes, ImportGoes, IsLoosePromise, IsLooseOutcome, IsLooseValue}
use Rattle.laws_order.specs.Machine as routing
use Rattle.laws_routes.specs.Points.{OfPromise, OfOutcome, routes}
use Rattle.laws_routes.specs.Ghosts.{Ghost}
use Rattle.laws_routes.specs.Sides.{Side, Stops, IsLinked, PromiseWaits, OutcomeHolds, IsOpenPromise, IsOpenOutcome}
use Rattle.laws_routes.specs.Views.{IsImportOf, sessions_at}
use Rattle.laws_routes.specs.Ties.{Around, Ghosts, Tied}
use Rattle.laws_routes.proofs.UnbornKept.{unborn_fewer}
use Rattle.laws_routes.proofs.KnownKept.{Less, less}
use Rattle.laws_routes.proofs.SayingsCarried.{each_return, said_of_fewer}
use Rattle.laws_routes.specs.Sayings.{bare, has_of}
use Rattle.rpc_machine.specs.Advancing.{resolution_of}
use Rattle.std.specs.Prelude.{is_some}

pub none_there : (X : Type 0) {A : Type 0} → IsSome {T = X} None → A
none_there X h = cc

module _ (v : Vat) (s : State) (g : Ghost) (next : ℕ) (m : routing.State routes) (h : Side v s g next m) where
  promise_gone : (p : ℕ) → IsLoosePromise s p (map.get s.promises p) → Side v (record s { promises = map.remove s.promises p }) g next m
  promise_gone p loose = record {
    stops = stops;
    refs = h.refs;
    embargoes = h.embargoes;
    no_other_embargoes = h.no_other_embargoes;
    lists = (let l = h.lists in record {
      at_promises = at_cut (λ q o. PromiseWaits m.net.stop v (g.promise q) (m.net.waiting (OfPromise v (g.promise q))) o) s.promises p tt (λ q n. l.at_promises q);
      at_outcomes = l.at_outcomes;
      no_other_promise = λ i. other i (l.no_other_promise i);
      no_other_outcome = l.no_other_outcome;
    });
    ids = (let i = h.ids in record {
      of_promises = λ q j. i.of_promises q (before q j);
      of_outcomes = i.of_outcomes;
      promises_differ = λ q r j k. i.promises_differ q r (before q j) (before r k);
      outcomes_differ = i.outcomes_differ;
      new_promises = i.new_promises;
      new_outcomes = i.new_outcomes;
    });
  }
    where
      before : (q : ℕ) → IsSome (map.get (map.remove s.promises p) q) → IsSome (map.get s.promises q)
      before = at_cut (λ q o. IsSome o → IsSome (map.get s.promises q)) s.promises p (λ j. none_there Promise j) (λ q n j. j)

      stops : Stops v (record s { promises = map.remove s.promises p }) g m.net
      stops (node.Object o) w i = h.stops (node.Object o) w i
      stops (node.Promise q) w i = at_cut (λ q o. IsSome o → IsLinked v g m.net (node.Promise q) (promise_link o)) s.promises p (λ j. none_there Promise j) (λ q n j. h.stops (node.Promise q) refl j) q i
      stops (node.Field o path) w i = h.stops (node.Field o path) w i
      stops (node.Import k) w i = cc
      stops (node.Pipe q path) w i = cc
      stops (node.Broken reason) w i = h.stops (node.Broken reason) w i

      closed : (o : Option Promise) → IsLoosePromise s p o → IsOpenPromise o → ⊥
      closed None l k = l
      closed (Some (promise.Open calls)) l k = l
      closed (Some (promise.Fixed to)) l k = k

      other : (i : ℕ) → (m.net.waiting (OfPromise v i) ≡ []) ⊎ ((q : ℕ) × IsOpenPromise (map.get s.promises q) × (g.promise q ≡ i)) → (m.net.waiting (OfPromise v i) ≡ []) ⊎ ((q : ℕ) × IsOpenPromise (map.get (map.remove s.promises p) q) × (g.promise q ≡ i))
      other i (inl f) = inl f
      other i (inr f) = inr (f.0, at_cut (λ q o. IsOpenPromise (map.get s.promises q) → IsOpenPromise o) s.promises p (λ k. closed (map.get s.promises p) loose k) (λ q n k. k) f.0 f.1, f.2)

  outcome_gone : (o : ℕ) → IsLooseOutcome s o (map.get s.outcomes o) → Side v (record s { outcomes = map.remove s.outcomes o }) g next m
  outcome_gone o loose = record {
    stops = stops;
    refs = h.refs;
    embargoes = h.embargoes;
    no_other_embargoes = h.no_other_embargoes;
    lists = (let l = h.lists in record {
      at_promises = l.at_promises;
      at_outcomes = at_cut (λ q z. OutcomeHolds m.net.stop v (g.outcome q) (m.net.waiting (OfOutcome v (g.outcome q))) z) s.outcomes o tt (λ q n. l.at_outcomes q);
      no_other_promise = l.no_other_promise;
      no_other_outcome = λ i. other i (l.no_other_outcome i);
    });
    ids = (let i = h.ids in record {
      of_promises = i.of_promises;
      of_outcomes = λ q j. i.of_outcomes q (before q j);
      promises_differ = i.promises_differ;
      outcomes_differ = λ q r j k. i.outcomes_differ q r (before q j) (before r k);
      new_promises = i.new_promises;
      new_outcomes = i.new_outcomes;
    });
  }
    where
      before : (q : ℕ) → IsSome (map.get (map.remove s.outcomes o) q) → IsSome (map.get s.outcomes q)
      before = at_cut (λ q z. IsSome z → IsSome (map.get s.outcomes q)) s.outcomes o (λ j. none_there KeptOutcome j) (λ q n j. j)

      stops : Stops v (record s { outcomes = map.remove s.outcomes o }) g m.net
      stops (node.Object k) w i = h.stops (node.Object k) w i
      stops (node.Promise q) w i = h.stops (node.Promise q) w i
      stops (node.Field q path) w i = at_cut (λ q z. IsSome z → IsLinked v g m.net (node.Field q path) (field_link path (value_of z))) s.outcomes o (λ j. none_there KeptOutcome j) (λ q n j. h.stops (node.Field q path) refl j) q i
      stops (node.Import k) w i = cc
      stops (node.Pipe q path) w i = cc
      stops (node.Broken reason) w i = h.stops (node.Broken reason) w i

      known : (x : KeptOutcome) (z : Option Value) → IsLooseValue s o x z → z ≡ None → ⊥
      known x None l k = l
      known x (Some y) l k = cc

      closed : (z : Option KeptOutcome) → IsLooseOutcome s o z → IsOpenOutcome z → ⊥
      closed None l k = l
      closed (Some x) l k = known x x.value l k

      other : (i : ℕ) → (m.net.waiting (OfOutcome v i) ≡ []) ⊎ ((q : ℕ) × IsOpenOutcome (map.get s.outcomes q) × (g.outcome q ≡ i)) → (m.net.waiting (OfOutcome v i) ≡ []) ⊎ ((q : ℕ) × IsOpenOutcome (map.get (map.remove s.outcomes o) q) × (g.outcome q ≡ i))
      other i (inl f) = inl f
      other i (inr f) = inr (f.0, at_cut (λ q z. IsOpenOutcome (map.get s.outcomes q) → IsOpenOutcome z) s.outcomes o (λ k. closed (map.get s.outcomes o) loose k) (λ q n k. k) f.0 f.1, f.2)

pub gone : (w : Around) (d : Progress) (g : Ghosts) (m : routing.State routes) (new : Progress) → Tied w d g m → Goes d new → Tied w new g m
gone w d g m new t (PromiseGoes p loose e) =
    let view = t.view in
    let back = t.back in
    rw e (record {
      own = promise_gone w.vat d.state g.own g.next m t.own p loose;
      theirs = t.theirs;
      view = record { imports = view.imports; sessions = view.sessions; link = view.link };
      back = record { imports = back.imports; sessions = back.sessions; link = back.link };
      told = t.told;
      unborn = t.unborn;
      unborn_back = t.unborn_back;
      known = t.known;
      known_there = t.known_there;
      goes = t.goes;
      comes = t.comes;
    })
gone w d g m new t (OutcomeGoes o loose e) =
    let view = t.view in
    let back = t.back in
    rw e (record {
      own = outcome_gone w.vat d.state g.own g.next m t.own o loose;
      theirs = t.theirs;
      view = record { imports = view.imports; sessions = view.sessions; link = view.link };
      back = record { imports = back.imports; sessions = back.sessions; link = back.link };
      told = t.told;
      unborn = t.unborn;
      unborn_back = unborn_fewer t.unborn_back _ (at_cut (λ q z. IsSome z → IsSome (map.get d.state.outcomes q)) d.state.outcomes o (λ i. none_there KeptOutcome i) (λ q n i. i));
      known = t.known;
      known_there = t.known_there;
      goes = t.goes;
      comes = t.comes;
    })
gone w d g m new t (ImportGoes i loose e) =
    let own = t.own in
    let view = t.view in
    let back = t.back in
    rw e (record {
      own = record { stops = own.stops; refs = own.refs; embargoes = own.embargoes; no_other_embargoes = own.no_other_embargoes; lists = own.lists; ids = own.ids };
      theirs = t.theirs;
      view = record {
        imports = at_cut (λ k o. IsImportOf (other_vat w.vat) g.theirs (g.own.import k) (map.get (w.other).exports k) o) d.state.imports i tt (λ k n. view.imports k);
        sessions = view.sessions;
        link = view.link;
      };
      back = record { imports = back.imports; sessions = back.sessions; link = back.link };
      told = t.told;
      unborn = t.unborn;
      unborn_back = t.unborn_back;
      known = λ l. less w.vat g.own (bare m.net) d.state (record (d.state) { imports = map.remove d.state.imports i })
          (at_cut (λ k o. Less (resolution_of (map.get d.state.imports k)) (resolution_of o)) d.state.imports i (inl refl) (λ k f. inr refl)) (λ k. inr refl) (t.known l);
      known_there = t.known_there;
      goes = t.goes;
      comes = said_of_fewer (bare m.net) (other_vat w.vat) (w.other).exports g.theirs w.vat d.state.exports g.own (has_of [] d.state.imports d.state.questions) (has_of [] (map.remove d.state.imports i) d.state.questions)
          (sessions_at g.own.outcome d.state.answers) w.back (at_cut (λ k o. is_some o ≡ true → is_some (map.get d.state.imports k) ≡ true) d.state.imports i (λ h. cc) (λ k f h. h)) (each_return _ w.back (λ q h. h)) t.comes;
    })
