-- A new promise.
use Rattle.std.specs.FinMap as map
use Rattle.std.proofs.Common.{◌≡◌, ◌⊎◌, inl, inr, ℕ, ◌+◌, ◌<◌, Bool, nat_eq, true, false, [], Option, None, Some, IsSome, refl, sym, ap, subst, ◌∙◌, arith, ◌++◌}
use Rattle.finite_maps.proofs.Tested.{at_put, equal}
use Rattle.rpc_msg.specs.declared.ids.Vat.{Vat}
use Rattle.rpc_msg.specs.Vats.{other_vat}
use Rattle.rpc_machine.specs.declared.node.Node.{Node}
use Rattle.rpc_machine.specs.declared.node.Node.TheVariants as node
use Rattle.rpc_machine.specs.declared.calls.Promise.{Promise}
use Rattle.rpc_machine.specs.declared.calls.Promise.TheVariants as promise
use Rattle.rpc_machine.specs.declared.entries.Reference.{Reference}
use Rattle.rpc_machine.specs.declared.entries.Embargo.{Embargo}
use Rattle.rpc_machine.specs.declared.entries.Export.{Export}
use Rattle.rpc_machine.specs.declared.entries.Import.{Import}
use Rattle.rpc_machine.specs.State.{State}
use Rattle.rpc_machine.specs.Nodes.{link, is_promise, promise_link}
use Rattle.rpc_machine.specs.Progress.{Progress, with_state}
use Rattle.rpc_machine.specs.Descriptors.{export_node}
use Rattle.laws_order.specs.Machine as routing
use Rattle.laws_routes.specs.Premises.{MayOpen}
use Rattle.laws_routes.specs.Points.{Point, OfPromise, routes}
use Rattle.laws_routes.specs.Ghosts.{Ghost, point, far, ref_at, holding}
use Rattle.laws_routes.specs.Sides.{Side, Stops, IsLinked, HasHead, IsRef, HasEmbargo, PromiseWaits, IsOpenPromise, Lists, Ids}
use Rattle.laws_routes.specs.Views.{reader, IsExportAs, IsImportOf, sessions_at}
use Rattle.laws_routes.specs.Ties.{Around, Ghosts, Tied}
use Rattle.laws_routes.specs.OutcomeLaws.{opening}
use Rattle.laws_routes.proofs.Differing.{with_here, with_other}
use Rattle.laws_routes.proofs.OutcomeKept.{all_caps}
use Rattle.laws_routes.proofs.LinkShapes.{shapes_exports}
use Rattle.laws_routes.proofs.CallSent.{linked_side}
use Rattle.laws_routes.proofs.NewPoints.{holding_point}
use Rattle.laws_routes.proofs.UnbornKept.{unborn_later}
use Rattle.laws_routes.specs.Sayings.{bare, has_of}
use Rattle.laws_routes.proofs.KnownKept.{known_as_held}
use Rattle.laws_routes.proofs.LinkShapes.{all_opens}
use Rattle.laws_routes.proofs.SayingsCarried.{each_return, said_as_given}

holding_far : (v : Vat) (g : Ghost) (p i : ℕ) (n : Node) → far v (holding g p i) n ≡ far v g n
holding_far v g p i (node.Object x) = refl
holding_far v g p i (node.Promise k) = refl
holding_far v g p i (node.Field k path) = refl
holding_far v g p i (node.Import e) = refl
holding_far v g p i (node.Pipe q path) = refl
holding_far v g p i (node.Broken reason) = refl

holding_head : (v : Vat) (g : Ghost) (p i : ℕ) (n : Node) (dead : Bool) (head : Point) → is_promise p n ≡ false → HasHead v g n dead head → HasHead v (holding g p i) n dead head
holding_head v g p i (node.Object x) dead head h k = k
holding_head v g p i (node.Promise j) dead head h k = (k.0, k.1 ∙ sym (holding_point v g p i (node.Promise j) h))
holding_head v g p i (node.Field j path) dead head h k = k
holding_head v g p i (node.Import e) dead head h k = k
holding_head v g p i (node.Pipe q path) dead head h k = k
holding_head v g p i (node.Broken reason) dead head h k = k

-- It gets the identity that comes next.
module _ (v : Vat) (s : State) (g : Ghost) (next : ℕ) (m : routing.State routes) (p : ℕ) (h : Side v s g next m) (free : map.get s.promises p ≡ None) (may : MayOpen s p) where
  abbrev f : Ghost
  f = holding g p next

  abbrev entry : Promise
  entry = promise.Open []

  unused : (q : ℕ) → IsSome (map.get s.promises q) → g.promise q ≡ next → ⊥
  unused q i e = let ids = h.ids in let a = ids.of_promises q i in omega (arith, e)

  empty : m.net.waiting (OfPromise v next) ≡ []
  empty = by (let l = h.lists in l.no_other_promise next)
    where
      there : (q : ℕ) (z : Option Promise) → map.get s.promises q ≡ z → IsOpenPromise z → IsSome (map.get s.promises q)
      there q None e k = absurd k
      there q (Some x) e k = subst (λ (z : Option Promise). IsSome z) (sym e) refl

      by : (m.net.waiting (OfPromise v next) ≡ []) ⊎ ((q : ℕ) × IsOpenPromise (map.get s.promises q) × (g.promise q ≡ next)) → m.net.waiting (OfPromise v next) ≡ []
      by (inl e) = e
      by (inr k) = absurd (unused k.0 (there k.0 (map.get s.promises k.0) refl k.1) k.2)

  linked : (k : Node) → is_promise p k ≡ false → (z : Option Node) → ((j : Node) → z ≡ Some j → is_promise p j ≡ false) → IsLinked v g m.net k z → IsLinked v f m.net k z
  linked k w None un a = rw (holding_point v g p next k w) a
  linked k w (Some j) un a = rw (holding_point v g p next k w) (rw (holding_point v g p next j (un j refl)) (rw (holding_far v g p next j) a))

  opened_stops : Stops v (opening s p) f m.net
  opened_stops (node.Object x) w j = h.stops (node.Object x) w j
  opened_stops (node.Promise q) w j =
      at_put (λ q z. IsSome z → IsLinked v f m.net (node.Promise q) (promise_link z)) s.promises p entry
      (λ a. rw (with_here g.promise p next) (let ids = h.ids in ids.new_promises next (omega arith)))
      (λ q n a. linked (node.Promise q) n (link s (node.Promise q)) (λ k e. (let u = may.unnamed in u.links (node.Promise q) k a e)) (h.stops (node.Promise q) refl a)) q j
  opened_stops (node.Field o path) w j = linked (node.Field o path) refl (link s (node.Field o path)) (λ k e. (let u = may.unnamed in u.links (node.Field o path) k j e)) (h.stops (node.Field o path) w j)
  opened_stops (node.Import x) w j = cc
  opened_stops (node.Pipe q path) w j = cc
  opened_stops (node.Broken reason) w j = h.stops (node.Broken reason) w j

  ref : (r : ℕ) (z : Option Reference) → map.get s.refs r ≡ z → IsRef v g s.next_ref r z (m.refs (ref_at v r)) → IsRef v f s.next_ref r z (m.refs (ref_at v r))
  ref r None e a = a
  ref r (Some x) e a = let u = may.unnamed in (a.0, a.1, a.2, holding_head v g p next x.head _ _ (u.heads r x e) a.3, a.4)

  embargo : (e : ℕ) (z : Option Embargo) → map.get s.embargoes e ≡ z → HasEmbargo v g m z → HasEmbargo v f m z
  embargo e None k a = tt
  embargo e (Some b) k a = let u = may.unnamed in (a.0, a.1, a.2, a.3, a.4, a.5 ∙ sym (holding_point v g p next b.node (u.embargoes e b k)))

  opened_lists : Lists v (map.insert s.promises p entry) s.outcomes f.promise f.outcome m.net.stop m.net.waiting
  opened_lists = let l = h.lists in record {
    at_promises = at_put (λ q z. PromiseWaits m.net.stop v (f.promise q) (m.net.waiting (OfPromise v (f.promise q))) z) s.promises p entry
        (rw (with_here g.promise p next) (rw empty tt))
        (λ q n. rw (with_other g.promise p next q n) (l.at_promises q));
    at_outcomes = l.at_outcomes;
    no_other_promise = λ j. other j (l.no_other_promise j);
    no_other_outcome = l.no_other_outcome;
  }
    where
      open_still : (q : ℕ) → IsOpenPromise (map.get s.promises q) → (b : Bool) → nat_eq q p ≡ b → b ≡ false
      open_still q k false e = refl
      open_still q k true e = absurd (subst IsOpenPromise (ap (map.get s.promises) (equal q p e) ∙ free) k)

      other : (j : ℕ) → (m.net.waiting (OfPromise v j) ≡ []) ⊎ ((q : ℕ) × IsOpenPromise (map.get s.promises q) × (g.promise q ≡ j)) → (m.net.waiting (OfPromise v j) ≡ []) ⊎ ((q : ℕ) × IsOpenPromise (map.get (map.insert s.promises p entry) q) × (f.promise q ≡ j))
      other j (inl e) = inl e
      other j (inr e) =
          let n = open_still e.0 e.1 (nat_eq e.0 p) refl in
          inr (e.0, at_put (λ q z. IsOpenPromise (map.get s.promises q) → IsOpenPromise z) s.promises p entry (λ k. tt) (λ q k z. z) e.0 e.1, with_other g.promise p next e.0 n ∙ e.2)

  opened_ids : Ids v (map.insert s.promises p entry) s.outcomes f.promise f.outcome m.net.stop m.net.kind (next + 1)
  opened_ids = let ids = h.ids in record {
    of_promises = at_put (λ q z. IsSome z → f.promise q < next + 1) s.promises p entry (λ j. rw (with_here g.promise p next) (omega arith)) (λ q n j. rw (with_other g.promise p next q n) (let a = ids.of_promises q j in omega (arith)));
    of_outcomes = λ o j. (let a = ids.of_outcomes o j in omega (arith));
    promises_differ = λ q r. at_put (λ q z. IsSome z → IsSome (map.get (map.insert s.promises p entry) r) → f.promise q ≡ f.promise r → q ≡ r) s.promises p entry
        (λ j. at_put (λ r z. IsSome z → f.promise p ≡ f.promise r → p ≡ r) s.promises p entry (λ k e. refl) (λ r n k e. absurd (unused r k (sym (with_other g.promise p next r n) ∙ (sym e ∙ with_here g.promise p next)))) r)
        (λ q n j. at_put (λ r z. IsSome z → f.promise q ≡ f.promise r → q ≡ r) s.promises p entry (λ k e. absurd (unused q j (sym (with_other g.promise p next q n) ∙ (e ∙ with_here g.promise p next))))
        (λ r a k e. ids.promises_differ q r j k (sym (with_other g.promise p next q n) ∙ (e ∙ with_other g.promise p next r a))) r) q;
    outcomes_differ = ids.outcomes_differ;
    new_promises = λ j l. ids.new_promises j (omega (arith, l));
    new_outcomes = λ j path l. ids.new_outcomes j path (omega (arith, l));
  }

  pub opened_side : Side v (opening s p) f (next + 1) m
  opened_side = record {
    stops = opened_stops;
    refs = λ r. ref r (map.get s.refs r) refl (h.refs r);
    embargoes = λ e. embargo e (map.get s.embargoes e) refl (h.embargoes e);
    no_other_embargoes = h.no_other_embargoes;
    lists = opened_lists;
    ids = opened_ids;
  }

pub promise_opens : (w : Around) (d : Progress) (g : Ghosts) (m : routing.State routes) (p : ℕ) → Tied w d g m → map.get d.state.promises p ≡ None → MayOpen d.state p
    → Tied w (with_state d (opening d.state p)) (record { own = holding g.own p g.next; theirs = g.theirs; next = g.next + 1 }) m
promise_opens w d g m p t free may =
    let v = w.vat in
    let s = d.state in
    let view = t.view in
    let back = t.back in
    record {
      own = opened_side v s g.own g.next m p t.own free may;
      theirs = linked_side (other_vat v) w.other g.theirs g.next m m.net.links t.theirs;
      view = record { imports = view.imports; sessions = view.sessions; link = view.link };
      back = record {
        imports = λ e. import_same e (map.get (w.other).imports e) (back.imports e);
        sessions = back.sessions;
        link = shapes_exports (other_vat v) v g.theirs (reader w.other s g.own) s.exports f (sessions_at g.own.outcome s.answers) w.back (all_caps _ w.back (λ e. point_same (map.get s.exports e) (may.exports e))) ∙ back.link;
      };
      told = t.told;
      unborn = unborn_later t.unborn;
      unborn_back = unborn_later t.unborn_back;
      known = λ l. known_as_held v s g.own (bare m.net) p g.next may.unsaid (t.known l);
      known_there = t.known_there;
      goes = said_as_given (bare m.net) v s.exports g.own f (other_vat v) (w.other).exports g.theirs g.theirs (has_of [] (w.other).imports (w.other).questions) (sessions_at g.theirs.outcome (w.other).answers) (w.out ++ d.effects.sends)
          (λ e. point_same (map.get s.exports e) (may.exports e)) (λ e. refl) (all_opens _ (w.out ++ d.effects.sends) (λ k. refl)) (each_return _ (w.out ++ d.effects.sends) (λ k. refl)) t.goes;
      comes = said_as_given (bare m.net) (other_vat v) (w.other).exports g.theirs g.theirs v s.exports g.own f (has_of [] s.imports s.questions) (sessions_at g.own.outcome s.answers) w.back
          (λ e. refl) (λ e. point_same (map.get s.exports e) (may.exports e)) (all_opens _ w.back (λ k. refl)) (each_return _ w.back (λ k. refl)) t.comes;
    }
  where
    f : Ghost
    f = holding g.own p g.next

    import_same : (e : ℕ) (z : Option Import) → IsImportOf w.vat g.own (g.theirs.import e) (map.get d.state.exports e) z → IsImportOf w.vat f (g.theirs.import e) (map.get d.state.exports e) z
    import_same e None k = tt
    import_same e (Some x) k = by (map.get d.state.exports e) (may.exports e) k
      where
        by : (y : Option Export) → ((x : Export) → y ≡ Some x → is_promise p x.node ≡ false) → IsExportAs w.vat g.own (g.theirs.import e) y → IsExportAs w.vat f (g.theirs.import e) y
        by None own a = absurd a
        by (Some y) own a = a ∙ sym (holding_point w.vat g.own p g.next y.node (own y refl))

    point_same : (y : Option Export) → ((x : Export) → y ≡ Some x → is_promise p x.node ≡ false) → point w.vat f (export_node y) ≡ point w.vat g.own (export_node y)
    point_same None own = refl
    point_same (Some y) own = holding_point w.vat g.own p g.next y.node (own y refl)
