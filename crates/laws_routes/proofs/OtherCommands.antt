-- References are dropped, calls are finished, promises are made, and the other vat is asked for its bootstrap object.
use Rattle.std.specs.FinMap as map
use Rattle.std.proofs.Common.{◌≡◌, ℕ, ◌+◌, nat_eq, false, List, [], ◌∷◌, ◌++◌, append_assoc, append-nil, Option, None, Some, IsSome, refl, sym, ap, subst, ◌∙◌, arith}
use Rattle.finite_maps.proofs.Tested.{at_cut, at_put}
use Rattle.rpc_msg.specs.declared.ids.Vat.{Vat}
use Rattle.rpc_msg.specs.declared.message.PlainMessage.TheVariants as plain
use Rattle.rpc_msg.specs.declared.message.Message as rpc
use Rattle.rpc_msg.specs.declared.message.Message.TheVariants as message
use Rattle.rpc_msg.specs.Vats.{other_vat}
use Rattle.rpc_machine.specs.declared.command.Granted.{Granted}
use Rattle.rpc_machine.specs.declared.calls.OwnCall.{OwnCall}
use Rattle.rpc_machine.specs.declared.calls.OwnCall.TheVariants as own_call
use Rattle.rpc_machine.specs.declared.entries.Finishing.TheVariants as finishing
use Rattle.rpc_machine.specs.declared.entries.Question.{Question}
use Rattle.rpc_machine.specs.declared.entries.Reference.{Reference}
use Rattle.rpc_machine.specs.declared.entries.Role.TheVariants as role
use Rattle.rpc_machine.specs.declared.node.Node.TheVariants as node
use Rattle.rpc_machine.specs.State.{State}
use Rattle.rpc_machine.specs.Progress.{Progress, with_state}
use Rattle.rpc_machine.specs.Commands.{AsksBootstrap, DropsRef, FinishesCall, MakesPromise}
use Rattle.laws_order.specs.Machine as routing
use Rattle.laws_order.specs.Moves.{Done}
use Rattle.laws_routes.specs.Points.{routes}
use Rattle.laws_routes.specs.Ghosts.{Ghost, ref_at, with_at, asked, holding}
use Rattle.laws_routes.specs.Sides.{Side, IsRef}
use Rattle.laws_routes.specs.Views.{IsSession, past, reader, sessions_at, shapes}
use Rattle.laws_routes.specs.Ties.{Around, Ghosts, Tied, TiedBy}
use Rattle.laws_routes.specs.Premises.{EachMayOpen, EachOpen, MayAsk}
use Rattle.laws_routes.specs.Laws.{Comes}
use Rattle.laws_routes.specs.OutcomeLaws.{opening}
use Rattle.laws_routes.proofs.CallDelivered.{set_rest}
use Rattle.laws_routes.proofs.CallSent.{asked_side, import_still, linked_side, point_still}
use Rattle.laws_routes.proofs.Differing.{with_here, with_other}
use Rattle.laws_routes.proofs.ExportsGrown.{Grown, none_grown}
use Rattle.laws_routes.proofs.LinkShapes.{cap_map, open_map, past_more, past_same, shapes_exports, shapes_more, shapes_same}
use Rattle.laws_routes.proofs.NewReferences.{new_ref_begins}
use Rattle.laws_routes.proofs.PromiseOpened.{promise_opens}
use Rattle.laws_routes.proofs.UnbornKept.{unborn_asked, unborn_later}
use Rattle.laws_routes.specs.Sayings.{AllSaid, Has, bare, has_of}
use Rattle.laws_routes.proofs.KnownKept.{known_as_asked}
use Rattle.laws_routes.proofs.CallSent.{said_asked, said_back_asked, said_to_asker}
use Rattle.laws_routes.proofs.SayingsCarried.{said_is_sent}

-- ---- A reference is dropped

dropped_side : (v : Vat) (s : State) (g : Ghost) (next : ℕ) (m : routing.State routes) (r : ℕ) (x : Reference) → map.get s.refs r ≡ Some x → Side v s g next m → Side v (record s { refs = map.remove s.refs r }) g next m
dropped_side v s g next m r x e h = record {
  stops = h.stops;
  refs = at_cut (λ q o. IsRef v g s.next_ref q o (m.refs (ref_at v q))) s.refs r (λ l. (let a : IsRef v g s.next_ref r (Some x) (m.refs (ref_at v r)) = subst (λ o. IsRef v g s.next_ref r o (m.refs (ref_at v r))) e (h.refs r) in let b = a.0 in absurd (omega (arith, b, l)))) (λ q n. h.refs q);
  embargoes = h.embargoes;
  no_other_embargoes = h.no_other_embargoes;
  lists = h.lists;
  ids = h.ids;
}

pub ref_dropped : (w : Around) (d : Progress) (g : Ghosts) (m : routing.State routes) (r : ℕ) (granted : Granted) (new : Progress) → Tied w d g m → DropsRef d r (map.get d.state.refs r) granted new → Tied w new g m
ref_dropped w d g m r granted new t h = by (map.get d.state.refs r) refl h
  where
    by : (o : Option Reference) → map.get d.state.refs r ≡ o → DropsRef d r o granted new → Tied w new g m
    by None e k = absurd k
    by (Some x) e k =
        let view = t.view in
        let back = t.back in
        rw k.1 (record {
          own = dropped_side w.vat d.state g.own g.next m r x e t.own;
          theirs = t.theirs;
          view = record { imports = view.imports; sessions = view.sessions; link = view.link };
          back = record { imports = back.imports; sessions = back.sessions; link = back.link };
          told = t.told;
          unborn = t.unborn;
          unborn_back = t.unborn_back;
          known = t.known;
          known_there = t.known_there;
          goes = t.goes;
          comes = t.comes;
        })

-- ---- A call is finished

pub call_finished : (w : Around) (d : Progress) (g : Ghosts) (m : routing.State routes) (c : ℕ) (granted : Granted) (new : Progress) → Tied w d g m → FinishesCall d c (map.get d.state.calls c) granted new → Tied w new g m
call_finished w d g m c granted new t h = by (map.get d.state.calls c) h
  where
    by : (o : Option OwnCall) → FinishesCall d c o granted new → Tied w new g m
    by None k = absurd k
    by (Some x) k =
        let s = d.state in
        rw k.1 (set_rest w s d.effects.sends d.effects.deliveries g m (map.remove s.calls c) s.tasks s.unsettled s.next_call s.next_task s.next_promise t)

-- ---- A promise is made

pub promise_made : (w : Around) (d : Progress) (g : Ghosts) (m : routing.State routes) (granted : Granted) (new : Progress) → Tied w d g m → EachMayOpen d.state → MakesPromise d granted new → Comes w new m [] []
promise_made w d g m granted new t may h =
    let s = d.state in
    let p : ℕ = h.0 in
    let f : Ghosts = record { own = holding g.own p g.next; theirs = g.theirs; next = g.next + 1 } in
    let opens = promise_opens w d g m p t h.1 (may p h.1) in
    let u : State = opening s p in
    let left : Tied w (with_state d (record u { unsettled = map.insert s.unsettled s.next_promise p; next_promise = s.next_promise + 1 })) f m =
    set_rest w u d.effects.sends d.effects.deliveries f m u.calls u.tasks (map.insert s.unsettled s.next_promise p) u.next_call u.next_task (s.next_promise + 1) opens in
    let a = new_ref_begins w (with_state d (record u { unsettled = map.insert s.unsettled s.next_promise p; next_promise = s.next_promise + 1 })) f m [] (node.Promise p) left in
    (a.0, a.1, a.2, rw h.3 a.3)

-- ---- A bootstrap object is asked for

module _ (w : Around) (s : State) (sends : List rpc.Message) (ds : _) (g : Ghosts) (m : routing.State routes) (q : ℕ) (x : Question) (t : TiedBy w [] s sends ds g m) (free : map.get s.questions q ≡ None) (unanswered : x.returned ≡ None) (may : MayAsk s (w.out ++ sends) w.back q) where
  abbrev now : ℕ → ℕ
  now = sessions_at g.theirs.outcome (w.other).answers

  abbrev out : List rpc.Message
  out = w.out ++ sends

  abbrev said : rpc.Message
  said = message.Plain (plain.Bootstrap (record { 0 = q }))

  abbrev then : Ghost
  then = asked g.own q g.next

  abbrev after : State
  after = record s { questions = map.insert s.questions q x }

  abbrev u : Vat
  u = other_vat w.vat

  none : EachOpen (λ k. then.session k ≡ g.own.session k) out
  none = open_map (λ k. nat_eq k q ≡ false) (λ k. then.session k ≡ g.own.session k) out (λ k n. with_other g.own.session q g.next k n) may.not_open

  assoc : w.out ++ (sends ++ said ∷ []) ≡ out ++ said ∷ []
  assoc = sym (append_assoc w.out sends (said ∷ []))

  known : past then now (w.out ++ (sends ++ said ∷ [])) ≡ with_at (past g.own now out) q (then.session q)
  known = ap (past then now) assoc ∙ (past_more then now out said ∙ ap (λ z. with_at z q (then.session q)) (past_same g.own then now out none))

  pub asked_tied : TiedBy w [] after (sends ++ said ∷ []) ds (record { own = then; theirs = g.theirs; next = g.next + 1 }) m
  asked_tied =
      let view = t.view in
      let back = t.back in
      record {
        own = asked_side w.vat s g.own g.next q m s.exports (map.insert s.questions q x) m.net.links may.unnamed t.own;
        theirs = linked_side u w.other g.theirs g.next m m.net.links t.theirs;
        view = record {
          imports = view.imports;
          sessions = λ k. subst (λ (z : ℕ → ℕ). IsSession (then.session k) (z k) (map.get (map.insert s.questions q x) k)) (sym known)
              (at_put (λ k o. IsSession (then.session k) (with_at (past g.own now out) q (then.session q) k) o) s.questions q x (λ z. with_here (past g.own now out) q (then.session q))
              (λ k n. subst (λ (a : ℕ). IsSession a (with_at (past g.own now out) q (then.session q) k) (map.get s.questions k)) (sym (with_other g.own.session q g.next k n))
              (subst (λ (a : ℕ). IsSession (g.own.session k) a (map.get s.questions k)) (sym (with_other (past g.own now out) q (then.session q) k n)) (view.sessions k))) k);
          link =
              ap (shapes w.vat u then (reader s w.other g.theirs) now) assoc
              ∙ (shapes_more w.vat u then (reader s w.other g.theirs) now out said
              ∙ (append-nil (shapes w.vat u then (reader s w.other g.theirs) now out) ∙ (shapes_same w.vat u g.own then (reader s w.other g.theirs) now out none ∙ view.link)));
        };
        back = record {
          imports = λ e. import_still w.vat g.own q g.next s.exports s.exports e (g.theirs.import e) (map.get (w.other).imports e) grown (may.own e) (back.imports e);
          sessions = back.sessions;
          link =
              shapes_exports u w.vat g.theirs (reader w.other s g.own) s.exports then (sessions_at g.own.outcome s.answers) w.back
              (cap_map (λ e. IsSome (map.get s.exports e)) _ w.back (λ e i. point_still w.vat g.own q g.next s.exports s.exports e grown (may.own e) i) may.met)
              ∙ back.link;
        };
        told = t.told;
        unborn = unborn_asked g.own.session q w.out sends said u w.other g.theirs g.next m may.not_open refl t.theirs t.unborn;
        unborn_back = unborn_later t.unborn_back;
        known = λ l. known_as_asked w.vat s g.own (bare m.net) q g.next s.exports x free unanswered may.unsaid (t.known l);
        known_there = t.known_there;
        goes = subst (AllSaid (bare m.net) w.vat s.exports then u (w.other).exports g.theirs has now) (append_assoc w.out sends (said ∷ []))
            (said_is_sent (bare m.net) w.vat s.exports then u (w.other).exports g.theirs has now out (plain.Bootstrap (record { 0 = q })) (said_asked w.vat u s w.other g.own g.theirs (bare m.net) q g.next may.own has now out may.not_open t.goes) tt);
        comes = said_to_asker (bare m.net) u (w.other).exports g.theirs w.vat s.exports then s.imports s.questions q x (sessions_at g.own.outcome s.answers) w.back may.not_returned
            (said_back_asked w.vat u s w.other g.own g.theirs (bare m.net) q g.next may.own (has_of [] s.imports s.questions) (sessions_at g.own.outcome s.answers) w.back may.not_returned t.comes);
      }
    where
      has : Has
      has = has_of [] (w.other).imports (w.other).questions

      grown : Grown s.exports s.exports
      grown = none_grown s.exports

pub bootstrap_asked : (w : Around) (d : Progress) (g : Ghosts) (m : routing.State routes) (granted : Granted) (new : Progress) → Tied w d g m → ((q : ℕ) → map.get d.state.questions q ≡ None → MayAsk d.state (w.out ++ d.effects.sends) w.back q)
    → AsksBootstrap d granted new → Comes w new m [] []
bootstrap_asked w d g m granted new t may h =
    let s = d.state in
    let q : ℕ = h.0 in
    let x : Question = record { role = role.Direct (record { 0 = s.next_call }); given = []; returned = None; finish = finishing.Owed } in
    let sends = d.effects.sends ++ message.Plain (plain.Bootstrap (record { 0 = q })) ∷ [] in
    let f : Ghosts = record { own = asked g.own q g.next; theirs = g.theirs; next = g.next + 1 } in
    let u : State = record s { questions = map.insert s.questions q x } in
    let a = asked_tied w s d.effects.sends d.effects.deliveries g m q x t h.1 refl (may q h.1) in
    (f, m, Done, rw h.3 (set_rest w u sends d.effects.deliveries f m (map.insert s.calls s.next_call (own_call.Direct (record { 0 = q }))) u.tasks u.unsettled (s.next_call + 1) u.next_task u.next_promise a))
