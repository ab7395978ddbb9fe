-- Two vats between steps.
use Rattle.std.specs.FinMap as map
use Rattle.std.specs.Ordering.{nat_cmp}
use Rattle.std.proofs.Common.{◌≡◌, inl, ℕ, List, [], ◌++◌, append-nil, Option, None, IsSome, refl, sym, ap, subst, ◌∙◌}
use Rattle.finite_maps.proofs.Coming.{none_yet}
use Rattle.rpc_msg.specs.declared.ids.Vat.{Vat}
use Rattle.rpc_msg.specs.declared.ids.Vat.TheVariants.{A, B}
use Rattle.rpc_msg.specs.declared.ids.ObjectId.{ObjectId}
use Rattle.rpc_msg.specs.declared.message.Message.{Message}
use Rattle.rpc_msg.specs.Vats.{other_vat}
use Rattle.rpc_journal.specs.History.{Ref}
use Rattle.rpc_machine.specs.declared.node.Node.TheVariants as node
use Rattle.rpc_machine.specs.declared.command.Level.{Level}
use Rattle.rpc_machine.specs.declared.command.Effects.{Effects}
use Rattle.rpc_machine.specs.declared.calls.KeptOutcome.{KeptOutcome}
use Rattle.rpc_machine.specs.declared.calls.Promise.{Promise}
use Rattle.rpc_machine.specs.declared.entries.Embargo.{Embargo}
use Rattle.rpc_machine.specs.declared.entries.Import.{Import}
use Rattle.rpc_machine.specs.declared.entries.Question.{Question}
use Rattle.rpc_machine.specs.declared.entries.Reference.{Reference}
use Rattle.rpc_machine.specs.State.{State, start}
use Rattle.laws_order.specs.Machine.{Kind}
use Rattle.laws_order.specs.Machine as routing
use Rattle.laws_order.specs.Invariant.{InvariantWith}
use Rattle.laws_order.specs.Order.{AtOne, IsBeginningOf, InOrder, below, indexes}
use Rattle.laws_order.proofs.Claims.{gives_order}
use Rattle.laws_order.proofs.Events.{start_holds}
use Rattle.laws_routes.specs.Points.{Point, AnObject, APromise, AField, Nowhere, routes}
use Rattle.laws_routes.specs.Ghosts.{Ghost, ref_at}
use Rattle.laws_routes.specs.Sides.{HasEmbargo, IsRef, OutcomeHolds, PromiseWaits, Side, Stops, Unborn}
use Rattle.laws_routes.specs.Views.{IsImportOf, IsSession, View, past, sessions_at, unborn_ids}
use Rattle.laws_routes.specs.Ties.{Around, Ghosts, Told, TiedBy, all_at, deliveries_of}
use Rattle.laws_routes.specs.StepLaws.{TiedAt}
use Rattle.laws_routes.specs.PairLaws.{beginning, behind, turned}
use Rattle.laws_routes.specs.Sayings.{IsKnown, KnownAt, KnownIsSo, SaidOn, bare}
use Rattle.rpc_machine.specs.Advancing.{known_by_resolve, known_by_return, resolution_of, returned_of}

-- ---- The start

abbrev first_kind : Point → Kind routes
first_kind (AnObject v n) = routing.Object
first_kind (APromise v i) = routing.Open
first_kind (AField v i path) = routing.Open
first_kind (Nowhere v) = routing.Broken

abbrev first : routing.State routes
first = routing.start first_kind (λ r. Nowhere r.vat)

abbrev no_ghost : Vat → Ghost
no_ghost v = record { promise = λ p. 0; outcome = λ o. 0; session = λ q. 0; import = λ e. Nowhere v }

there_not : (X : Type 0) {A : Type 0} (k : ℕ) → IsSome (map.get (map.empty {X = X} {R = nat_cmp}) k) → A
there_not X {A} k h = by (subst (λ (o : Option X). IsSome o) (none_yet k) h)
  where
    by : IsSome {T = X} None → A
    by i = cc

first_stops : (v : Vat) (l : Level) (o : Option ObjectId) → Stops v (start v l o) (no_ghost v) first.net
first_stops v l o (node.Object k) w i = (refl, refl)
first_stops v l o (node.Promise p) w i = there_not Promise p i
first_stops v l o (node.Field k path) w i = there_not KeptOutcome k i
first_stops v l o (node.Import e) w i = cc
first_stops v l o (node.Pipe q path) w i = cc
first_stops v l o (node.Broken reason) w i = (refl, refl)

first_side : (v : Vat) (l : Level) (o : Option ObjectId) → Side v (start v l o) (no_ghost v) 0 first
first_side v l o = record {
  stops = first_stops v l o;
  refs = λ r. subst (λ (z : Option Reference). IsRef v (no_ghost v) 0 r z (first.refs (ref_at v r))) (sym (none_yet r)) (λ h. refl);
  embargoes = λ e. subst (λ (z : Option Embargo). HasEmbargo v (no_ghost v) first z) (sym (none_yet e)) tt;
  no_other_embargoes = λ r. inl refl;
  lists = record {
    at_promises = λ p. subst (λ (z : Option Promise). PromiseWaits first.net.stop v 0 [] z) (sym (none_yet p)) tt;
    at_outcomes = λ k. subst (λ (z : Option KeptOutcome). OutcomeHolds first.net.stop v 0 [] z) (sym (none_yet k)) tt;
    no_other_promise = λ i. inl refl;
    no_other_outcome = λ i. inl refl;
  };
  ids = record {
    of_promises = λ p i. there_not Promise p i;
    of_outcomes = λ k i. there_not KeptOutcome k i;
    promises_differ = λ p q i j e. there_not Promise p i;
    outcomes_differ = λ k q i j e. there_not KeptOutcome k i;
    new_promises = λ i h. (refl, refl);
    new_outcomes = λ i path h. (refl, refl);
  };
}

first_view : (v u : Vat) (l k : Level) (o p : Option ObjectId) → View v u (start v l o) (no_ghost v) (start u k p) (no_ghost u) [] first
first_view v u l k o p = record {
  imports = λ e. subst (λ (z : Option Import). IsImportOf u (no_ghost u) (Nowhere v) (map.get (start u k p).exports e) z) (sym (none_yet e)) tt;
  sessions = λ q. subst (λ (z : Option Question). IsSession 0 (past (no_ghost v) (sessions_at (no_ghost u).outcome (start u k p).answers) [] q) z) (sym (none_yet q)) tt;
  link = refl;
}

none_opens : (v : Vat) (s : State) → Unborn v s.outcomes (no_ghost v).outcome first.net.stop first.net.kind first.net.waiting 0 []
none_opens v s = record { each = λ i a. absurd a; differ = tt }

first_known : (v : Vat) (l : Level) (o : Option ObjectId) → KnownIsSo v (start v l o) (no_ghost v) (bare first.net)
first_known v l o = (
  λ e. subst (λ (z : Option Import). IsKnown v (no_ghost v) (bare first.net) (Nowhere v) (known_by_resolve (resolution_of z))) (sym (none_yet e)) tt,
  λ q path. subst (λ (z : Option Question). IsKnown v (no_ghost v) (bare first.net) (AField (other_vat v) 0 path) (known_by_return path (returned_of z))) (sym (none_yet q)) tt,
)

pub start_tied : (v : Vat) (own theirs : Level) (object other : Option ObjectId) → (g : Ghosts) × (m : routing.State routes) × TiedAt (beginning v theirs other) (start v own object) g m × InvariantWith m []
start_tied v own theirs object other = (
  record { own = no_ghost v; theirs = no_ghost (other_vat v); next = 0 },
  first,
  record {
    own = first_side v own object;
    theirs = first_side (other_vat v) theirs other;
    view = first_view v (other_vat v) own theirs object other;
    back = first_view (other_vat v) v theirs own other object;
    told = record { made_is = λ r. refl; delivered_is = λ r. refl };
    unborn = none_opens (other_vat v) (start (other_vat v) theirs other);
    unborn_back = none_opens v (start v own object);
    known = λ l. first_known v own object;
    known_there = λ l. first_known (other_vat v) theirs other;
    goes = tt;
    comes = tt;
  },
  start_holds first_kind (λ r. Nowhere r.vat),
)

-- ---- Between steps

other_twice : (v : Vat) → v ≡ other_vat (other_vat v)
other_twice A = refl
other_twice B = refl

nothing_more : (xs : List Message) → xs ≡ xs ++ []
nothing_more xs = sym (append-nil xs)

-- Seen from the other vat.
pub turns : (w : Around) (s : State) (g : Ghosts) (m : routing.State routes) → TiedAt w s g m → TiedAt (turned w s) w.other (record { own = g.theirs; theirs = g.own; next = g.next }) m
turns w s g m t =
    let v = w.vat in
    let u = other_vat v in
    record {
      own = t.theirs;
      theirs = subst (λ (z : Vat). Side z s g.own g.next m) (other_twice v) t.own;
      view = subst (λ (z : Vat). View u z w.other g.theirs s g.own (w.back ++ []) m) (other_twice v) (subst (λ (ms : List Message). View u v w.other g.theirs s g.own ms m) (nothing_more w.back) t.back);
      back = subst (λ (z : Vat). View z u s g.own w.other g.theirs w.out m) (other_twice v) (subst (λ (ms : List Message). View v u s g.own w.other g.theirs ms m) (append-nil w.out) t.view);
      told = t.told;
      unborn = subst (λ (z : Vat). Unborn z s.outcomes g.own.outcome m.net.stop m.net.kind m.net.waiting g.next (unborn_ids g.theirs.session (w.back ++ []))) (other_twice v)
          (subst (λ (ms : List Message). Unborn v s.outcomes g.own.outcome m.net.stop m.net.kind m.net.waiting g.next (unborn_ids g.theirs.session ms)) (nothing_more w.back) t.unborn_back);
      unborn_back = subst (λ (ms : List Message). Unborn u (w.other).outcomes g.theirs.outcome m.net.stop m.net.kind m.net.waiting g.next (unborn_ids g.own.session ms)) (append-nil w.out) t.unborn;
      known = t.known_there;
      known_there = subst (λ (z : Vat). KnownAt z s g.own m.net) (other_twice v) t.known;
      goes = subst (λ (z : Vat). SaidOn m.net u w.other g.theirs z s g.own [] (w.back ++ [])) (other_twice v) (subst (λ (ms : List Message). SaidOn m.net u w.other g.theirs v s g.own [] ms) (nothing_more w.back) t.comes);
      comes = subst (λ (z : Vat). SaidOn m.net z s g.own u w.other g.theirs [] w.out) (other_twice v) (subst (λ (ms : List Message). SaidOn m.net v s g.own u w.other g.theirs [] ms) (append-nil w.out) t.goes);
    }

-- Behind a step nothing is sent yet.
pub settles_down : (w : Around) (new : State) (effects : Effects) (g : Ghosts) (m : routing.State routes) → TiedBy w [] new effects.sends effects.deliveries g m → TiedAt (behind w effects) new g m
settles_down w new effects g m t = record {
  own = t.own;
  theirs = t.theirs;
  view = subst (λ (ms : List Message). View w.vat (other_vat w.vat) new g.own w.other g.theirs ms m) (nothing_more (w.out ++ effects.sends)) t.view;
  back = t.back;
  told = subst (λ ds. Told w.made ds m.refs) (sym (append-nil (w.delivered ++ all_at w.vat effects.deliveries))) t.told;
  unborn = subst (λ (ms : List Message). Unborn (other_vat w.vat) (w.other).outcomes g.theirs.outcome m.net.stop m.net.kind m.net.waiting g.next (unborn_ids g.own.session ms)) (nothing_more (w.out ++ effects.sends)) t.unborn;
  unborn_back = t.unborn_back;
  known = t.known;
  known_there = t.known_there;
  goes = subst (λ (ms : List Message). SaidOn m.net w.vat new g.own (other_vat w.vat) w.other g.theirs [] ms) (nothing_more (w.out ++ effects.sends)) t.goes;
  comes = t.comes;
}

pub tied_in_order : (w : Around) (s : State) (g : Ghosts) (m : routing.State routes) → TiedAt w s g m → InvariantWith m []
    → (r : Ref) → IsBeginningOf (indexes (deliveries_of r w.delivered)) (below (w.made r)) × AtOne (deliveries_of r w.delivered)
tied_in_order w s g m t i r =
    let told = t.told in
    let order : InOrder m r = gives_order m i r in
    let delivered : (m.refs r).delivered ≡ deliveries_of r w.delivered = told.delivered_is r ∙ ap (deliveries_of r) (append-nil w.delivered) in (
      subst (λ ds. IsBeginningOf (indexes ds) (below (w.made r))) delivered (subst (λ (k : ℕ). IsBeginningOf (indexes (m.refs r).delivered) (below k)) (told.made_is r) order.beginning),
      subst (λ ds. AtOne ds) delivered order.one_object,
    )
