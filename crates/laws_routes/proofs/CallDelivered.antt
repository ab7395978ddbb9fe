-- A call is delivered.
use Rattle.std.specs.FinMap as map
use Rattle.std.proofs.Common.{◌≡◌, ◌⊎◌, ℕ, ◌+◌, true, false, List, [], ◌∷◌, ◌++◌, append_assoc, Option, None, Some, refl, sym, ap, subst, ◌∙◌}
use Rattle.rpc_msg.specs.declared.ids.Vat.{Vat}
use Rattle.rpc_msg.specs.declared.ids.ObjectId.{ObjectId}
use Rattle.rpc_msg.specs.Vats.{other_vat}
use Rattle.rpc_journal.specs.declared.report.Delivery.{Delivery}
use Rattle.rpc_journal.specs.History.{Ref, DeliveredAt, caller}
use Rattle.rpc_machine.specs.declared.calls.WaitingCall.{WaitingCall}
use Rattle.rpc_machine.specs.declared.entries.Reference.{Reference}
use Rattle.rpc_machine.specs.declared.entries.Embargo.{Embargo}
use Rattle.rpc_machine.specs.State.{State}
use Rattle.rpc_machine.specs.Progress.{Progress, with_refs, new_refs, tell_delivery}
use Rattle.rpc_machine.specs.Routing.{deliver}
use Rattle.laws_order.specs.Machine.{Message, Call, changed, choose, put_ref}
use Rattle.laws_order.specs.Machine as routing
use Rattle.laws_order.specs.Routing as route
use Rattle.laws_order.specs.Moves.{Next, Routes}
use Rattle.laws_order.proofs.Choices.{by_choice}
use Rattle.laws_routes.specs.Points.{Point, AnObject, routes}
use Rattle.laws_routes.specs.Ghosts.{Ghost, ref_at}
use Rattle.laws_routes.specs.Sides.{Side, IsRef, IsEmbargo, HasEmbargo, IsEmbargoOf}
use Rattle.laws_routes.specs.Ties.{Around, Ghosts, Tied, TiedBy, Told, deliveries_of, delivery_of, all_at}
use Rattle.laws_routes.specs.Laws.{Follows}
use Rattle.laws_routes.proofs.NewReferences.{new_refs_begin}

-- What no field of a side looks at.
pub told_too : (P : Ref → routing.Reference routes → Type 0) (refs : Ref → routing.Reference routes) (r : Ref) (x : routing.Reference routes) → ((q : Ref) → q ≡ r → P q (refs q) → P q x) → (q : Ref) → P q (refs q) → P q (changed routes.same_ref refs r x q)
told_too P refs r x f q h = by_choice (P q) (routes.same_ref q r) x (refs q) (λ e. f q e h) (λ e. h)

pub delivered_side : (u : Vat) (s : State) (f : Ghost) (next : ℕ) (m : routing.State routes) (r : Ref) (ds : List (routing.Delivery routes)) → (m.refs r).known ≡ true → Side u s f next m
    → Side u s f next (put_ref m r (record (m.refs r) { delivered = ds }))
delivered_side u s f next m r ds kn h = record {
  stops = h.stops;
  refs = λ q. told_too (λ (j : Ref) y. IsRef u f s.next_ref q (map.get s.refs q) y) m.refs r x (λ j e i. still q (map.get s.refs q) (m.refs j) (m.refs r) (ap m.refs e) kn i) (ref_at u q) (h.refs q);
  embargoes = λ e. kept (map.get s.embargoes e) (h.embargoes e);
  no_other_embargoes = λ q. told_too (λ (j : Ref) y. (y.embargo ≡ None) ⊎ ((e : ℕ) × IsEmbargoOf q (map.get s.embargoes e))) m.refs r x (λ j e i. subst (λ (y : routing.Reference routes). (y.embargo ≡ None) ⊎ ((e : ℕ) × IsEmbargoOf q (map.get s.embargoes e))) (ap m.refs e) i) (ref_at u q) (h.no_other_embargoes q);
  lists = h.lists;
  ids = h.ids;
}
  where
    x : routing.Reference routes
    x = record (m.refs r) { delivered = ds }

    still : (q : ℕ) (o : Option Reference) (y z : routing.Reference routes) → y ≡ z → z.known ≡ true → IsRef u f s.next_ref q o y → IsRef u f s.next_ref q o (record z { delivered = ds })
    still q None y z e k i = λ l. (let a : true ≡ false = sym k ∙ (ap (λ (w : routing.Reference routes). w.known) (sym e) ∙ ap (λ (w : routing.Reference routes). w.known) (i l)) in cc)
    still q (Some o) y z e k i = subst (λ (w : routing.Reference routes). IsRef u f s.next_ref q (Some o) w) e i

    kept : (o : Option Embargo) → HasEmbargo u f m o → HasEmbargo u f (put_ref m r x) o
    kept None i = tt
    kept (Some b) i = told_too (λ (j : Ref) y. IsEmbargo u f b y) m.refs r x (λ j e i. subst (IsEmbargo u f b) (ap m.refs e) i) (ref_at u b.reference.0) i

all_more : (v : Vat) (xs : List Delivery) (x : Delivery) → all_at v (xs ++ x ∷ []) ≡ all_at v xs ++ record { vat = v; delivery = x } ∷ []
all_more v [] x = refl
all_more v (y ∷ ys) x = ap (λ z. record { vat = v; delivery = y } ∷ z) (all_more v ys x)

choose_append : {A : Type 0} (c : Dec A) (y : routing.Delivery routes) (ys zs : List (routing.Delivery routes)) → choose c (y ∷ (ys ++ zs)) (ys ++ zs) ≡ choose c (y ∷ ys) ys ++ zs
choose_append (yes e) y ys zs = refl
choose_append (no e) y ys zs = refl

deliveries_more : (r : Ref) (xs : List DeliveredAt) (x : DeliveredAt) → deliveries_of r (xs ++ x ∷ []) ≡ deliveries_of r xs ++ deliveries_of r (x ∷ [])
deliveries_more r [] x = refl
deliveries_more r (y ∷ ys) x =
    ap (λ z. choose (routes.same_ref (caller y.delivery.stamp) r) (delivery_of y ∷ z) z) (deliveries_more r ys x)
    ∙ choose_append (routes.same_ref (caller y.delivery.stamp) r) (delivery_of y) (deliveries_of r ys) (deliveries_of r (x ∷ []))

one_of : (r : Ref) (x : DeliveredAt) → caller x.delivery.stamp ≡ r → deliveries_of r (x ∷ []) ≡ delivery_of x ∷ []
one_of r x e = by_choice (λ z. z ≡ delivery_of x ∷ []) (routes.same_ref (caller x.delivery.stamp) r) (delivery_of x ∷ []) [] (λ f. refl) (λ f. absurd (f e))

none_of : (r : Ref) (x : DeliveredAt) → (caller x.delivery.stamp ≡ r → ⊥) → deliveries_of r (x ∷ []) ≡ []
none_of r x e = by_choice (λ z. z ≡ []) (routes.same_ref (caller x.delivery.stamp) r) (delivery_of x ∷ []) [] (λ f. absurd (e f)) (λ f. refl)

nil_right : {A : Type 0} (xs : List A) → xs ++ [] ≡ xs
nil_right [] = refl
nil_right (x ∷ xs) = ap (λ z. x ∷ z) (nil_right xs)

told_more : (made : Ref → ℕ) (before : List DeliveredAt) (v : Vat) (ds : List Delivery) (x : Delivery) (refs : Ref → routing.Reference routes) (r : Ref) → caller x.stamp ≡ r
    → Told made (before ++ all_at v ds) refs
    → Told made (before ++ all_at v (ds ++ x ∷ [])) (changed routes.same_ref refs r (record (refs r) { delivered = (refs r).delivered ++ record { index = x.stamp.index; object = AnObject v x.object.0 } ∷ [] }))
told_more made before v ds x refs r c h = record {
  made_is = λ q. by_choice (λ (y : routing.Reference routes). y.made ≡ made q) (routes.same_ref q r) _ (refs q) (λ e. subst (λ (z : Ref). (refs z).made ≡ made q) e (h.made_is q)) (λ e. h.made_is q);
  delivered_is = λ q. by_choice (λ (y : routing.Reference routes). y.delivered ≡ deliveries_of q (before ++ all_at v (ds ++ x ∷ []))) (routes.same_ref q r) _ (refs q)
      (λ e. ap (λ z. z ++ record { index = x.stamp.index; object = AnObject v x.object.0 } ∷ []) (sym (ap (λ z. (refs z).delivered) e) ∙ h.delivered_is q) ∙ sym (split q ∙ ap (λ z. deliveries_of q old ++ z) (one_of q new (c ∙ sym e))))
      (λ e. h.delivered_is q ∙ sym (split q ∙ (ap (λ z. deliveries_of q old ++ z) (none_of q new (λ f. e (sym f ∙ c))) ∙ nil_right (deliveries_of q old))));
}
  where
    old : List DeliveredAt
    old = before ++ all_at v ds

    new : DeliveredAt
    new = record { vat = v; delivery = x }

    split : (q : Ref) → deliveries_of q (before ++ all_at v (ds ++ x ∷ [])) ≡ deliveries_of q old ++ deliveries_of q (new ∷ [])
    split q = ap (λ z. deliveries_of q (before ++ z)) (all_more v ds x) ∙ (ap (deliveries_of q) (sym (append_assoc before (all_at v ds) (new ∷ []))) ∙ deliveries_more q old new)

-- Tasks, calls and numbers are of no account.
pub set_rest : (w : Around) (s : State) (sends : _) (ds : _) (g : Ghosts) (m : routing.State routes) (calls : _) (tasks unsettled : _) (a b c : ℕ) → TiedBy w [] s sends ds g m
    → TiedBy w [] (record s { calls = calls; tasks = tasks; unsettled = unsettled; next_call = a; next_task = b; next_promise = c }) sends ds g m
set_rest w s sends ds g m calls tasks unsettled a b c h =
    let own = h.own in
    let view = h.view in
    let back = h.back in
    record {
      own = record { stops = own.stops; refs = own.refs; embargoes = own.embargoes; no_other_embargoes = own.no_other_embargoes; lists = own.lists; ids = own.ids };
      theirs = h.theirs;
      view = record { imports = view.imports; sessions = view.sessions; link = view.link };
      back = record { imports = back.imports; sessions = back.sessions; link = back.link };
      told = h.told;
      unborn = h.unborn;
      unborn_back = h.unborn_back;
      known = h.known;
      known_there = h.known_there;
      goes = h.goes;
      comes = h.comes;
    }

-- At an object the call is delivered.
pub delivers : (w : Around) (d : Progress) (g : Ghosts) (m : routing.State routes) (c : WaitingCall) (o : ObjectId) (x : Point) (then : List (Message routes)) → Tied w d g m
    → (m.refs (caller c.request.stamp)).known ≡ true → m.net.stop x ≡ AnObject w.vat o.0 → m.net.kind (m.net.stop x) ≡ routing.Object
    → Follows w (deliver d c o) g m (record { target = x; ref = caller c.request.stamp; what = Call c.request.stamp.index } ∷ then) then
delivers w d g m c o x then h kn e k =
    let v = w.vat in
    let q = c.request in
    let s = d.state in
    let r = caller q.stamp in
    let i = q.stamp.index in
    let made : Delivery = record { task = record { 0 = s.next_task }; object = o; stamp = q.stamp; interface = q.interface; method = q.method; payload = q.payload; refs = new_refs s.next_ref q.caps } in
    let ds = (m.refs r).delivered ++ record { index = i; object = AnObject v o.0 } ∷ [] in
    let n : routing.State routes = put_ref m r (record (m.refs r) { delivered = ds }) in
    let msg : Message routes = record { target = x; ref = r; what = Call i } in
    let is : n ≡ route.route m msg = sym (ap (route.route_by m msg i) k ∙ ap (route.deliver m r i) e) in
    let view = h.view in
    let back = h.back in
    let next : Progress = tell_delivery d made in
    let t : Tied w next g n = record {
      own = delivered_side v s g.own g.next m r ds kn h.own;
      theirs = delivered_side (other_vat v) w.other g.theirs g.next m r ds kn h.theirs;
      view = record { imports = view.imports; sessions = view.sessions; link = view.link };
      back = record { imports = back.imports; sessions = back.sessions; link = back.link };
      told = told_more w.made w.delivered v d.effects.deliveries made m.refs r refl h.told;
      unborn = h.unborn;
      unborn_back = h.unborn_back;
      known = h.known;
      known_there = h.known_there;
      goes = h.goes;
      comes = h.comes;
    } in
    let a = new_refs_begin w next g n then q.caps t in
    let u : State = with_refs s q.caps in
    (a.0, a.1, Next (Routes msg refl is) a.2, set_rest w u d.effects.sends (d.effects.deliveries ++ made ∷ []) a.0 a.1 u.calls (map.insert s.tasks s.next_task c.outcome) u.unsettled u.next_call (s.next_task + 1) u.next_promise a.3, a.4)
