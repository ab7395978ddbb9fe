-- A call is made.
use Rattle.std.specs.FinMap as map
use Rattle.std.proofs.Common.{◌≡◌, ◌⊎◌, ℕ, suc, ◌+◌, Bool, nat_eq, true, false, List, [], ◌∷◌, ◌++◌, Option, None, Some, refl, sym, ap, ap₂, subst, ◌∙◌, arith}
use Rattle.rpc_msg.specs.Op.{Op}
use Rattle.finite_maps.proofs.Gets.{get-insert_same}
use Rattle.finite_maps.proofs.Tested.{apart, equal, get_other}
use Rattle.rpc_msg.specs.declared.ids.Vat.{Vat}
use Rattle.rpc_msg.specs.declared.parts.Target.{Target}
use Rattle.rpc_msg.specs.declared.parts.Target.TheVariants.{ImportedCap, PromisedAnswer}
use Rattle.rpc_msg.specs.Vats.{other_vat}
use Rattle.rpc_msg.specs.declared.message.Message as rpc
use Rattle.rpc_journal.specs.History.{Ref, DeliveredAt, caller}
use Rattle.rpc_machine.specs.declared.node.Node.{Node}
use Rattle.rpc_machine.specs.declared.node.Node.TheVariants as node
use Rattle.rpc_machine.specs.declared.calls.Request.{Request}
use Rattle.rpc_machine.specs.declared.calls.Caller.TheVariants as caller_of
use Rattle.rpc_machine.specs.declared.calls.OwnCall.TheVariants as own_call
use Rattle.rpc_machine.specs.declared.entries.Role.TheVariants as role
use Rattle.rpc_machine.specs.declared.entries.Reference.{Reference}
use Rattle.rpc_machine.specs.declared.entries.Embargo.{Embargo}
use Rattle.rpc_machine.specs.State.{State}
use Rattle.rpc_machine.specs.Nodes.{settle, is_wire, is_field}
use Rattle.rpc_machine.specs.Progress.{Progress, with_state}
use Rattle.rpc_machine.specs.Commands.{counted, kept, with_outcome, CallsDirect}
use Rattle.rpc_machine.specs.Advancing.{wire_target}
use Rattle.rpc_machine.specs.Routing.{Routes}
use Rattle.laws_order.specs.Machine.{Message, Call, Embargo as Kept, changed, choose, put_ref, same_vat}
use Rattle.laws_order.specs.Machine as routing
use Rattle.laws_order.specs.Routing as route
use Rattle.laws_order.specs.Events.{Make, happens, make, one_more, send}
use Rattle.laws_order.specs.Invariant.{InvariantWith}
use Rattle.laws_order.specs.Moves.{Moves, Done, Next, Leaves, Happens}
use Rattle.laws_order.proofs.Choices.{changed_here, changed_other}
use Rattle.laws_routes.specs.Points.{Point, AField, vat_of, end, routes}
use Rattle.laws_routes.specs.Ghosts.{Ghost, point, ref_at, keeping}
use Rattle.laws_routes.specs.Sides.{Side, EndsAs, IsRef, IsEmbargo, HasEmbargo, IsEmbargoOf}
use Rattle.laws_routes.specs.Views.{View, past, sessions_at, target_point}
use Rattle.laws_routes.specs.Ties.{Around, Ghosts, Tied, Told, deliveries_of}
use Rattle.laws_routes.specs.Premises.{ExportsAreOwn, IsWireThere, MayAsk, MayGoTo, MayKeep, MayRoute}
use Rattle.laws_routes.specs.Laws.{Comes, one_made, made_from}
use Rattle.laws_routes.proofs.Differing.{ends_differ, other_number, other_ref}
use Rattle.laws_routes.proofs.CallDelivered.{set_rest, told_too}
use Rattle.laws_routes.proofs.WhereNodesEnd.{ends}
use Rattle.laws_routes.proofs.NewPoints.{keeping_point}
use Rattle.laws_routes.proofs.OutcomeKept.{keeps}
use Rattle.laws_routes.proofs.CallsRouted.{law}
use Rattle.laws_routes.proofs.CallRouted.{own_vat, routed, wire_reads, pipe_reads}
use Rattle.laws_routes.proofs.CallSent.{asks}

-- ---- The count

embargo_still : (u : Vat) (f : Ghost) (m : routing.State routes) (r : Ref) (o : Option Embargo) → HasEmbargo u f m o → HasEmbargo u f (put_ref m r (one_more (m.refs r))) o
embargo_still u f m r None h = tt
embargo_still u f m r (Some b) h = told_too (λ (j : Ref) y. IsEmbargo u f b y) m.refs r (one_more (m.refs r)) (λ j e i. subst (IsEmbargo u f b) (ap m.refs e) i) (ref_at u b.reference.0) h

counted_own : (v : Vat) (s : State) (g : Ghost) (next : ℕ) (m : routing.State routes) (r : ℕ) (x : Reference) → map.get s.refs r ≡ Some x → Side v s g next m → Side v (counted s r x) g next (put_ref m (ref_at v r) (one_more (m.refs (ref_at v r))))
counted_own v s g next m r x e h = record {
  stops = h.stops;
  refs = λ q. at_ref q (nat_eq q r) refl;
  embargoes = λ k. embargo_still v g m me (map.get s.embargoes k) (h.embargoes k);
  no_other_embargoes = λ q. told_too (λ (j : Ref) z. (z.embargo ≡ None) ⊎ ((k : ℕ) × IsEmbargoOf q (map.get s.embargoes k))) m.refs me y
      (λ j f i. subst (λ (z : routing.Reference routes). (z.embargo ≡ None) ⊎ ((k : ℕ) × IsEmbargoOf q (map.get s.embargoes k))) (ap m.refs f) i) (ref_at v q) (h.no_other_embargoes q);
  lists = h.lists;
  ids = h.ids;
}
  where
    me : Ref
    me = ref_at v r

    y : routing.Reference routes
    y = one_more (m.refs me)

    z : Reference
    z = record x { made = x.made + 1 }

    mine : IsRef v g s.next_ref r (Some x) (m.refs me)
    mine = subst (λ o. IsRef v g s.next_ref r o (m.refs me)) e (h.refs r)

    at_ref : (q : ℕ) (b : Bool) → nat_eq q r ≡ b → IsRef v g s.next_ref q (map.get (map.insert s.refs r z) q) (changed routes.same_ref m.refs me y (ref_at v q))
    at_ref q true f =
        subst (λ (j : ℕ). IsRef v g s.next_ref j (map.get (map.insert s.refs r z) j) (changed routes.same_ref m.refs me y (ref_at v j))) (sym (equal q r f))
        (rw (get-insert_same s.refs r z) (rw (changed_here routes.same_ref m.refs me y) (let a = mine.2 in (mine.0, mine.1, omega (arith, a), mine.3, mine.4))))
    at_ref q false f = rw (get_other s.refs r z q f) (rw (changed_other routes.same_ref m.refs me y (ref_at v q) (other_number v q r (apart q r f))) (h.refs q))

counted_there : (v : Vat) (t : State) (f : Ghost) (next : ℕ) (m : routing.State routes) (r : ℕ) → Side (other_vat v) t f next m → Side (other_vat v) t f next (put_ref m (ref_at v r) (one_more (m.refs (ref_at v r))))
counted_there v t f next m r h = record {
  stops = h.stops;
  refs = λ q. subst (IsRef (other_vat v) f t.next_ref q (map.get t.refs q)) (same q) (h.refs q);
  embargoes = λ k. embargo_still (other_vat v) f m (ref_at v r) (map.get t.embargoes k) (h.embargoes k);
  no_other_embargoes = λ q. subst (λ (y : routing.Reference routes). (y.embargo ≡ None) ⊎ ((e : ℕ) × IsEmbargoOf q (map.get t.embargoes e))) (same q) (h.no_other_embargoes q);
  lists = h.lists;
  ids = h.ids;
}
  where
    same : (q : ℕ) → m.refs (ref_at (other_vat v) q) ≡ changed routes.same_ref m.refs (ref_at v r) (one_more (m.refs (ref_at v r))) (ref_at (other_vat v) q)
    same q = sym (changed_other routes.same_ref m.refs (ref_at v r) (one_more (m.refs (ref_at v r))) (ref_at (other_vat v) q) (other_ref v q r))

counted_told : (made : Ref → ℕ) (ds : List DeliveredAt) (refs : Ref → routing.Reference routes) (r : Ref) → Told made ds refs → Told (changed routes.same_ref made r (suc (made r))) ds (changed routes.same_ref refs r (one_more (refs r)))
counted_told made ds refs r h = record {
  made_is = λ q. by (routes.same_ref q r) q (h.made_is q);
  delivered_is = λ q. told_too (λ (j : Ref) y. y.delivered ≡ deliveries_of q ds) refs r (one_more (refs r)) (λ j e i. sym (ap (λ z. (refs z).delivered) e) ∙ i) q (h.delivered_is q);
}
  where
    by : {A : Type 0} (c : Dec A) (q : Ref) → (refs q).made ≡ made q → (choose c (one_more (refs r)) (refs q)).made ≡ choose c (suc (made r)) (made q)
    by (yes e) q k = ap suc (h.made_is r)
    by (no e) q k = k

pub counts : (w : Around) (d : Progress) (g : Ghosts) (m : routing.State routes) (r : ℕ) (x : Reference) → map.get d.state.refs r ≡ Some x → Tied w d g m → Tied (one_made w (ref_at w.vat r)) (made_from d r x) g (put_ref m (ref_at w.vat r) (one_more (m.refs (ref_at w.vat r))))
counts w d g m r x e t =
    let view = t.view in
    let back = t.back in
    record {
      own = counted_own w.vat d.state g.own g.next m r x e t.own;
      theirs = counted_there w.vat w.other g.theirs g.next m r t.theirs;
      view = record { imports = view.imports; sessions = view.sessions; link = view.link };
      back = record { imports = back.imports; sessions = back.sessions; link = back.link };
      told = counted_told w.made _ m.refs (ref_at w.vat r) t.told;
      unborn = t.unborn;
      unborn_back = t.unborn_back;
      known = t.known;
      known_there = t.known_there;
      goes = t.goes;
      comes = t.comes;
    }

-- ---- The call

pub mine : (w : Around) (d : Progress) (g : Ghosts) (m : routing.State routes) (r : ℕ) (x : Reference) → Tied w d g m → map.get d.state.refs r ≡ Some x → IsRef w.vat g.own d.state.next_ref r (Some x) (m.refs (ref_at w.vat r))
mine w d g m r x t e = let h = t.own in subst (λ o. IsRef w.vat g.own d.state.next_ref r o (m.refs (ref_at w.vat r))) e (h.refs r)

pub call_here : (w : Around) (d : Progress) (g : Ghosts) (m : routing.State routes) (r c o : ℕ) (x : Reference) (q : Request) (new : Progress) → Tied w d g m → InvariantWith m [] → map.get d.state.refs r ≡ Some x → x.embargo ≡ None
    → is_wire x.head ≡ false → (m.refs (ref_at w.vat r)).dead ≡ false → (m.refs (ref_at w.vat r)).head ≡ point w.vat g.own x.head
    → caller q.stamp ≡ ref_at w.vat r → q.stamp.index ≡ x.made → map.get d.state.outcomes o ≡ None → MayKeep (counted d.state r x) o
    → MayGoTo (kept (made_from d r x) c o).state w.other (w.out ++ d.effects.sends) w.back x.head
    → Routes (kept (made_from d r x) c o) (record { request = q; outcome = o }) x.head new → Comes (one_made w (ref_at w.vat r)) new m [] []
call_here w d g m r c o x q new t i e none own alive head st ix free may go h =
    let v = w.vat in
    let me = ref_at v r in
    let y = m.refs me in
    let a = mine w d g m r x t e in
    let w' = one_made w me in
    let m' : routing.State routes = put_ref m me (one_more y) in
    let d1 = made_from d r x in
    let d2 = kept d1 c o in
    let g' : Ghosts = record { own = keeping g.own o g.next; theirs = g.theirs; next = g.next + 1 } in
    let t1 = counts w d g m r x e t in
    let t2 = keeps w' d1 g m' o (caller_of.Application (record { 0 = c })) t1 free may in
    let s1 = d1.state in
    let u : State = with_outcome s1 o (caller_of.Application (record { 0 = c })) in
    let t3 : Tied w' d2 g' m' = set_rest w' u d.effects.sends d.effects.deliveries g' m' (map.insert s1.calls c (own_call.Kept o)) u.tasks u.unsettled u.next_call u.next_task u.next_promise t2 in
    let msg : Message routes = record { target = y.head; ref = me; what = Call y.made } in
    let unnamed = may.unnamed in
    let not_new : is_field o x.head ≡ false = unnamed.heads r (record x { made = x.made + 1 }) (get-insert_same d.state.refs r (record x { made = x.made + 1 })) in
    let at_point : point v g'.own x.head ≡ y.head = keeping_point v g.own o g.next x.head not_new ∙ sym head in
    let side = t3.own in
    let at_end : EndsAs v g'.own m'.net y.head (settle d2.state x.head) = subst (λ (z : Point). EndsAs v g'.own m'.net z (settle d2.state x.head)) at_point (ends law v d2.state g'.own m'.net side.stops go.rest x.head own go.there) in
    let known : (m'.refs (caller q.stamp)).known ≡ true = ap (λ z. (m'.refs z).known) st ∙ (ap (λ (z : routing.Reference routes). z.known) (changed_here routes.same_ref m.refs me (one_more y)) ∙ a.1) in
    let same : record { target = y.head; ref = caller q.stamp; what = Call q.stamp.index } ≡ msg = ap₂ (λ j k. record { target = y.head; ref = j; what = Call k }) st (ix ∙ sym a.2) in
    let b = routed w' d2 g' m' (record { request = q; outcome = o }) y.head [] (settle d2.state x.head) new t3 known go.may at_end h in (
      b.0,
      b.1,
      Next (Leaves me a.1 (a.4 none) (ap (λ z. end (vat_of z)) head ∙ ap end (own_vat v g.own x.head own)) refl refl refl) (subst (λ z. Moves b.1 [] m' (z ∷ [])) same b.2),
      b.3,
    )

send_far : (s : routing.State routes) (msg : Message routes) (c : Dec (routes.home msg.target ≡ routes.vat msg.ref)) → (routes.home msg.target ≡ routes.vat msg.ref → ⊥) → send s msg c ≡ record s { net = route.onto_link s.net msg }
send_far s msg (yes e) h = absurd (h e)
send_far s msg (no e) h = refl

-- What is asked of a state does not look at calls.
pub may_ask_still : (s : State) (calls : _) (out back : List rpc.Message) (q : ℕ) → MayAsk s out back q → MayAsk (record s { calls = calls }) out back q
may_ask_still s calls out back q h = let u = h.unnamed in record { unnamed = record { links = u.links; heads = u.heads; embargoes = u.embargoes }; unsaid = h.unsaid; not_open = h.not_open; not_returned = h.not_returned; met = h.met; own = h.own }

-- The other vat reads a wire's target as what the wire stands for.
pub target_reads : (v u : Vat) (s : State) (g : Ghost) (t : State) (f : Ghost) (ms : List rpc.Message) (m : routing.State routes) (k : Node) (target : Target) → View v u s g t f ms m → u ≡ other_vat v → ExportsAreOwn t → IsWireThere s k → wire_target k ≡ Some target
    → (vat_of (point v g k) ≡ u) × (target_point u t.exports f (past g (sessions_at f.outcome t.answers) ms) target ≡ point v g k)
target_reads v u s g t f ms m (node.Object o) target h is own there e = cc
target_reads v u s g t f ms m (node.Promise p) target h is own there e = cc
target_reads v u s g t f ms m (node.Field o path) target h is own there e = cc
target_reads v u s g t f ms m (node.Import i) target h is own there e =
    let j : ImportedCap i ≡ target = cc in
    let r = wire_reads v u s g t f ms m i.0 h own there in
    (r.0, subst (λ (z : Target). target_point u t.exports f (past g (sessions_at f.outcome t.answers) ms) z ≡ g.import i.0) j r.1)
target_reads v u s g t f ms m (node.Pipe q path) target h is own there e =
    let j : PromisedAnswer q path ≡ target = cc in
    let r = pipe_reads v u s g t f ms m q.0 h there.0 in (
      sym is,
      subst (λ (z : Target). target_point u t.exports f (past g (sessions_at f.outcome t.answers) ms) z ≡ AField (other_vat v) (g.session q.0) path) j
          (ap₂ (λ (a : ℕ) (b : List Op). AField u a b) r there.1 ∙ ap (λ z. AField z (g.session q.0) path) is),
    )
target_reads v u s g t f ms m (node.Broken reason) target h is own there e = cc

pub call_far : (w : Around) (d : Progress) (g : Ghosts) (m : routing.State routes) (r c : ℕ) (x : Reference) (q : Request) (target : Target) (new : Progress) → Tied w d g m → map.get d.state.refs r ≡ Some x → x.embargo ≡ None
    → (m.refs (ref_at w.vat r)).dead ≡ false → (m.refs (ref_at w.vat r)).head ≡ point w.vat g.own x.head → wire_target x.head ≡ Some target
    → caller q.stamp ≡ ref_at w.vat r → q.stamp.index ≡ x.made → MayRoute (counted d.state r x) w.other (w.out ++ d.effects.sends) w.back x.head
    → CallsDirect (made_from d r x) c q target new → Comes (one_made w (ref_at w.vat r)) new m [] []
call_far w d g m r c x q target new t e none alive head wire st ix may h =
    let v = w.vat in
    let u = other_vat v in
    let me = ref_at v r in
    let y = m.refs me in
    let a = mine w d g m r x t e in
    let w' = one_made w me in
    let m' : routing.State routes = put_ref m me (one_more y) in
    let d1 = made_from d r x in
    let s1 = d1.state in
    let calls = map.insert s1.calls c (own_call.Direct (record { 0 = h.0 })) in
    let d2 = with_state d1 (record s1 { calls = calls }) in
    let t1 = counts w d g m r x e t in
    let t2 : Tied w' d2 g m' = set_rest w' s1 d.effects.sends d.effects.deliveries g m' calls s1.tasks s1.unsettled s1.next_call s1.next_task s1.next_promise t1 in
    let reads = target_reads v u s1 g.own w.other g.theirs (w.out ++ d.effects.sends) m' x.head target t1.view refl may.theirs may.wire wire in
    let far : vat_of y.head ≡ u = ap vat_of head ∙ reads.0 in
    let k = h.1 in
    let b = asks w' d2 g m' h.0 (role.Direct (record { 0 = c })) target q y.head new t2 (may_ask_still s1 calls (w.out ++ d.effects.sends) w.back h.0 (may.asks h.0 k.0)) may.links far (reads.1 ∙ sym head) k in
    let msg : Message routes = record { target = y.head; ref = me; what = Call y.made } in
    let same : record { target = y.head; ref = caller q.stamp; what = Call q.stamp.index } ≡ msg = ap₂ (λ j k. record { target = y.head; ref = j; what = Call k }) st (ix ∙ sym a.2) in
    let away : end (vat_of y.head) ≡ end v → ⊥ = λ z. ends_differ v (ap end (sym far) ∙ z) in
    let made : happens m (Make me) ≡ record m' { net = route.onto_link m'.net msg } = ap (λ o. make m me y o y.dead) (a.4 none) ∙ (ap (make m me y None) alive ∙ send_far m' msg (same_vat (end (vat_of y.head)) (end v)) away) in (
      b.0,
      record m' { net = route.onto_link m'.net (record { target = y.head; ref = caller q.stamp; what = Call q.stamp.index }) },
      Next (Happens (Make me) a.1 refl (ap (λ z. record m' { net = route.onto_link m'.net z }) same ∙ sym made) refl) Done,
      b.1,
    )
