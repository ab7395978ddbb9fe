-- A call is made through a reference that has an embargo, which keeps it.
use mathlib.Core.Path.{fun_ext}
use Rattle.std.specs.FinMap as map
use Rattle.std.proofs.Common.{◌≡◌, ◌⊎◌, inl, inr, ℕ, ◌+◌, Bool, nat_eq, true, false, List, [], ◌∷◌, ◌++◌, Option, None, Some, refl, sym, ap, ap₂, subst, ◌∙◌}
use Rattle.finite_maps.specs.Tally.{Map}
use Rattle.finite_maps.proofs.Gets.{get-insert_same}
use Rattle.finite_maps.proofs.Tested.{apart, equal, at_put}
use Rattle.rpc_msg.specs.declared.ids.Vat.{Vat}
use Rattle.rpc_msg.specs.declared.message.DisembargoContext.{DisembargoContext}
use Rattle.rpc_msg.specs.declared.message.DisembargoContext.TheVariants.{SenderLoopback, ReceiverLoopback}
use Rattle.rpc_msg.specs.declared.message.PlainMessage.TheVariants as plain
use Rattle.rpc_msg.specs.declared.message.Message.{Message}
use Rattle.rpc_msg.specs.declared.message.Message.TheVariants as message
use Rattle.rpc_msg.specs.Vats.{other_vat}
use Rattle.rpc_journal.specs.History.{Ref, DeliveredAt, caller, in_front}
use Rattle.rpc_machine.specs.declared.calls.Caller.TheVariants as caller_of
use Rattle.rpc_machine.specs.declared.calls.OwnCall.TheVariants as own_call
use Rattle.rpc_machine.specs.declared.calls.Request.{Request}
use Rattle.rpc_machine.specs.declared.calls.WaitingCall.{WaitingCall}
use Rattle.rpc_machine.specs.declared.entries.Reference.{Reference}
use Rattle.rpc_machine.specs.declared.entries.Embargo.{Embargo}
use Rattle.rpc_machine.specs.State.{State}
use Rattle.rpc_machine.specs.Progress.{Progress, with_state}
use Rattle.rpc_machine.specs.Commands.{counted, kept, with_outcome, WaitsForEmbargo}
use Rattle.laws_order.specs.Machine.{Call, Disembargo, Echo, Embargo as Kept, changed, choose, put_ref}
use Rattle.laws_order.specs.Machine as routing
use Rattle.laws_order.specs.Events.{Make, happens, make, one_more}
use Rattle.laws_order.specs.Moves.{Done, Next, Happens}
use Rattle.laws_order.proofs.Choices.{by_choice, changed_here, changed_other}
use Rattle.laws_routes.specs.Points.{routes}
use Rattle.laws_routes.specs.Ghosts.{Ghost, ref_at, keeping}
use Rattle.laws_routes.specs.Sides.{Side, AreCalls, HasHead, IsRef, IsEmbargo, HasEmbargo, IsEmbargoOf}
use Rattle.laws_routes.specs.Views.{Reader, disembargo_shape, embargo_ref, past_one, reader, sessions_at, shape, shapes, target_point}
use Rattle.laws_routes.specs.Ties.{Around, Ghosts, Tied, Told, all_at, deliveries_of}
use Rattle.laws_routes.specs.Premises.{IsOnlyEmbargo, MayKeep}
use Rattle.laws_routes.specs.Laws.{Comes, made_from, one_made}
use Rattle.laws_routes.proofs.CallDelivered.{set_rest, told_too}
use Rattle.laws_routes.proofs.CallMade.{counts}
use Rattle.laws_routes.proofs.Differing.{other_number}
use Rattle.laws_routes.proofs.LinkShapes.{other_embargoes}
use Rattle.laws_routes.proofs.NewReferences.{begins_there}
use Rattle.laws_routes.proofs.OutcomeKept.{keeps}

-- ---- Changed twice

twice : {K B : Type 0} (same : (x y : K) → Dec (x ≡ y)) (f : K → B) (k : K) (a b : B) → changed same (changed same f k a) k b ≡ changed same f k b
twice {K} {B} same f k a b = fun_ext (λ j. by j (same j k))
  where
    by : (j : K) (c : Dec (j ≡ k)) → choose c b (choose c a (f j)) ≡ choose c b (f j)
    by j (yes e) = refl
    by j (no e) = refl

-- ---- A link, where embargoes are of the references that they were of

module _ (v u : Vat) (r : Reader) (B S : Map Embargo) (sent : (e : ℕ) → embargo_ref v (map.get S e) ≡ embargo_ref v (map.get r.sent e)) (kept : (e : ℕ) → embargo_ref u (map.get B e) ≡ embargo_ref u (map.get r.embargoes e)) where
  named : (now : ℕ → ℕ) (m : Message) → shape v u (other_embargoes r B S) now m ≡ shape v u r now m
  named now (message.Plain (plain.Abort exception)) = refl
  named now (message.Plain (plain.Bootstrap q)) = refl
  named now (message.Plain (plain.Call c)) = refl
  named now (message.Plain (plain.Return y)) = refl
  named now (message.Plain (plain.Finish y)) = refl
  named now (message.Plain (plain.Resolve y)) = refl
  named now (message.Plain (plain.Release y)) = refl
  named now (message.Plain (plain.Disembargo y)) = by y.context
    where
      by : (c : DisembargoContext) → Some (disembargo_shape v u (other_embargoes r B S) now y.target c) ≡ Some (disembargo_shape v u r now y.target c)
      by (SenderLoopback e) = ap (λ z. Some (record { target = Some (target_point u r.exports r.ghost now y.target); ref = z; what = Disembargo })) (sent e.0)
      by (ReceiverLoopback e) = ap (λ z. Some (record { target = None; ref = z; what = Echo })) (kept e.0)
  named now (message.Plain (plain.Other n)) = refl
  named now (message.Unimplemented m) = refl

  all_named : (g : Ghost) (now : ℕ → ℕ) (ms : List Message) → shapes v u g (other_embargoes r B S) now ms ≡ shapes v u g r now ms
  all_named g now [] = refl
  all_named g now (m ∷ ms) = ap₂ in_front (named now m) (all_named g (past_one g now m) ms)

-- ---- The call waits

calls_more : (r : Ref) (cs : List WaitingCall) (is : List ℕ) (c : WaitingCall) → AreCalls r cs is → caller c.request.stamp ≡ r → AreCalls r (cs ++ c ∷ []) (is ++ c.request.stamp.index ∷ [])
calls_more r [] [] c h e = (e, refl, tt)
calls_more r [] (i ∷ is) c h e = absurd h
calls_more r (b ∷ cs) [] c h e = absurd h
calls_more r (b ∷ cs) (i ∷ is) c h e = (h.0, h.1, calls_more r cs is c h.2 e)

module _ (v : Vat) (s : State) (g : Ghost) (next : ℕ) (m : routing.State routes) (e : ℕ) (b : Embargo) (c : WaitingCall) (h : Side v s g next m) (there : map.get s.embargoes e ≡ Some b) (only : IsOnlyEmbargo s e b.reference.0)
    (mine : caller c.request.stamp ≡ ref_at v b.reference.0) (has : (x : Reference) → map.get s.refs b.reference.0 ≡ Some x → x.embargo ≡ None → ⊥) where
  abbrev r : ℕ
  r = b.reference.0

  abbrev me : Ref
  me = ref_at v r

  abbrev longer : Embargo
  longer = record b { waiting = b.waiting ++ c ∷ [] }

  abbrev all : Map Embargo
  all = map.insert s.embargoes e longer

  pub is : IsEmbargo v g b (m.refs me)
  is = subst (HasEmbargo v g m) there (h.embargoes e)

  abbrev keeping_one : routing.Reference routes
  keeping_one = record (m.refs me) { embargo = Some (record (is.0) { calls = (is.0).calls ++ c.request.stamp.index ∷ [] }) }

  abbrev refs : Ref → routing.Reference routes
  refs = changed routes.same_ref m.refs me keeping_one

  ref : (q : ℕ) (o : Option Reference) → map.get s.refs q ≡ o → IsRef v g s.next_ref q o (m.refs (ref_at v q)) → IsRef v g s.next_ref q o (refs (ref_at v q))
  ref q None f a = λ l. told_too (λ (j : Ref) y. y ≡ routing.new_reference false y.head) m.refs me keeping_one
      (λ j k i. (let bad : true ≡ false = sym is.3 ∙ (ap (λ z. (m.refs z).known) (sym k) ∙ ap (λ (z : routing.Reference routes). z.known) i) in cc)) (ref_at v q) (a l)
  ref q (Some x) f a = (
    a.0,
    told_too (λ (j : Ref) y. y.known ≡ true) m.refs me keeping_one (λ j k i. is.3) (ref_at v q) a.1,
    told_too (λ (j : Ref) y. y.made ≡ x.made) m.refs me keeping_one (λ j k i. sym (ap (λ z. (m.refs z).made) k) ∙ i) (ref_at v q) a.2,
    told_too (λ (j : Ref) y. HasHead v g x.head y.dead y.head) m.refs me keeping_one (λ j k i. subst (λ (z : Ref). HasHead v g x.head (m.refs z).dead (m.refs z).head) k i) (ref_at v q) a.3,
    λ none. by (nat_eq q r) refl none,
  )
    where
      by : (z : Bool) → nat_eq q r ≡ z → x.embargo ≡ None → (refs (ref_at v q)).embargo ≡ None
      by true k none = absurd (has x (ap (map.get s.refs) (sym (equal q r k)) ∙ f) none)
      by false k none = ap (λ (z : routing.Reference routes). z.embargo) (changed_other routes.same_ref m.refs me keeping_one (ref_at v q) (other_number v q r (apart q r k))) ∙ a.4 none

  embargo : (k : ℕ) → HasEmbargo v g (put_ref m me keeping_one) (map.get all k)
  embargo = at_put (λ k o. HasEmbargo v g (put_ref m me keeping_one) o) s.embargoes e longer
      (subst (IsEmbargo v g longer) (sym (changed_here routes.same_ref m.refs me keeping_one)) (record (is.0) { calls = (is.0).calls ++ c.request.stamp.index ∷ [] }, refl, calls_more me b.waiting (is.0).calls c is.2 mine, is.3, is.4, is.5))
      (λ k n. other k n (map.get s.embargoes k) refl (h.embargoes k))
    where
      other : (k : ℕ) → nat_eq k e ≡ false → (o : Option Embargo) → map.get s.embargoes k ≡ o → HasEmbargo v g m o → HasEmbargo v g (put_ref m me keeping_one) o
      other k n None f a = tt
      other k n (Some z) f a =
          let apart_from : ref_at v z.reference.0 ≡ me → ⊥ = λ i. apart k e n (only k z f (ap (λ (j : Ref). j.number) i)) in
          subst (IsEmbargo v g z) (sym (changed_other routes.same_ref m.refs me keeping_one (ref_at v z.reference.0) apart_from)) a

  no_other : (q : ℕ) → ((m.refs (ref_at v q)).embargo ≡ None) ⊎ ((k : ℕ) × IsEmbargoOf q (map.get s.embargoes k)) → ((refs (ref_at v q)).embargo ≡ None) ⊎ ((k : ℕ) × IsEmbargoOf q (map.get all k))
  no_other q a = by_choice (λ (y : routing.Reference routes). (y.embargo ≡ None) ⊎ ((k : ℕ) × IsEmbargoOf q (map.get all k))) (routes.same_ref (ref_at v q) me) keeping_one (m.refs (ref_at v q))
      (λ i. inr (e, rw (get-insert_same s.embargoes e longer) (sym (ap (λ (j : Ref). j.number) i)))) (λ i. old a)
    where
      old : ((m.refs (ref_at v q)).embargo ≡ None) ⊎ ((k : ℕ) × IsEmbargoOf q (map.get s.embargoes k)) → ((m.refs (ref_at v q)).embargo ≡ None) ⊎ ((k : ℕ) × IsEmbargoOf q (map.get all k))
      old (inl i) = inl i
      old (inr i) = inr (i.0, at_put (λ k o. IsEmbargoOf q (map.get s.embargoes k) → IsEmbargoOf q o) s.embargoes e longer (λ j. subst (IsEmbargoOf q) there j) (λ k n j. j) i.0 i.1)

  pub waiting_side : Side v (record s { embargoes = all }) g next (put_ref m me keeping_one)
  waiting_side = record {
    stops = h.stops;
    refs = λ q. ref q (map.get s.refs q) refl (h.refs q);
    embargoes = embargo;
    no_other_embargoes = λ q. no_other q (h.no_other_embargoes q);
    lists = h.lists;
    ids = h.ids;
  }

  pub waiting_told : (made : Ref → ℕ) (ds : List DeliveredAt) → Told made ds m.refs → Told made ds refs
  waiting_told made ds t = record {
    made_is = λ q. told_too (λ (j : Ref) y. y.made ≡ made j) m.refs me keeping_one (λ j k i. sym (ap (λ z. (m.refs z).made) k) ∙ i) q (t.made_is q);
    delivered_is = λ q. told_too (λ (j : Ref) y. y.delivered ≡ deliveries_of j ds) m.refs me keeping_one (λ j k i. sym (ap (λ z. (m.refs z).delivered) k) ∙ i) q (t.delivered_is q);
  }

  -- Each embargo is of the reference that it was of.
  pub same_refs : (u : Vat) (k : ℕ) → embargo_ref u (map.get all k) ≡ embargo_ref u (map.get s.embargoes k)
  same_refs u = at_put (λ k o. embargo_ref u o ≡ embargo_ref u (map.get s.embargoes k)) s.embargoes e longer (ap (embargo_ref u) (sym there)) (λ k n. refl)

waits : (w : Around) (d : Progress) (g : Ghosts) (m : routing.State routes) (e : ℕ) (b : Embargo) (c : WaitingCall) (t : Tied w d g m) (there : map.get d.state.embargoes e ≡ Some b) (only : IsOnlyEmbargo d.state e b.reference.0)
    (mine : caller c.request.stamp ≡ ref_at w.vat b.reference.0) (has : (x : Reference) → map.get d.state.refs b.reference.0 ≡ Some x → x.embargo ≡ None → ⊥)
    → Tied w (with_state d (record (d.state) { embargoes = map.insert d.state.embargoes e (record b { waiting = b.waiting ++ c ∷ [] }) })) g (put_ref m (ref_at w.vat b.reference.0) (keeping_one w.vat d.state g.own g.next m e b c t.own there only mine has))
waits w d g m e b c t there only mine has =
    let v = w.vat in
    let u = other_vat w.vat in
    let s = d.state in
    let view = t.view in
    let back = t.back in
    let y = keeping_one v s g.own g.next m e b c t.own there only mine has in
    let all = map.insert s.embargoes e (record b { waiting = b.waiting ++ c ∷ [] }) in
    record {
      own = waiting_side v s g.own g.next m e b c t.own there only mine has;
      theirs = begins_there v w.other g.theirs g.next m b.reference.0 y t.theirs;
      view = record {
        imports = view.imports;
        sessions = view.sessions;
        link = all_named v u (reader s w.other g.theirs) (w.other).embargoes all (same_refs v s g.own g.next m e b c t.own there only mine has v) (λ k. refl) g.own (sessions_at g.theirs.outcome (w.other).answers) (w.out ++ d.effects.sends) ∙ view.link;
      };
      back = record {
        imports = back.imports;
        sessions = back.sessions;
        link = all_named u v (reader w.other s g.own) all (w.other).embargoes (λ k. refl) (same_refs v s g.own g.next m e b c t.own there only mine has v) g.theirs (sessions_at g.own.outcome s.answers) w.back ∙ back.link;
      };
      told = waiting_told v s g.own g.next m e b c t.own there only mine has w.made (w.delivered ++ all_at v d.effects.deliveries) t.told;
      unborn = t.unborn;
      unborn_back = t.unborn_back;
      known = t.known;
      known_there = t.known_there;
      goes = t.goes;
      comes = t.comes;
    }

-- ---- The whole

puts_alike : (m : routing.State routes) (p r : Ref) (x y : routing.Reference routes) → p ≡ r → x ≡ y → put_ref m p x ≡ put_ref m r y
puts_alike m p r x y e f = ap₂ (λ (a : Ref) (b : routing.Reference routes). put_ref m a b) e f

put_twice : (m : routing.State routes) (r : Ref) (a b : routing.Reference routes) → put_ref (put_ref m r a) r b ≡ put_ref m r b
put_twice m r a b = ap (λ (f : Ref → routing.Reference routes). record m { refs = f }) (twice routes.same_ref m.refs r a b)

make_kept : (m : routing.State routes) (r : Ref) (y : routing.Reference routes) (k : Kept routes) → y.embargo ≡ Some k → put_ref m r (record (one_more y) { embargo = Some (record k { calls = k.calls ++ y.made ∷ [] }) }) ≡ make m r y y.embargo y.dead
make_kept m r y k e = sym (ap (λ p. make m r y p y.dead) e)

keeps_alike : (y z : routing.Reference routes) (k : Kept routes) (i j : ℕ) → y ≡ z → i ≡ j → record y { embargo = Some (record k { calls = k.calls ++ i ∷ [] }) } ≡ record z { embargo = Some (record k { calls = k.calls ++ j ∷ [] }) }
keeps_alike y z k i j e f = ap₂ (λ (a : routing.Reference routes) (b : ℕ). record a { embargo = Some (record k { calls = k.calls ++ b ∷ [] }) }) e f

-- The machine's reference keeps one more call: it was made.
embargo_made : (w : Around) (new : Progress) (g : Ghosts) (m : routing.State routes) (me p : Ref) (k : Kept routes) (i : ℕ) → p ≡ me → (m.refs me).known ≡ true
    → ((put_ref m me (one_more (m.refs me))).refs p).embargo ≡ Some k → i ≡ (m.refs me).made
    → Tied w new g (put_ref (put_ref m me (one_more (m.refs me))) p (record ((put_ref m me (one_more (m.refs me))).refs p) { embargo = Some (record k { calls = k.calls ++ i ∷ [] }) })) → Comes w new m [] []
embargo_made w new g m me p k i same known has e t =
    let y = m.refs me in
    let m' : routing.State routes = put_ref m me (one_more y) in
    let here : m'.refs me ≡ one_more y = changed_here routes.same_ref m.refs me (one_more y) in
    let has_k : y.embargo ≡ Some k = ap (λ (z : routing.Reference routes). z.embargo) (sym here) ∙ (ap (λ z. (m'.refs z).embargo) (sym same) ∙ has) in
    let one : routing.Reference routes = record (m'.refs p) { embargo = Some (record k { calls = k.calls ++ i ∷ [] }) } in
    let made : routing.Reference routes = record (one_more y) { embargo = Some (record k { calls = k.calls ++ y.made ∷ [] }) } in
    let one_is : one ≡ made = keeps_alike (m'.refs p) (one_more y) k i y.made (ap m'.refs same ∙ here) e in
    let end_is : put_ref m' p one ≡ happens m (Make me) = puts_alike m' p me one made same one_is ∙ (put_twice m me (one_more y) made ∙ make_kept m me y k has_k) in
    (g, put_ref m' p one, Next (Happens (Make me) known refl end_is refl) Done, t)

pub call_embargoed : (w : Around) (d : Progress) (g : Ghosts) (m : routing.State routes) (r c o e : ℕ) (x : Reference) (b : Embargo) (q : Request) (new : Progress) → Tied w d g m → map.get d.state.refs r ≡ Some x
    → (x.embargo ≡ None → ⊥) → map.get d.state.embargoes e ≡ Some b → b.reference.0 ≡ r → IsOnlyEmbargo d.state e r → caller q.stamp ≡ ref_at w.vat r → q.stamp.index ≡ x.made
    → map.get d.state.outcomes o ≡ None → MayKeep (counted d.state r x) o → WaitsForEmbargo (kept (made_from d r x) c o) (record { request = q; outcome = o }) e (Some b) new → Comes (one_made w (ref_at w.vat r)) new m [] []
call_embargoed w d g m r c o e x b q new t at has there of only st ix free may h =
    let v = w.vat in
    let me = ref_at v r in
    let y = m.refs me in
    let w' = one_made w me in
    let m' : routing.State routes = put_ref m me (one_more y) in
    let d1 = made_from d r x in
    let d2 = kept d1 c o in
    let g' : Ghosts = record { own = keeping g.own o g.next; theirs = g.theirs; next = g.next + 1 } in
    let t1 = counts w d g m r x at t in
    let t2 = keeps w' d1 g m' o (caller_of.Application (record { 0 = c })) t1 free may in
    let s1 = d1.state in
    let u : State = with_outcome s1 o (caller_of.Application (record { 0 = c })) in
    let t3 : Tied w' d2 g' m' = set_rest w' u d.effects.sends d.effects.deliveries g' m' (map.insert s1.calls c (own_call.Kept o)) u.tasks u.unsettled u.next_call u.next_task u.next_promise t2 in
    let call : WaitingCall = record { request = q; outcome = o } in
    let side = t.own in
    let a : IsRef v g.own d.state.next_ref r (Some x) y = subst (λ z. IsRef v g.own d.state.next_ref r z y) at (side.refs r) in
    let z : Reference = record x { made = x.made + 1 } in
    let mine : caller q.stamp ≡ ref_at v b.reference.0 = st ∙ ap (ref_at v) (sym of) in
    let not_none : (k : Reference) → map.get d2.state.refs b.reference.0 ≡ Some k → k.embargo ≡ None → ⊥ =
    λ k f none. has (let i : Some z ≡ Some k = sym (get-insert_same d.state.refs r z) ∙ (ap (map.get d2.state.refs) (sym of) ∙ f) in let j : z ≡ k = cc in ap (λ (p : Reference). p.embargo) j ∙ none) in
    let only' : IsOnlyEmbargo d2.state e b.reference.0 = λ k l f i. only k l f (i ∙ of) in
    let t4 = waits w' d2 g' m' e b call t3 there only' mine not_none in
    let is4 = is v d2.state g'.own g'.next m' e b call t3.own there only' mine not_none in
    embargo_made w' new g' m me (ref_at v b.reference.0) is4.0 q.stamp.index (ap (ref_at v) of) a.1 is4.1 (ix ∙ sym a.2) (rw h t4)
