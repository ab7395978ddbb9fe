-- An embargo is lifted.
use Rattle.std.specs.FinMap as map
use Rattle.std.proofs.Common.{◌≡◌, ◌⊎◌, inl, inr, ℕ, Bool, nat_eq, true, false, List, [], ◌∷◌, ◌++◌, Option, None, Some, refl, sym, ap, subst, ◌∙◌}
use Rattle.finite_maps.specs.Tally.{Map}
use Rattle.finite_maps.proofs.Gets.{get-insert_same}
use Rattle.finite_maps.proofs.Tested.{apart, at_cut, equal, get_left, get_other}
use Rattle.rpc_msg.specs.declared.ids.Vat.{Vat}
use Rattle.rpc_msg.specs.declared.ids.EmbargoId.{EmbargoId}
use Rattle.rpc_msg.specs.declared.parts.Target.{Target}
use Rattle.rpc_msg.specs.declared.message.DisembargoContext.TheVariants.{ReceiverLoopback}
use Rattle.rpc_msg.specs.declared.message.PlainMessage.TheVariants as plain
use Rattle.rpc_msg.specs.declared.message.Message as rpc
use Rattle.rpc_msg.specs.declared.message.Message.TheVariants as message
use Rattle.rpc_msg.specs.Vats.{other_vat}
use Rattle.rpc_journal.specs.History.{Ref, DeliveredAt}
use Rattle.rpc_machine.specs.declared.calls.WaitingCall.{WaitingCall}
use Rattle.rpc_machine.specs.declared.entries.Reference.{Reference}
use Rattle.rpc_machine.specs.declared.entries.Embargo.{Embargo}
use Rattle.rpc_machine.specs.State.{State}
use Rattle.rpc_machine.specs.Lists.{update, updated}
use Rattle.rpc_machine.specs.Messages.{unembargoed}
use Rattle.rpc_machine.specs.Nodes.{is_wire}
use Rattle.rpc_machine.specs.Progress.{Progress}
use Rattle.rpc_machine.specs.Routing.{RoutesAll}
use Rattle.laws_order.specs.Machine.{Message, Content, Call, Echo, changed, put_ref, same_vat}
use Rattle.laws_order.specs.Machine as routing
use Rattle.laws_order.specs.Routing.{calls_to}
use Rattle.laws_order.specs.Invariant.{InvariantWith}
use Rattle.laws_order.specs.Moves.{Moves, Done, Next, Lifts, with_link}
use Rattle.laws_order.proofs.Moves.{moves_keep}
use Rattle.laws_order.proofs.Choices.{by_choice, changed_here, changed_other}
use Rattle.laws_routes.specs.Points.{Point, end, routes}
use Rattle.laws_routes.specs.Ghosts.{Ghost, point, ref_at}
use Rattle.laws_routes.specs.Sides.{Side, IsRef, IsEmbargo, HasEmbargo, IsEmbargoOf, AreCalls}
use Rattle.laws_routes.specs.Views.{Shape, reader, embargo_ref, sessions_at, shapes, shapes_of}
use Rattle.laws_routes.specs.Ties.{Around, Ghosts, Tied, Told, deliveries_of}
use Rattle.laws_routes.specs.Premises.{IsLastLoop, IsOnlyEmbargo}
use Rattle.laws_routes.specs.Laws.{Comes, AreToGo, AllMayGo, with_back, lifted}
use Rattle.laws_routes.proofs.NewReferences.{begins_there, moves_on}
use Rattle.laws_routes.proofs.DisembargoBack.{oldest, relinked}
use Rattle.laws_routes.proofs.Differing.{ends_differ, other_number}
use Rattle.laws_routes.proofs.CallDelivered.{told_too}
use Rattle.laws_routes.proofs.LinkShapes.{loops_map, shapes_loops}
use Rattle.laws_routes.proofs.CallsRouted.{list_routed}

module _ (v : Vat) (s : State) (g : Ghost) (next : ℕ) (m : routing.State routes) (e : ℕ) (b : Embargo) (h : Side v s g next m) (there : map.get s.embargoes e ≡ Some b) (only : IsOnlyEmbargo s e b.reference.0) where
  abbrev r : ℕ
  r = b.reference.0

  abbrev me : Ref
  me = ref_at v r

  abbrev y : routing.Reference routes
  y = record (m.refs me) { embargo = None }

  pub mine : IsEmbargo v g b (m.refs me)
  mine = subst (HasEmbargo v g m) there (h.embargoes e)

  abbrev refs : Ref → routing.Reference routes
  refs = changed routes.same_ref m.refs me y

  old : (o : Option Reference) → map.get s.refs r ≡ o → IsRef v g s.next_ref r o (m.refs me)
  old o f = subst (λ z. IsRef v g s.next_ref r z (m.refs me)) f (h.refs r)

  lifted_refs : (o : Option Reference) → map.get s.refs r ≡ o → (q : ℕ) → IsRef v g s.next_ref q (map.get (updated s.refs r unembargoed o) q) (refs (ref_at v q))
  lifted_refs None f q = by q (nat_eq q r) refl
    where
      by : (q : ℕ) (c : Bool) → nat_eq q r ≡ c → IsRef v g s.next_ref q (map.get s.refs q) (refs (ref_at v q))
      by q true e =
          subst (λ (j : ℕ). IsRef v g s.next_ref j (map.get s.refs j) (refs (ref_at v j))) (sym (equal q r e))
          (rw f (λ l. (let a : true ≡ false = sym mine.3 ∙ ap (λ (z : routing.Reference routes). z.known) (old None f l) in cc)))
      by q false e = rw (changed_other routes.same_ref m.refs me y (ref_at v q) (other_number v q r (apart q r e))) (h.refs q)
  lifted_refs (Some x) f q = by q (nat_eq q r) refl
    where
      k : IsRef v g s.next_ref r (Some x) (m.refs me)
      k = old (Some x) f

      by : (q : ℕ) (c : Bool) → nat_eq q r ≡ c → IsRef v g s.next_ref q (map.get (map.insert s.refs r (unembargoed x)) q) (refs (ref_at v q))
      by q true e =
          subst (λ (j : ℕ). IsRef v g s.next_ref j (map.get (map.insert s.refs r (unembargoed x)) j) (refs (ref_at v j))) (sym (equal q r e))
          (rw (get-insert_same s.refs r (unembargoed x)) (rw (changed_here routes.same_ref m.refs me y) (k.0, k.1, k.2, k.3, λ z. refl)))
      by q false e = rw (get_other s.refs r (unembargoed x) q e) (rw (changed_other routes.same_ref m.refs me y (ref_at v q) (other_number v q r (apart q r e))) (h.refs q))

  others : (k : ℕ) → HasEmbargo v g (put_ref m me y) (map.get (map.remove s.embargoes e) k)
  others = at_cut (λ k o. HasEmbargo v g (put_ref m me y) o) s.embargoes e tt (λ k n. one k n (map.get s.embargoes k) refl (h.embargoes k))
    where
      one : (k : ℕ) → nat_eq k e ≡ false → (o : Option Embargo) → map.get s.embargoes k ≡ o → HasEmbargo v g m o → HasEmbargo v g (put_ref m me y) o
      one k n None f i = tt
      one k n (Some c) f i =
          subst (IsEmbargo v g c)
          (sym (changed_other routes.same_ref m.refs me y (ref_at v c.reference.0) (λ z. apart k e n (only k c f (ap (λ (j : Ref). j.number) z))))) i

  none_other : (q : ℕ) → ((put_ref m me y).refs (ref_at v q)).embargo ≡ None ⊎ ((k : ℕ) × IsEmbargoOf q (map.get (map.remove s.embargoes e) k))
  none_other q = by_choice (λ (z : routing.Reference routes). (z.embargo ≡ None) ⊎ ((k : ℕ) × IsEmbargoOf q (map.get (map.remove s.embargoes e) k))) (routes.same_ref (ref_at v q) me) y (m.refs (ref_at v q)) (λ f. inl refl) (λ f. still f (h.no_other_embargoes q))
    where
      still : (ref_at v q ≡ me → ⊥) → ((m.refs (ref_at v q)).embargo ≡ None) ⊎ ((k : ℕ) × IsEmbargoOf q (map.get s.embargoes k)) → ((m.refs (ref_at v q)).embargo ≡ None) ⊎ ((k : ℕ) × IsEmbargoOf q (map.get (map.remove s.embargoes e) k))
      still f (inl i) = inl i
      still f (inr i) =
          inr (
            i.0,
            at_cut (λ k o. IsEmbargoOf q (map.get s.embargoes k) → IsEmbargoOf q o) s.embargoes e (λ z. f (ap (ref_at v) (sym (subst (IsEmbargoOf q) there z)))) (λ k n z. z) i.0 i.1,
          )

  pub lifted_side : Side v (record s { refs = update s.refs r unembargoed; embargoes = map.remove s.embargoes e }) g next (put_ref m me y)
  lifted_side = record { stops = h.stops; refs = lifted_refs (map.get s.refs r) refl; embargoes = others; no_other_embargoes = none_other; lists = h.lists; ids = h.ids }

-- The calls that were kept stand at the head.
to_go : (n : _) (x : Point) (r : Ref) (cs : List WaitingCall) (is : List ℕ) → AreCalls r cs is → AreToGo n x cs (calls_to x r is)
to_go n x r [] [] h = tt
to_go n x r [] (i ∷ is) h = absurd h
to_go n x r (c ∷ cs) [] h = absurd h
to_go n x r (c ∷ cs) (i ∷ is) h = ((refl, sym h.0, ap Call (sym h.1)), to_go n x r cs is h.2)

lifted_told : (made : Ref → ℕ) (ds : List DeliveredAt) (refs : Ref → routing.Reference routes) (r : Ref) → Told made ds refs → Told made ds (changed routes.same_ref refs r (record (refs r) { embargo = None }))
lifted_told made ds refs r h = record {
  made_is = λ q. told_too (λ (j : Ref) a. a.made ≡ made q) refs r (record (refs r) { embargo = None }) (λ j f i. sym (ap (λ k. (refs k).made) f) ∙ i) q (h.made_is q);
  delivered_is = λ q. told_too (λ (j : Ref) a. a.delivered ≡ deliveries_of q ds) refs r (record (refs r) { embargo = None }) (λ j f i. sym (ap (λ k. (refs k).delivered) f) ∙ i) q (h.delivered_is q);
}

pub lifts : (w : Around) (d : Progress) (g : Ghosts) (m : routing.State routes) (x : EmbargoId) (target : Target) (b : Embargo) (rest : List rpc.Message) (new : Progress)
    → Tied (with_back w (message.Plain (plain.Disembargo (record { target = target; context = ReceiverLoopback x })) ∷ rest)) d g m → InvariantWith m []
    → map.get d.state.embargoes x.0 ≡ Some b → IsOnlyEmbargo d.state x.0 b.reference.0 → IsLastLoop x.0 (w.out ++ d.effects.sends) rest → is_wire b.node ≡ false
    → (h : RoutesAll (lifted d x.0 b) b.waiting b.node new) → AllMayGo (with_back w rest) (lifted d x.0 b) b.waiting b.node new h → Comes (with_back w rest) new m [] []
lifts w d g m x target b rest new t i at only last own h may =
    let back = t.back in
    let view = t.view in
    let o = oldest (m.net.links (end v)) first (shapes u v g.theirs (reader w.other s g.own) now rest) back.link in
    let y = o.0 in
    let ys = o.1 in
    let what : y.what ≡ Echo = ap (λ (z : Shape). z.what) o.3 in
    let ref : y.ref ≡ me = ap (λ (z : Shape). z.ref) o.3 ∙ ap (embargo_ref v) at in
    let k = mine v s g.own g.next m x.0 b t.own at only in
    let linked : routing.State routes = with_link m (end v) ys in
    let m' : routing.State routes = put_ref linked me (record (m.refs me) { embargo = None }) in
    let kept = k.0 in
    let us = calls_to (point v g.own b.node) me kept.calls in
    let move : Moves m' us m [] =
    Next
    (Lifts (end v) y ys kept o.2 what (ap (λ z. (m.refs z).embargo) ref ∙ k.1) refl
    (ap (λ z. put_ref linked z (record (m.refs z) { embargo = None })) (sym ref))
    (ap (λ z. calls_to z me kept.calls) (sym k.5) ∙ ap (λ z. calls_to (m.refs z).head z kept.calls) (sym ref))) Done in
    let tied : Tied w' d' g m' = record {
      own = lifted_side v s g.own g.next linked x.0 b (relinked v s g.own g.next m linked.net.links t.own) at only;
      theirs = begins_there v w.other g.theirs g.next linked b.reference.0 (record (m.refs me) { embargo = None }) (relinked u w.other g.theirs g.next m linked.net.links t.theirs);
      view = record {
        imports = view.imports;
        sessions = view.sessions;
        link =
            shapes_loops v u g.own (reader s w.other g.theirs) (w.other).embargoes cut (sessions_at g.theirs.outcome (w.other).answers) (w.out ++ d.effects.sends)
            (loops_map _ _ _ _ (w.out ++ d.effects.sends) (λ e n. get_left s.embargoes x.0 e n) (λ e n. refl) last.sent)
            ∙ (view.link ∙ ap shapes_of (sym (changed_other same_vat m.net.links (end v) ys (end u) (ends_differ v))));
      };
      back = record {
        imports = back.imports;
        sessions = back.sessions;
        link =
            shapes_loops u v g.theirs (reader w.other s g.own) cut (w.other).embargoes now rest
            (loops_map _ _ _ _ rest (λ e n. refl) (λ e n. get_left s.embargoes x.0 e n) last.echoed)
            ∙ (o.4 ∙ ap shapes_of (sym (changed_here same_vat m.net.links (end v) ys)));
      };
      told = lifted_told w.made _ m.refs me t.told;
      unborn = t.unborn;
      unborn_back = t.unborn_back;
      known = t.known;
      known_there = t.known_there;
      goes = t.goes;
      comes = t.comes.1;
    } in
    let r = list_routed w' d' g m' b.waiting us b.node new tied (moves_keep m' us m [] move i) own (to_go m'.net (point v g.own b.node) me b.waiting kept.calls k.2) h may in
    (r.0, r.1, moves_on r.1 [] m' us m [] r.2 move, r.3)
  where
    v : Vat
    v = w.vat

    u : Vat
    u = other_vat w.vat

    s : State
    s = d.state

    w' : Around
    w' = with_back w rest

    d' : Progress
    d' = lifted d x.0 b

    me : Ref
    me = ref_at w.vat b.reference.0

    now : ℕ → ℕ
    now = sessions_at g.own.outcome (d.state).answers

    cut : Map Embargo
    cut = map.remove (d.state).embargoes x.0

    first : Shape
    first = record { target = None; ref = embargo_ref w.vat (map.get (d.state).embargoes x.0); what = Echo }
