-- A new reference: in the machine of routes it begins.
use Rattle.std.specs.FinMap as map
use Rattle.std.proofs.Common.{◌≡◌, ◌⊎◌, inl, inr, ℕ, ◌+◌, ◌≤◌, Bool, nat_eq, true, false, List, [], ◌∷◌, Option, None, Some, refl, sym, ap, subst, ◌∙◌, arith}
use Rattle.finite_maps.proofs.Gets.{get-insert_same}
use Rattle.finite_maps.proofs.Tested.{apart, equal, get_other}
use Rattle.rpc_msg.specs.declared.ids.Vat.{Vat}
use Rattle.rpc_msg.specs.Vats.{other_vat}
use Rattle.rpc_journal.specs.History.{Ref}
use Rattle.rpc_journal.specs.History.{DeliveredAt}
use Rattle.rpc_machine.specs.declared.node.Node.{Node}
use Rattle.rpc_machine.specs.declared.node.Node.TheVariants as node
use Rattle.rpc_machine.specs.declared.entries.Reference.{Reference}
use Rattle.rpc_machine.specs.declared.entries.Embargo.{Embargo}
use Rattle.rpc_machine.specs.State.{State}
use Rattle.rpc_machine.specs.Progress.{Progress, with_state, with_refs}
use Rattle.laws_order.specs.Machine.{Message, changed, new_reference, put_ref}
use Rattle.laws_order.specs.Moves.{Moves, Done, Next, Begins}
use Rattle.laws_order.specs.Machine as routing
use Rattle.laws_order.proofs.Choices.{by_choice, changed_here, changed_other}
use Rattle.laws_routes.specs.Points.{Point, routes}
use Rattle.laws_routes.specs.Ghosts.{Ghost, point, ref_at}
use Rattle.laws_routes.specs.Sides.{Side, HasHead, IsRef, Refs, IsEmbargo, HasEmbargo, IsEmbargoOf}
use Rattle.laws_routes.specs.Ties.{Around, Ghosts, Tied, Told, deliveries_of}
use Rattle.laws_routes.specs.Laws.{Follows, Steady}
use Rattle.laws_routes.proofs.Differing.{other_number, other_ref}

at_most : (k : ℕ) → k ≤ k
at_most k = omega arith

-- A reference whose number is still to come was not made.
pub unknown : (v : Vat) (s : State) (g : Ghost) (m : routing.State routes) → Refs v s g m → (r : ℕ) → s.next_ref ≤ r → m.refs (ref_at v r) ≡ new_reference false (m.refs (ref_at v r)).head
unknown v s g m h r l = by (map.get s.refs r) (h r)
  where
    by : (o : Option Reference) → IsRef v g s.next_ref r o (m.refs (ref_at v r)) → m.refs (ref_at v r) ≡ new_reference false (m.refs (ref_at v r)).head
    by None k = k l
    by (Some x) k = let a = k.0 in absurd (omega arith)

-- The head of a reference that is not dead.
pub alive_head : (v : Vat) (g : Ghost) (n : Node) (dead : Bool) → dead ≡ false → HasHead v g n dead (point v g n)
alive_head v g (node.Object o) dead e = (e, refl)
alive_head v g (node.Promise p) dead e = (e, refl)
alive_head v g (node.Field o path) dead e = (e, refl)
alive_head v g (node.Import k) dead e = (e, refl)
alive_head v g (node.Pipe q path) dead e = (e, refl)
alive_head v g (node.Broken reason) dead e = inr refl

later : (v : Vat) (g : Ghost) (next r : ℕ) (o : Option Reference) (y : routing.Reference routes) → IsRef v g next r o y → IsRef v g (next + 1) r o y
later v g next r None y h = λ l. h (omega (arith, l))
later v g next r (Some x) y h = (let a = h.0 in omega arith, h.1, h.2, h.3, h.4)

-- Of the vat that has it.
pub begins_own : (v : Vat) (s : State) (g : Ghost) (next : ℕ) (m : routing.State routes) (n : Node) → Side v s g next m
    → Side v (with_refs s (n ∷ [])) g next (put_ref m (ref_at v s.next_ref) (new_reference true (point v g n)))
begins_own v s g next m n h = record {
  stops = h.stops;
  refs = λ r. at_ref r (nat_eq r k) refl;
  embargoes = λ e. kept (map.get s.embargoes e) (h.embargoes e);
  no_other_embargoes = λ r. by_choice (λ (y : routing.Reference routes). (y.embargo ≡ None) ⊎ ((e : ℕ) × IsEmbargoOf r (map.get s.embargoes e))) (routes.same_ref (ref_at v r) new) x (m.refs (ref_at v r)) (λ e. inl refl) (λ e. h.no_other_embargoes r);
  lists = h.lists;
  ids = h.ids;
}
  where
    k : ℕ
    k = s.next_ref

    new : Ref
    new = ref_at v k

    x : routing.Reference routes
    x = new_reference true (point v g n)

    refs : Ref → routing.Reference routes
    refs = changed routes.same_ref m.refs new x

    at_ref : (r : ℕ) (b : Bool) → nat_eq r k ≡ b → IsRef v g (k + 1) r (map.get (map.insert s.refs k (record { head = n; embargo = None; made = 0 })) r) (refs (ref_at v r))
    at_ref r true e =
        let f = equal r k e in
        subst (λ (j : ℕ). IsRef v g (k + 1) j (map.get (map.insert s.refs k (record { head = n; embargo = None; made = 0 })) j) (refs (ref_at v j))) (sym f)
        (rw (get-insert_same s.refs k (record { head = n; embargo = None; made = 0 })) (rw (changed_here routes.same_ref m.refs new x) (omega arith, refl, refl, alive_head v g n false refl, λ e. refl)))
    at_ref r false e =
        rw (get_other s.refs k (record { head = n; embargo = None; made = 0 }) r e)
        (rw (changed_other routes.same_ref m.refs new x (ref_at v r) (other_number v r k (apart r k e))) (later v g k r (map.get s.refs r) (m.refs (ref_at v r)) (h.refs r)))

    kept : (o : Option Embargo) → HasEmbargo v g m o → HasEmbargo v g (put_ref m new x) o
    kept None i = tt
    kept (Some b) i =
        let r = ref_at v b.reference.0 in
        let other : r ≡ new → ⊥ = λ e. (let a : true ≡ false = sym i.3 ∙ (ap (λ z. (m.refs z).known) e ∙ ap (λ (z : routing.Reference routes). z.known) (unknown v s g m h.refs k (omega arith))) in cc) in
        subst (IsEmbargo v g b) (sym (changed_other routes.same_ref m.refs new x r other)) i

-- Of the other vat.
pub begins_there : (v : Vat) (t : State) (f : Ghost) (next : ℕ) (m : routing.State routes) (r : ℕ) (x : routing.Reference routes) → Side (other_vat v) t f next m
    → Side (other_vat v) t f next (put_ref m (ref_at v r) x)
begins_there v t f next m r x h = record {
  stops = h.stops;
  refs = λ q. subst (IsRef u f t.next_ref q (map.get t.refs q)) (same q) (h.refs q);
  embargoes = λ e. kept (map.get t.embargoes e) (h.embargoes e);
  no_other_embargoes = λ q. subst (λ (y : routing.Reference routes). (y.embargo ≡ None) ⊎ ((e : ℕ) × IsEmbargoOf q (map.get t.embargoes e))) (same q) (h.no_other_embargoes q);
  lists = h.lists;
  ids = h.ids;
}
  where
    u : Vat
    u = other_vat v

    same : (q : ℕ) → m.refs (ref_at u q) ≡ changed routes.same_ref m.refs (ref_at v r) x (ref_at u q)
    same q = sym (changed_other routes.same_ref m.refs (ref_at v r) x (ref_at u q) (other_ref v q r))

    kept : (o : Option Embargo) → HasEmbargo u f m o → HasEmbargo u f (put_ref m (ref_at v r) x) o
    kept None i = tt
    kept (Some b) i = subst (IsEmbargo u f b) (same b.reference.0) i

begins_told : (made : Ref → ℕ) (ds : List DeliveredAt) (refs : Ref → routing.Reference routes) (r : Ref) (n : Point) → refs r ≡ new_reference false (refs r).head → Told made ds refs
    → Told made ds (changed routes.same_ref refs r (new_reference true n))
begins_told made ds refs r n e h = record {
  made_is = λ q. by_choice (λ (y : routing.Reference routes). y.made ≡ made q) (routes.same_ref q r) (new_reference true n) (refs q)
      (λ f. subst (λ (z : Ref). 0 ≡ made z) (sym f) (sym (ap (λ (y : routing.Reference routes). y.made) e) ∙ h.made_is r)) (λ f. h.made_is q);
  delivered_is = λ q. by_choice (λ (y : routing.Reference routes). y.delivered ≡ deliveries_of q ds) (routes.same_ref q r) (new_reference true n) (refs q)
      (λ f. subst (λ (z : Ref). [] ≡ deliveries_of z ds) (sym f) (sym (ap (λ (y : routing.Reference routes). y.delivered) e) ∙ h.delivered_is r)) (λ f. h.delivered_is q);
}

-- A new reference with any head begins, also while calls are to be routed.
pub new_ref_begins : (w : Around) (d : Progress) (g : Ghosts) (m : routing.State routes) (unrouted : List (Message routes)) (n : Node) → Tied w d g m
    → Follows w (with_state d (with_refs d.state (n ∷ []))) g m unrouted unrouted
new_ref_begins w d g m unrouted n h =
    let v = w.vat in
    let r = ref_at v d.state.next_ref in
    let x = new_reference true (point v g.own n) in
    let own = h.own in
    let view = h.view in
    let back = h.back in
    let e = unknown v d.state g.own m own.refs d.state.next_ref (at_most d.state.next_ref) in (
      g,
      put_ref m r x,
      Next (Begins r (point v g.own n) (ap (λ (y : routing.Reference routes). y.known) e) refl refl) Done,
      record {
        own = begins_own v d.state g.own g.next m n own;
        theirs = begins_there v w.other g.theirs g.next m d.state.next_ref x h.theirs;
        view = record { imports = view.imports; sessions = view.sessions; link = view.link };
        back = record { imports = back.imports; sessions = back.sessions; link = back.link };
        told = begins_told w.made _ m.refs r (point v g.own n) e h.told;
        unborn = h.unborn;
        unborn_back = h.unborn_back;
        known = h.known;
        known_there = h.known_there;
        goes = h.goes;
        comes = h.comes;
      },
      (refl, refl, refl, refl),
    )

-- These moves, and then those.
pub moves_on : (t : routing.State routes) (ws : List (Message routes)) (mid : routing.State routes) (vs : List (Message routes)) (s : routing.State routes) (us : List (Message routes)) → Moves t ws mid vs → Moves mid vs s us → Moves t ws s us
moves_on t ws mid vs s us b Done = b
moves_on t ws mid vs s us b (Next {mid = x} {between = y} a more) = Next a (moves_on t ws mid vs x y b more)

pub goes_on : (w : Around) (d e : Progress) (g : Ghosts) (m : routing.State routes) (us vs ws : List (Message routes)) → Follows w d g m us vs → ((f : Ghosts) (n : routing.State routes) → Moves n vs m us → Tied w d f n → Steady g m f n → Follows w e f n vs ws) → Follows w e g m us ws
goes_on w d e g m us vs ws a f =
    let b = f a.0 a.1 a.2 a.3 a.4 in
    let s = a.4 in
    let t = b.4 in
    (b.0, b.1, moves_on b.1 ws a.1 vs m us b.2 a.2, b.3, (t.0 ∙ s.0, t.1 ∙ s.1, t.2 ∙ s.2, t.3 ∙ s.3))

-- One new reference for each of these nodes.
pub new_refs_begin : (w : Around) (d : Progress) (g : Ghosts) (m : routing.State routes) (us : List (Message routes)) (ns : List Node) → Tied w d g m → Follows w (with_state d (with_refs d.state ns)) g m us us
new_refs_begin w d g m us [] h = (g, m, Done, h, (refl, refl, refl, refl))
new_refs_begin w d g m us (n ∷ ns) h =
    let next = with_state d (with_refs d.state (n ∷ [])) in
    goes_on w next (with_state next (with_refs next.state ns)) g m us us us (new_ref_begins w d g m us n h) (λ f k a t b. new_refs_begin w next f k us ns t)
