-- A reference switches to a shorter path.
use mathlib.Core.Path.{fun_ext}
use Rattle.std.specs.FinMap as map
use Rattle.std.proofs.Common.{◌≡◌, ◌⊎◌, inl, inr, ℕ, Bool, nat_eq, true, false, List, [], Option, None, Some, refl, sym, ap, subst, ◌∙◌}
use Rattle.finite_maps.proofs.Gets.{get-insert_same}
use Rattle.finite_maps.proofs.Tested.{apart, equal, get_other}
use Rattle.rpc_msg.specs.declared.ids.Vat.{Vat}
use Rattle.rpc_msg.specs.Vats.{other_vat}
use Rattle.rpc_journal.specs.History.{Ref, DeliveredAt}
use Rattle.rpc_machine.specs.declared.node.Node.{Node}
use Rattle.rpc_machine.specs.declared.entries.Reference.{Reference}
use Rattle.rpc_machine.specs.declared.entries.Embargo.{Embargo}
use Rattle.rpc_machine.specs.State.{State}
use Rattle.rpc_machine.specs.Progress.{Progress}
use Rattle.rpc_machine.specs.Advancing.{headed}
use Rattle.laws_order.specs.Machine.{changed, choose, put_ref}
use Rattle.laws_order.specs.Machine as routing
use Rattle.laws_order.specs.Events.{happens, Rename, Shorten}
use Rattle.laws_order.specs.Moves.{Moves, Done, Next, Happens}
use Rattle.laws_order.proofs.Choices.{changed_here, changed_other}
use Rattle.laws_routes.specs.Points.{Point, vat_of, end, routes}
use Rattle.laws_routes.specs.Ghosts.{Ghost, point, ref_at}
use Rattle.laws_routes.specs.Sides.{Side, IsRef, IsEmbargo, HasEmbargo, IsEmbargoOf}
use Rattle.laws_routes.specs.Ties.{Around, Ghosts, Tied, Told, deliveries_of}
use Rattle.laws_routes.specs.Laws.{Comes, IsSettledTo}
use Rattle.laws_routes.proofs.NewReferences.{alive_head, begins_there}
use Rattle.laws_routes.proofs.Differing.{ends_differ, other_number}
use Rattle.laws_routes.proofs.CallDelivered.{told_too}

module _ (v : Vat) (s : State) (g : Ghost) (next : ℕ) (m : routing.State routes) (r : ℕ) (x : Reference) (to : Node) (e : map.get s.refs r ≡ Some x) (none : x.embargo ≡ None) (alive : (m.refs (ref_at v r)).dead ≡ false) where
  abbrev me : Ref
  me = ref_at v r

  abbrev y : routing.Reference routes
  y = record (m.refs me) { head = point v g to }

  abbrev z : Reference
  z = record x { head = to }

  abbrev turned : routing.State routes
  turned = put_ref m me y

  module _ (h : Side v s g next m) where
    mine : IsRef v g s.next_ref r (Some x) (m.refs me)
    mine = subst (λ o. IsRef v g s.next_ref r o (m.refs me)) e (h.refs r)

    at_ref : (q : ℕ) (b : Bool) → nat_eq q r ≡ b → IsRef v g s.next_ref q (map.get (map.insert s.refs r z) q) (changed routes.same_ref m.refs me y (ref_at v q))
    at_ref q true f =
        subst (λ (j : ℕ). IsRef v g s.next_ref j (map.get (map.insert s.refs r z) j) (changed routes.same_ref m.refs me y (ref_at v j))) (sym (equal q r f))
        (rw (get-insert_same s.refs r z) (rw (changed_here routes.same_ref m.refs me y) (mine.0, mine.1, mine.2, alive_head v g to _ alive, mine.4)))
    at_ref q false f = rw (get_other s.refs r z q f) (rw (changed_other routes.same_ref m.refs me y (ref_at v q) (other_number v q r (apart q r f))) (h.refs q))

    embargo : (o : Option Embargo) → HasEmbargo v g m o → HasEmbargo v g turned o
    embargo None k = tt
    embargo (Some b) k =
        let other : ref_at v b.reference.0 ≡ me → ⊥ = λ f. (let a : None ≡ Some k.0 = sym (mine.4 none) ∙ (ap (λ q. (m.refs q).embargo) (sym f) ∙ k.1) in cc) in
        subst (IsEmbargo v g b) (sym (changed_other routes.same_ref m.refs me y (ref_at v b.reference.0) other)) k

    pub headed_side : Side v (record s { refs = map.insert s.refs r z }) g next turned
    headed_side = record {
      stops = h.stops;
      refs = λ q. at_ref q (nat_eq q r) refl;
      embargoes = λ k. embargo (map.get s.embargoes k) (h.embargoes k);
      no_other_embargoes = λ q. told_too (λ (j : Ref) a. (a.embargo ≡ None) ⊎ ((k : ℕ) × IsEmbargoOf q (map.get s.embargoes k))) m.refs me y
          (λ j f i. subst (λ (a : routing.Reference routes). (a.embargo ≡ None) ⊎ ((k : ℕ) × IsEmbargoOf q (map.get s.embargoes k))) (ap m.refs f) i) (ref_at v q) (h.no_other_embargoes q);
      lists = h.lists;
      ids = h.ids;
    }

    pub is_free : ((m.refs me).known ≡ true) × ((m.refs me).embargo ≡ None)
    is_free = (mine.1, mine.4 none)

  pub headed_told : (made : Ref → ℕ) (ds : List DeliveredAt) → Told made ds m.refs → Told made ds turned.refs
  headed_told made ds h = record {
    made_is = λ q. told_too (λ (j : Ref) a. a.made ≡ made q) m.refs me y (λ j f i. sym (ap (λ k. (m.refs k).made) f) ∙ i) q (h.made_is q);
    delivered_is = λ q. told_too (λ (j : Ref) a. a.delivered ≡ deliveries_of q ds) m.refs me y (λ j f i. sym (ap (λ k. (m.refs k).delivered) f) ∙ i) q (h.delivered_is q);
  }

  -- A head that is changed twice.
  pub twice : (a : Point) → happens (put_ref m me (record (m.refs me) { head = a })) (Rename me (point v g to)) ≡ turned
  twice a =
      let b : routing.Reference routes = record (m.refs me) { head = a } in
      let here : changed routes.same_ref m.refs me b me ≡ b = changed_here routes.same_ref m.refs me b in
      ap (λ k. record m { refs = changed routes.same_ref (changed routes.same_ref m.refs me b) me (record k { head = point v g to }) }) here
      ∙ ap (λ f. record m { refs = f }) (fun_ext (λ j. by (routes.same_ref j me) j b))
    where
      by : {A : Type 0} (c : Dec A) (j : Ref) (b : routing.Reference routes) → choose c y (choose c b (m.refs j)) ≡ choose c y (m.refs j)
      by (yes f) j b = refl
      by (no f) j b = refl

pub switches : (w : Around) (d : Progress) (g : Ghosts) (m : routing.State routes) (r : ℕ) (x : Reference) (k to : Node) → Tied w d g m → map.get d.state.refs r ≡ Some x → x.embargo ≡ None
    → (m.refs (ref_at w.vat r)).dead ≡ false → (m.refs (ref_at w.vat r)).head ≡ point w.vat g.own x.head → IsSettledTo w.vat g.own m.net x.head k
    → vat_of (point w.vat g.own k) ≡ other_vat w.vat → vat_of (point w.vat g.own to) ≡ other_vat w.vat → m.net.stop (point w.vat g.own to) ≡ m.net.stop (point w.vat g.own k)
    → Comes w (headed d r x to) m [] []
switches w d g m r x k to t e none alive head settles far_k far_to same = (
  g,
  turned v s g.own g.next m r x to e none alive,
  moves settles,
  record {
    own = headed_side v s g.own g.next m r x to e none alive t.own;
    theirs = begins_there v w.other g.theirs g.next m r (y v s g.own g.next m r x to e none alive) t.theirs;
    view = (let a = t.view in record { imports = a.imports; sessions = a.sessions; link = a.link });
    back = (let a = t.back in record { imports = a.imports; sessions = a.sessions; link = a.link });
    told = headed_told v s g.own g.next m r x to e none alive w.made _ t.told;
    unborn = t.unborn;
    unborn_back = t.unborn_back;
    known = t.known;
    known_there = t.known_there;
    goes = t.goes;
    comes = t.comes;
  },
)
  where
    v : Vat
    v = w.vat

    s : State
    s = d.state

    me : Ref
    me = ref_at v r

    free : ((m.refs me).known ≡ true) × ((m.refs me).embargo ≡ None)
    free = is_free v s g.own g.next m r x to e none alive t.own

    homes : end (vat_of (point v g.own to)) ≡ end (vat_of (point v g.own k))
    homes = ap end (far_to ∙ sym far_k)

    moves : IsSettledTo v g.own m.net x.head k → Moves (turned v s g.own g.next m r x to e none alive) [] m []
    moves (inl f) =
        let a : (m.refs me).head ≡ point v g.own k = head ∙ ap (point v g.own) f in
        Next (Happens (Rename me (point v g.own to)) (same ∙ ap m.net.stop (sym a), homes ∙ ap (λ z. end (vat_of z)) (sym a)) refl refl refl) Done
    moves (inr f) =
        let p = point v g.own k in
        let b : routing.Reference routes = record (m.refs me) { head = p } in
        let mid : routing.State routes = put_ref m me b in
        let here : mid.refs me ≡ b = changed_here routes.same_ref m.refs me b in
        let there : (mid.refs me).head ≡ p = ap (λ (z : routing.Reference routes). z.head) here in
        Next (Happens (Shorten me p) (free, ap (λ z. end (vat_of z)) head ∙ ap end f.0, (λ z. ends_differ v (ap end (sym far_k) ∙ z)), ap (λ z. m.net.kind (m.net.stop z)) head ∙ f.1) refl refl refl)
        (Next (Happens (Rename me (point v g.own to)) (same ∙ ap m.net.stop (sym there), homes ∙ ap (λ z. end (vat_of z)) (sym there)) refl (sym (twice v s g.own g.next m r x to e none alive p)) refl) Done)
