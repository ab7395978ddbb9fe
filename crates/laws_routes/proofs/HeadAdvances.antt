-- A reference advances by what is known of the wire to which its head settles.
use Rattle.std.specs.FinMap as map
use Rattle.std.proofs.Common.{◌≡◌, ◌≢◌, ◌⊎◌, inl, inr, ℕ, Bool, nat_eq, true, false, List, [], ◌++◌, Option, None, Some, refl, sym, ap, subst, ◌∙◌}
use Rattle.finite_maps.proofs.Gets.{get-insert_same}
use Rattle.finite_maps.proofs.Tested.{apart, equal, get_other}
use Rattle.rpc_msg.specs.declared.ids.Vat.{Vat}
use Rattle.rpc_msg.specs.declared.ids.EmbargoId.{EmbargoId}
use Rattle.rpc_msg.specs.declared.parts.Descriptor.{Descriptor}
use Rattle.rpc_msg.specs.declared.parts.Descriptor.TheVariants as descriptor
use Rattle.rpc_msg.specs.declared.parts.Target.{Target}
use Rattle.rpc_msg.specs.declared.parts.Target.TheVariants.{ImportedCap, PromisedAnswer}
use Rattle.rpc_msg.specs.Vats.{other_vat}
use Rattle.rpc_journal.specs.History.{Ref, DeliveredAt}
use Rattle.rpc_machine.specs.declared.node.Node.{Node}
use Rattle.rpc_machine.specs.declared.node.Node.TheVariants as node
use Rattle.rpc_machine.specs.declared.node.Reason.{Reason}
use Rattle.rpc_machine.specs.declared.command.Granted.{Granted}
use Rattle.rpc_machine.specs.declared.entries.Reference.{Reference}
use Rattle.rpc_machine.specs.declared.entries.Embargo.{Embargo}
use Rattle.rpc_machine.specs.State.{State}
use Rattle.rpc_machine.specs.Nodes.{link, settle, is_wire}
use Rattle.rpc_machine.specs.Progress.{Progress}
use Rattle.rpc_machine.specs.Advancing.{Known, NothingYet, IsBroken, Leads, known_of_wire, wire_target, headed, Embargoes, AdvancesBy, AdvancesTo, AdvancesFrom, Advances}
use Rattle.laws_order.specs.Machine.{Net, changed, put_ref}
use Rattle.laws_order.specs.Machine as routing
use Rattle.laws_order.specs.Routes.{IsExit, Path, beyond}
use Rattle.laws_order.specs.Events.{Break}
use Rattle.laws_order.specs.Moves.{Done, Next, Happens}
use Rattle.laws_order.proofs.Choices.{changed_here, changed_other}
use Rattle.laws_routes.specs.Points.{Point, vat_of, routes}
use Rattle.laws_routes.specs.Ghosts.{Ghost, point, ref_at}
use Rattle.laws_routes.specs.Sides.{Side, EndsAs, HasHead, IsRef, IsEmbargo, HasEmbargo, IsEmbargoOf}
use Rattle.laws_routes.specs.Ties.{Around, Ghosts, Tied, Told, deliveries_of}
use Rattle.laws_routes.specs.Sayings.{IsKnown}
use Rattle.laws_routes.specs.Laws.{Comes, IsSettledTo}
use Rattle.laws_routes.specs.SayingLaws.{MayAdvance, MayAdvanceFrom}
use Rattle.laws_routes.proofs.Differing.{other_number}
use Rattle.laws_routes.proofs.NewReferences.{begins_there}
use Rattle.laws_routes.proofs.CallDelivered.{told_too}
use Rattle.laws_routes.proofs.WhereNodesEnd.{ends, settles_here}
use Rattle.laws_routes.proofs.CallsRouted.{law}
use Rattle.laws_routes.proofs.CallRouted.{own_vat}
use Rattle.laws_routes.proofs.CallMade.{target_reads}
use Rattle.laws_routes.proofs.HeadSwitched.{switches}
use Rattle.laws_routes.proofs.HeadTurned.{turns_back}
use Rattle.laws_routes.proofs.SayingsKept.{wire_known}

-- ---- It breaks

module _ (v : Vat) (s : State) (g : Ghost) (next : ℕ) (m : routing.State routes) (r : ℕ) (x : Reference) (reason : Reason) (h : Side v s g next m) (there : map.get s.refs r ≡ Some x) (none : x.embargo ≡ None) where
  abbrev me : Ref
  me = ref_at v r

  abbrev y : routing.Reference routes
  y = record (m.refs me) { dead = true }

  abbrev z : Reference
  z = record x { head = node.Broken reason }

  abbrev broke : routing.State routes
  broke = put_ref m me y

  pub mine : IsRef v g s.next_ref r (Some x) (m.refs me)
  mine = subst (λ o. IsRef v g s.next_ref r o (m.refs me)) there (h.refs r)

  at_ref : (q : ℕ) (b : Bool) → nat_eq q r ≡ b → IsRef v g s.next_ref q (map.get (map.insert s.refs r z) q) (changed routes.same_ref m.refs me y (ref_at v q))
  at_ref q true f =
      subst (λ (j : ℕ). IsRef v g s.next_ref j (map.get (map.insert s.refs r z) j) (changed routes.same_ref m.refs me y (ref_at v j))) (sym (equal q r f))
      (rw (get-insert_same s.refs r z) (rw (changed_here routes.same_ref m.refs me y) (mine.0, mine.1, mine.2, inl refl, mine.4)))
  at_ref q false f = rw (get_other s.refs r z q f) (rw (changed_other routes.same_ref m.refs me y (ref_at v q) (other_number v q r (apart q r f))) (h.refs q))

  embargo : (o : Option Embargo) → HasEmbargo v g m o → HasEmbargo v g broke o
  embargo None k = tt
  embargo (Some b) k =
      let other : ref_at v b.reference.0 ≡ me → ⊥ = λ f. (let a : None ≡ Some k.0 = sym (mine.4 none) ∙ (ap (λ q. (m.refs q).embargo) (sym f) ∙ k.1) in cc) in
      subst (IsEmbargo v g b) (sym (changed_other routes.same_ref m.refs me y (ref_at v b.reference.0) other)) k

  pub dead_side : Side v (record s { refs = map.insert s.refs r z }) g next broke
  dead_side = record {
    stops = h.stops;
    refs = λ q. at_ref q (nat_eq q r) refl;
    embargoes = λ k. embargo (map.get s.embargoes k) (h.embargoes k);
    no_other_embargoes = λ q. told_too (λ (j : Ref) a. (a.embargo ≡ None) ⊎ ((k : ℕ) × IsEmbargoOf q (map.get s.embargoes k))) m.refs me y
        (λ j f i. subst (λ (a : routing.Reference routes). (a.embargo ≡ None) ⊎ ((k : ℕ) × IsEmbargoOf q (map.get s.embargoes k))) (ap m.refs f) i) (ref_at v q) (h.no_other_embargoes q);
    lists = h.lists;
    ids = h.ids;
  }

  pub dead_told : (made : Ref → ℕ) (ds : List DeliveredAt) → Told made ds m.refs → Told made ds broke.refs
  dead_told made ds t = record {
    made_is = λ q. told_too (λ (j : Ref) a. a.made ≡ made q) m.refs me y (λ j f i. sym (ap (λ k. (m.refs k).made) f) ∙ i) q (t.made_is q);
    delivered_is = λ q. told_too (λ (j : Ref) a. a.delivered ≡ deliveries_of q ds) m.refs me y (λ j f i. sym (ap (λ k. (m.refs k).delivered) f) ∙ i) q (t.delivered_is q);
  }

-- From a node that is that wire, or exits to it, the route leads to the wire's stop.
to_stop : (v : Vat) (g : Ghost) (n : Net routes) (head k : Node) → IsSettledTo v g n head k → (steps : ℕ) × Path n steps (n.stop (point v g head)) (n.stop (point v g k))
to_stop v g n head k (inl e) = (0, ap (λ z. n.stop (point v g z)) e)
to_stop v g n head k (inr h) = (1, (subst IsExit (sym h.1) tt, ap (beyond n (n.stop (point v g head))) h.1))

pub breaks : (w : Around) (d : Progress) (g : Ghosts) (m : routing.State routes) (r : ℕ) (x : Reference) (k : Node) (reason : Reason) → Tied w d g m → map.get d.state.refs r ≡ Some x → x.embargo ≡ None
    → (m.refs (ref_at w.vat r)).head ≡ point w.vat g.own x.head → IsSettledTo w.vat g.own m.net x.head k → m.net.kind (m.net.stop (point w.vat g.own k)) ≡ routing.Broken
    → Comes w (headed d r x (node.Broken reason)) m [] []
breaks w d g m r x k reason t there none head settles broken =
    let v = w.vat in
    let s = d.state in
    let me = ref_at w.vat r in
    let after = put_ref m me (record (m.refs me) { dead = true }) in
    let mine_is = mine v s g.own g.next m r x reason t.own there none in
    let path = to_stop v g.own m.net x.head k settles in (
      g,
      after,
      Next (Happens (Break me (m.net.stop (point v g.own k)) path.0) ((mine_is.1, mine_is.4 none), subst (λ (p : Point). Path m.net path.0 (m.net.stop p) (m.net.stop (point v g.own k))) (sym head) path.1, broken) refl refl refl) Done,
      record {
        own = dead_side v s g.own g.next m r x reason t.own there none;
        theirs = begins_there v w.other g.theirs g.next m r (record (m.refs me) { dead = true }) t.theirs;
        view = (let a = t.view in record { imports = a.imports; sessions = a.sessions; link = a.link });
        back = (let a = t.back in record { imports = a.imports; sessions = a.sessions; link = a.link });
        told = dead_told v s g.own g.next m r x reason t.own there none w.made _ t.told;
        unborn = t.unborn;
        unborn_back = t.unborn_back;
        known = t.known;
        known_there = t.known_there;
        goes = t.goes;
        comes = t.comes;
      },
    )

-- ---- What the head says

-- What is known of something is of a wire.
of_wire : (s : State) (k : Node) → known_of_wire s k ≢ NothingYet → is_wire k ≡ true
of_wire s (node.Object o) h = absurd (h refl)
of_wire s (node.Promise p) h = absurd (h refl)
of_wire s (node.Field o path) h = absurd (h refl)
of_wire s (node.Import e) h = refl
of_wire s (node.Pipe q path) h = refl
of_wire s (node.Broken reason) h = absurd (h refl)

-- A head that leads to a wire is not broken.
alive : (v : Vat) (g : Ghost) (n : Node) (dead : Bool) (head : Point) → ((reason : Reason) → n ≡ node.Broken reason → ⊥) → HasHead v g n dead head → (dead ≡ false) × (head ≡ point v g n)
alive v g (node.Object o) dead head f h = h
alive v g (node.Promise p) dead head f h = h
alive v g (node.Field o path) dead head f h = h
alive v g (node.Import e) dead head f h = h
alive v g (node.Pipe q path) dead head f h = h
alive v g (node.Broken reason) dead head f h = absurd (f reason refl)

exits : (v : Vat) (g : Ghost) (n : Net routes) (x : Point) (k : Node) → is_wire k ≡ true → EndsAs v g n x k → n.kind (n.stop x) ≡ routing.Exit (point v g k)
exits v g n x (node.Object o) w h = cc
exits v g n x (node.Promise p) w h = cc
exits v g n x (node.Field o path) w h = cc
exits v g n x (node.Import e) w h = h
exits v g n x (node.Pipe q path) w h = h
exits v g n x (node.Broken reason) w h = cc

targeted : (k : Node) → is_wire k ≡ true → (target : Target) × (wire_target k ≡ Some target)
targeted (node.Object o) w = cc
targeted (node.Promise p) w = cc
targeted (node.Field o path) w = cc
targeted (node.Import e) w = (ImportedCap e, refl)
targeted (node.Pipe q path) w = (PromisedAnswer q path, refl)
targeted (node.Broken reason) w = cc

module _ (w : Around) (d : Progress) (g : Ghosts) (m : routing.State routes) (r : ℕ) (x : Reference) (t : Tied w d g m) (there : map.get d.state.refs r ≡ Some x) (none : x.embargo ≡ None) (may : MayAdvance w d x) where
  abbrev k : Node
  k = settle d.state x.head

  abbrev v : Vat
  v = w.vat

  is_ref : IsRef v g.own d.state.next_ref r (Some x) (m.refs (ref_at v r))
  is_ref = let own = t.own in subst (λ o. IsRef v g.own d.state.next_ref r o (m.refs (ref_at v r))) there (own.refs r)

  module _ (wire : is_wire k ≡ true) where
    not_broken : (reason : Reason) → x.head ≡ node.Broken reason → ⊥
    not_broken reason e = let a : is_wire (settle d.state (node.Broken reason)) ≡ true = subst (λ n. is_wire (settle d.state n) ≡ true) e wire in
        let b : is_wire (node.Broken reason) ≡ true = subst (λ n. is_wire n ≡ true) (settles_here d.state (node.Broken reason) refl) a in cc

    live : ((m.refs (ref_at v r)).dead ≡ false) × ((m.refs (ref_at v r)).head ≡ point v g.own x.head)
    live = alive v g.own x.head _ _ not_broken is_ref.3

    far : vat_of (point v g.own k) ≡ other_vat v
    far = let target = targeted k wire in
        let a = target_reads v (other_vat v) d.state g.own w.other g.theirs (w.out ++ d.effects.sends) m k target.0 t.view refl may.theirs may.wire target.1 in a.0

    own_head : is_wire x.head ≡ false → IsSettledTo v g.own m.net x.head k
    own_head e = let own = t.own in inr (own_vat v g.own x.head e, exits v g.own m.net (point v g.own x.head) k wire (ends law v d.state g.own m.net own.stops may.rest x.head e (may.there e)))

    settles : IsSettledTo v g.own m.net x.head k
    settles = by x.head refl
      where
        by : (n : Node) → x.head ≡ n → IsSettledTo v g.own m.net x.head k
        by (node.Object o) e = own_head (ap is_wire e)
        by (node.Promise p) e = own_head (ap is_wire e)
        by (node.Field o path) e = own_head (ap is_wire e)
        by (node.Import i) e = inl (sym (settles_here d.state x.head (ap (link d.state) e)))
        by (node.Pipe q path) e = inl (sym (settles_here d.state x.head (ap (link d.state) e)))
        by (node.Broken reason) e = own_head (ap is_wire e)

    switched : (n : Node) → (m.net.stop (point v g.own n) ≡ m.net.stop (point v g.own k)) × (vat_of (point v g.own n) ≡ vat_of (point v g.own k)) → Comes w (headed d r x n) m [] []
    switched n h = switches w d g m r x k n t there none live.0 live.1 settles far (h.1 ∙ far) h.0

    turned : (n : Node) (granted : Granted) (new : Progress) (o : Option Target) → wire_target k ≡ o → m.net.kind (m.net.stop (point v g.own k)) ≡ routing.Exit (point v g.own n) → Embargoes d r x o n granted new → Comes w new m [] []
    turned n granted new None e exit h = absurd h
    turned n granted new (Some target) e exit h =
        let a = h.1 in
        subst (λ z. Comes w z m [] []) (sym a.2) (turns_back w d g m r a.0 x k n target t there none live.0 live.1 settles e may.wire may.theirs a.1 (may.loop a.0 a.1) exit)

    by_kind : (said : Descriptor) (n : Node) (granted : Granted) (new : Progress) → IsKnown v g.own m.net (point v g.own k) (Leads said n) → AdvancesBy d r x k said n granted new → Comes w new m [] []
    by_kind descriptor.None n granted new h a = absurd a
    by_kind (descriptor.SenderHosted e) n granted new h a = subst (λ z. Comes w z m [] []) (sym a.1) (switched n h)
    by_kind (descriptor.SenderPromise e) n granted new h a = subst (λ z. Comes w z m [] []) (sym a.1) (switched n h)
    by_kind (descriptor.ReceiverHosted e) n granted new h a = turned n granted new (wire_target k) refl h a
    by_kind (descriptor.ReceiverAnswer q path) n granted new h a = turned n granted new (wire_target k) refl h a

  stays : (new : Progress) → new ≡ d → Comes w new m [] []
  stays new e = subst (λ z. Comes w z m [] []) (sym e) (g, m, Done, t)

  by_known : (known : Known) → known_of_wire d.state k ≡ known → IsKnown v g.own m.net (point v g.own k) known → (granted : Granted) (new : Progress) → AdvancesTo d r x k known granted new → Comes w new m [] []
  by_known NothingYet e h granted new a = stays new a.1
  by_known (IsBroken reason) e h granted new a =
      let wire = of_wire d.state k (λ f. (let b : IsBroken reason ≡ NothingYet = sym e ∙ f in cc)) in
      let l = live wire in
      subst (λ z. Comes w z m [] []) (sym a.1) (breaks w d g m r x k reason t there none l.1 (settles wire) h)
  by_known (Leads said n) e h granted new (inl a) = stays new a.1.1
  by_known (Leads said n) e h granted new (inr a) =
      by_kind (of_wire d.state k (λ f. (let b : Leads said n ≡ NothingYet = sym e ∙ f in cc))) said n granted new h a.1

  nothing_of_others : (n : Node) → is_wire n ≡ false → IsKnown v g.own m.net (point v g.own n) (known_of_wire d.state n)
  nothing_of_others (node.Object o) e = tt
  nothing_of_others (node.Promise p) e = tt
  nothing_of_others (node.Field o path) e = tt
  nothing_of_others (node.Import i) e = cc
  nothing_of_others (node.Pipe q path) e = cc
  nothing_of_others (node.Broken reason) e = tt

  known_here : (b : Bool) → is_wire k ≡ b → IsKnown v g.own m.net (point v g.own k) (known_of_wire d.state k)
  known_here true e = wire_known v d.state g.own m.net k (t.known may.level) e
  known_here false e = nothing_of_others k e

pub advances : (w : Around) (d : Progress) (g : Ghosts) (m : routing.State routes) (r : ℕ) (granted : Granted) (new : Progress) → Tied w d g m → MayAdvanceFrom w d (map.get d.state.refs r)
    → Advances d r (map.get d.state.refs r) granted new → Comes w new m [] []
advances w d g m r granted new t may h = by (map.get d.state.refs r) refl may h
  where
    go : (x : Reference) (o : Option EmbargoId) → x.embargo ≡ o → map.get d.state.refs r ≡ Some x → MayAdvance w d x → AdvancesFrom d r x o granted new → Comes w new m [] []
    go x (Some e) i there may h = subst (λ z. Comes w z m [] []) (sym h.1) (g, m, Done, t)
    go x None i there may h =
        by_known w d g m r x t there i may (known_of_wire d.state (settle d.state x.head)) refl (known_here w d g m r x t there i may (is_wire (settle d.state x.head)) refl) granted new h

    by : (o : Option Reference) → map.get d.state.refs r ≡ o → MayAdvanceFrom w d o → Advances d r o granted new → Comes w new m [] []
    by None e may h = absurd h
    by (Some x) e may h = go x x.embargo refl e may h
