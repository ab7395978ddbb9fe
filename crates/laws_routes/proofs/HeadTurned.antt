-- A reference turns back, under an embargo.
use mathlib.Core.Path.{fun_ext}
use Rattle.std.specs.FinMap as map
use Rattle.std.proofs.Common.{◌≡◌, ◌⊎◌, inl, inr, ℕ, Bool, nat_eq, true, false, List, [], ◌∷◌, ◌++◌, append_assoc, Option, None, Some, refl, sym, ap, ap₂, subst, ◌∙◌}
use Rattle.finite_maps.specs.Tally.{Map}
use Rattle.finite_maps.proofs.Gets.{get-insert_same}
use Rattle.finite_maps.proofs.Tested.{apart, at_put, equal, get_other}
use Rattle.rpc_msg.specs.declared.ids.Vat.{Vat}
use Rattle.rpc_msg.specs.declared.parts.Target.{Target}
use Rattle.rpc_msg.specs.declared.message.DisembargoContext.TheVariants.{SenderLoopback}
use Rattle.rpc_msg.specs.declared.message.PlainMessage.TheVariants as plain
use Rattle.rpc_msg.specs.declared.message.Message as rpc
use Rattle.rpc_msg.specs.declared.message.Message.TheVariants as message
use Rattle.rpc_msg.specs.Vats.{other_vat}
use Rattle.rpc_journal.specs.History.{Ref, DeliveredAt}
use Rattle.rpc_machine.specs.declared.node.Node.{Node}
use Rattle.rpc_machine.specs.declared.entries.Reference.{Reference}
use Rattle.rpc_machine.specs.declared.entries.Embargo.{Embargo}
use Rattle.rpc_machine.specs.State.{State}
use Rattle.rpc_machine.specs.Progress.{Progress}
use Rattle.rpc_machine.specs.Advancing.{wire_target}
use Rattle.laws_order.specs.Machine.{Message, Disembargo, changed, choose, put_ref, same_vat}
use Rattle.laws_order.specs.Machine as routing
use Rattle.laws_order.specs.Routing as route
use Rattle.laws_order.specs.Events.{happens, Shorten, Turn_back}
use Rattle.laws_order.specs.Moves.{Moves, Done, Next, Happens}
use Rattle.laws_order.proofs.Choices.{by_choice, changed_here, changed_other}
use Rattle.laws_routes.specs.Points.{Point, vat_of, end, routes}
use Rattle.laws_routes.specs.Ghosts.{Ghost, point, ref_at}
use Rattle.laws_routes.specs.Sides.{Side, IsRef, IsEmbargo, HasEmbargo, IsEmbargoOf, Unborn}
use Rattle.laws_routes.specs.Views.{IsSession, past, reader, sessions_at, shapes, shapes_of, target_point, embargo_ref}
use Rattle.laws_routes.specs.Ties.{Around, Ghosts, Tied, Told, deliveries_of}
use Rattle.laws_routes.specs.Premises.{ExportsAreOwn, IsLastLoop, IsWireThere}
use Rattle.laws_routes.specs.Laws.{Comes, IsSettledTo, turning}
use Rattle.laws_routes.proofs.NewReferences.{alive_head, begins_there}
use Rattle.laws_routes.proofs.DisembargoBack.{relinked}
use Rattle.laws_routes.proofs.Differing.{ends_differ, other_number}
use Rattle.laws_routes.proofs.CallDelivered.{told_too}
use Rattle.laws_routes.proofs.LinkShapes.{loops_map, past_more, shapes_loops, shapes_more, shapes_of_more}
use Rattle.laws_routes.proofs.CallMade.{target_reads}
use Rattle.laws_routes.proofs.UnbornKept.{unborn_sent}
use Rattle.laws_routes.specs.Sayings.{AllSaid, Has, bare, has_of}
use Rattle.laws_routes.proofs.SayingsCarried.{said_is_sent}

module _ (v : Vat) (s : State) (g : Ghost) (next : ℕ) (m : routing.State routes) (r e : ℕ) (x : Reference) (n : Node) (old : Point) (h : Side v s g next m) (there : map.get s.refs r ≡ Some x) (none : x.embargo ≡ None) (alive : (m.refs (ref_at v r)).dead ≡ false) (free : map.get s.embargoes e ≡ None) where
  abbrev me : Ref
  me = ref_at v r

  abbrev y : routing.Reference routes
  y = record (m.refs me) { head = point v g n; embargo = Some (record { old_head = old; calls = [] }) }

  abbrev z : Reference
  z = record { head = n; embargo = Some (record { 0 = e }); made = x.made }

  abbrev b : Embargo
  b = record { reference = record { 0 = r }; node = n; waiting = [] }

  abbrev refs : Ref → routing.Reference routes
  refs = changed routes.same_ref m.refs me y

  pub mine : IsRef v g s.next_ref r (Some x) (m.refs me)
  mine = subst (λ o. IsRef v g s.next_ref r o (m.refs me)) there (h.refs r)

  at_ref : (q : ℕ) (c : Bool) → nat_eq q r ≡ c → IsRef v g s.next_ref q (map.get (map.insert s.refs r z) q) (refs (ref_at v q))
  at_ref q true f =
      subst (λ (j : ℕ). IsRef v g s.next_ref j (map.get (map.insert s.refs r z) j) (refs (ref_at v j))) (sym (equal q r f))
      (rw (get-insert_same s.refs r z) (rw (changed_here routes.same_ref m.refs me y) (mine.0, mine.1, mine.2, alive_head v g n _ alive, (λ i. (let a : z.embargo ≡ None = i in cc)))))
  at_ref q false f = rw (get_other s.refs r z q f) (rw (changed_other routes.same_ref m.refs me y (ref_at v q) (other_number v q r (apart q r f))) (h.refs q))

  embargoes : (k : ℕ) → HasEmbargo v g (put_ref m me y) (map.get (map.insert s.embargoes e b) k)
  embargoes = at_put (λ k o. HasEmbargo v g (put_ref m me y) o) s.embargoes e b (rw (changed_here routes.same_ref m.refs me y) (record { old_head = old; calls = [] }, refl, tt, mine.1, alive, refl)) (λ k c. one (map.get s.embargoes k) (h.embargoes k))
    where
      one : (o : Option Embargo) → HasEmbargo v g m o → HasEmbargo v g (put_ref m me y) o
      one None i = tt
      one (Some c) i =
          let other : ref_at v c.reference.0 ≡ me → ⊥ = λ f. (let a : None ≡ Some i.0 = sym (mine.4 none) ∙ (ap (λ q. (m.refs q).embargo) (sym f) ∙ i.1) in cc) in
          subst (IsEmbargo v g c) (sym (changed_other routes.same_ref m.refs me y (ref_at v c.reference.0) other)) i

  none_other : (q : ℕ) → ((refs (ref_at v q)).embargo ≡ None) ⊎ ((k : ℕ) × IsEmbargoOf q (map.get (map.insert s.embargoes e b) k))
  none_other q = by_choice (λ (a : routing.Reference routes). (a.embargo ≡ None) ⊎ ((k : ℕ) × IsEmbargoOf q (map.get (map.insert s.embargoes e b) k))) (routes.same_ref (ref_at v q) me) y (m.refs (ref_at v q))
      (λ f. inr (e, subst (IsEmbargoOf q) (sym (get-insert_same s.embargoes e b)) (sym (ap (λ (j : Ref). j.number) f)))) (λ f. still (h.no_other_embargoes q))
    where
      still : ((m.refs (ref_at v q)).embargo ≡ None) ⊎ ((k : ℕ) × IsEmbargoOf q (map.get s.embargoes k)) → ((m.refs (ref_at v q)).embargo ≡ None) ⊎ ((k : ℕ) × IsEmbargoOf q (map.get (map.insert s.embargoes e b) k))
      still (inl i) = inl i
      still (inr i) = inr (i.0, at_put (λ k o. IsEmbargoOf q (map.get s.embargoes k) → IsEmbargoOf q o) s.embargoes e b (λ a. absurd (subst (IsEmbargoOf q) free a)) (λ k c a. a) i.0 i.1)

  pub turned_side : Side v (record s { refs = map.insert s.refs r z; embargoes = map.insert s.embargoes e b }) g next (put_ref m me y)
  turned_side = record { stops = h.stops; refs = λ q. at_ref q (nat_eq q r) refl; embargoes = embargoes; no_other_embargoes = none_other; lists = h.lists; ids = h.ids }

  pub turned_told : (made : Ref → ℕ) (ds : List DeliveredAt) → Told made ds m.refs → Told made ds refs
  turned_told made ds t = record {
    made_is = λ q. told_too (λ (j : Ref) a. a.made ≡ made q) m.refs me y (λ j f i. sym (ap (λ k. (m.refs k).made) f) ∙ i) q (t.made_is q);
    delivered_is = λ q. told_too (λ (j : Ref) a. a.delivered ≡ deliveries_of q ds) m.refs me y (λ j f i. sym (ap (λ k. (m.refs k).delivered) f) ∙ i) q (t.delivered_is q);
  }

pub turns_back : (w : Around) (d : Progress) (g : Ghosts) (m : routing.State routes) (r e : ℕ) (x : Reference) (k n : Node) (target : Target) → Tied w d g m → map.get d.state.refs r ≡ Some x → x.embargo ≡ None
    → (m.refs (ref_at w.vat r)).dead ≡ false → (m.refs (ref_at w.vat r)).head ≡ point w.vat g.own x.head → IsSettledTo w.vat g.own m.net x.head k
    → wire_target k ≡ Some target → IsWireThere d.state k → ExportsAreOwn w.other → map.get d.state.embargoes e ≡ None → IsLastLoop e (w.out ++ d.effects.sends) w.back
    → m.net.kind (m.net.stop (point w.vat g.own k)) ≡ routing.Exit (point w.vat g.own n) → Comes w (turning d r x e target n) m [] []
turns_back w d g m r e x k n target t there none alive head settles wire wire_there own free last exit =
    let view = t.view in
    let back = t.back in (
      g,
      after,
      moves settles,
      record {
        own = turned_side v s g.own g.next linked r e x n old (relinked v s g.own g.next m linked.net.links t.own) there none alive free;
        theirs = begins_there v w.other g.theirs g.next linked r new (relinked u w.other g.theirs g.next m linked.net.links t.theirs);
        view = record {
          imports = view.imports;
          sessions = subst (λ (z : ℕ → ℕ). (q : ℕ) → IsSession (g.own.session q) (z q) (map.get s.questions q)) (sym (ap (past g.own now) assoc ∙ past_more g.own now out sent)) view.sessions;
          link =
              ap (shapes v u g.own (reader (after_step).state w.other g.theirs) now) assoc
              ∙ (shapes_more v u g.own (reader (after_step).state w.other g.theirs) now out sent
              ∙ (ap₂ (λ a b. a ++ b ∷ [])
              (shapes_loops v u g.own (reader s w.other g.theirs) (w.other).embargoes put now out (loops_map _ _ _ _ out (λ i c. get_other s.embargoes e kept i c) (λ i c. refl) last.sent) ∙ view.link)
              (ap₂ (λ a b. record { target = Some a; ref = b; what = Disembargo }) reads.1 (ap (embargo_ref v) (get-insert_same s.embargoes e kept)))
              ∙ (sym (shapes_of_more (m.net.links (end u)) probe) ∙ ap shapes_of (sym out_link))));
        };
        back = record {
          imports = back.imports;
          sessions = back.sessions;
          link =
              shapes_loops u v g.theirs (reader w.other s g.own) put (w.other).embargoes (sessions_at g.own.outcome s.answers) w.back (loops_map _ _ _ _ w.back (λ i c. refl) (λ i c. get_other s.embargoes e kept i c) last.echoed)
              ∙ (back.link ∙ ap shapes_of (sym in_link));
        };
        told = turned_told v s g.own g.next linked r e x n old (relinked v s g.own g.next m linked.net.links t.own) there none alive free w.made _ t.told;
        unborn = subst (λ (ids : List ℕ). Unborn u (w.other).outcomes g.theirs.outcome m.net.stop m.net.kind m.net.waiting g.next ids) (sym (unborn_sent g.own.session w.out d.effects.sends sent refl)) t.unborn;
        unborn_back = t.unborn_back;
        known = t.known;
        known_there = t.known_there;
        goes = subst (AllSaid (bare m.net) v s.exports g.own u (w.other).exports g.theirs has now) (sym assoc) (said_is_sent (bare m.net) v s.exports g.own u (w.other).exports g.theirs has now out (plain.Disembargo (record { target = target; context = SenderLoopback (record { 0 = e }) })) t.goes tt);
        comes = t.comes;
      },
    )
  where
    v : Vat
    v = w.vat

    u : Vat
    u = other_vat w.vat

    s : State
    s = d.state

    me : Ref
    me = ref_at w.vat r

    old : Point
    old = point w.vat g.own k

    probe : Message routes
    probe = record { target = old; ref = me; what = Disembargo }

    linked : routing.State routes
    linked = record m { net = route.onto_link m.net probe }

    new : routing.Reference routes
    new = record (m.refs me) { head = point w.vat g.own n; embargo = Some (record { old_head = old; calls = [] }) }

    after : routing.State routes
    after = put_ref linked me new

    after_step : Progress
    after_step = turning d r x e target n

    kept : Embargo
    kept = record { reference = record { 0 = r }; node = n; waiting = [] }

    put : Map Embargo
    put = map.insert (d.state).embargoes e kept

    now : ℕ → ℕ
    now = sessions_at g.theirs.outcome (w.other).answers

    has : Has
    has = has_of [] (w.other).imports (w.other).questions

    out : List rpc.Message
    out = w.out ++ d.effects.sends

    sent : rpc.Message
    sent = message.Plain (plain.Disembargo (record { target = target; context = SenderLoopback (record { 0 = e }) }))

    assoc : w.out ++ (d.effects.sends ++ sent ∷ []) ≡ out ++ sent ∷ []
    assoc = sym (append_assoc w.out d.effects.sends (sent ∷ []))

    reads : (vat_of old ≡ u) × (target_point u (w.other).exports g.theirs (past g.own now out) target ≡ old)
    reads = target_reads v u s g.own w.other g.theirs out m k target t.view refl own wire_there wire

    out_link : after.net.links (end u) ≡ m.net.links (end u) ++ probe ∷ []
    out_link = ap (λ a. changed same_vat m.net.links (end a) (m.net.links (end a) ++ probe ∷ []) (end u)) reads.0 ∙ changed_here same_vat m.net.links (end u) (m.net.links (end u) ++ probe ∷ [])

    in_link : after.net.links (end v) ≡ m.net.links (end v)
    in_link = changed_other same_vat m.net.links (end (vat_of old)) (m.net.links (end (vat_of old)) ++ probe ∷ []) (end v) (λ z. ends_differ v (sym (z ∙ ap end reads.0)))

    free_ref : ((m.refs me).known ≡ true) × ((m.refs me).embargo ≡ None)
    free_ref =
        let a = mine v s g.own g.next m r e x n old t.own there none alive free in
        (a.1, a.4 none)

    away : (p : Point) → p ≡ old → end (vat_of p) ≡ end v → ⊥
    away p f z = ends_differ v (ap end (sym reads.0) ∙ (ap (λ a. end (vat_of a)) (sym f) ∙ z))

    twice : {A : Type 0} (c : Dec A) (j : Ref) (a : routing.Reference routes) → choose c new (choose c a (m.refs j)) ≡ choose c new (m.refs j)
    twice (yes f) j a = refl
    twice (no f) j a = refl

    moves : IsSettledTo v g.own m.net x.head k → Moves after [] m []
    moves (inl f) =
        let a : (m.refs me).head ≡ old = head ∙ ap (point v g.own) f in
        Next
        (Happens (Turn_back me (point v g.own n)) (free_ref, away (m.refs me).head a, ap (λ z. m.net.kind (m.net.stop z)) a ∙ exit) refl
        (sym (ap (λ z. put_ref (record m { net = route.onto_link m.net (record { target = z; ref = me; what = Disembargo }) }) me (record (m.refs me) { head = point v g.own n; embargo = Some (record { old_head = z; calls = [] }) })) a)) refl) Done
    moves (inr f) =
        let b : routing.Reference routes = record (m.refs me) { head = old } in
        let mid : routing.State routes = put_ref m me b in
        let here : mid.refs me ≡ b = changed_here routes.same_ref m.refs me b in
        let there_head : (mid.refs me).head ≡ old = ap (λ (z : routing.Reference routes). z.head) here in
        let same : happens mid (Turn_back me (point v g.own n)) ≡ after =
        ap (λ (z : routing.Reference routes). put_ref (record mid { net = route.onto_link m.net (record { target = z.head; ref = me; what = Disembargo }) }) me (record z { head = point v g.own n; embargo = Some (record { old_head = z.head; calls = [] }) })) here
        ∙ ap (λ a. record linked { refs = a }) (fun_ext (λ j. twice (routes.same_ref j me) j b)) in
        Next (Happens (Shorten me old) (free_ref, ap (λ z. end (vat_of z)) head ∙ ap end f.0, away old refl, ap (λ z. m.net.kind (m.net.stop z)) head ∙ f.1) refl refl refl)
        (Next
        (Happens (Turn_back me (point v g.own n)) ((ap (λ (z : routing.Reference routes). z.known) here ∙ free_ref.0, ap (λ (z : routing.Reference routes). z.embargo) here ∙ free_ref.1), away (mid.refs me).head there_head, ap (λ z. m.net.kind (m.net.stop z)) there_head ∙ exit) refl (sym same) refl) Done)
