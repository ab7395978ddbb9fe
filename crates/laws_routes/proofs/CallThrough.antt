-- A call is made, through any reference.
use Rattle.std.specs.FinMap as map
use Rattle.std.proofs.Common.{◌≡◌, inl, inr, ℕ, ◌+◌, Bool, true, false, [], ◌∷◌, ◌++◌, Option, None, Some, refl, sym, ap, ap₂, subst, ◌∙◌}
use Rattle.rpc_msg.specs.declared.ids.Vat.{Vat}
use Rattle.rpc_msg.specs.declared.ids.EmbargoId.{EmbargoId}
use Rattle.rpc_msg.specs.declared.parts.Target.{Target}
use Rattle.rpc_msg.specs.declared.parts.Target.TheVariants.{ImportedCap, PromisedAnswer}
use Rattle.rpc_msg.specs.Vats.{other_vat}
use Rattle.rpc_journal.specs.History.{caller}
use Rattle.rpc_machine.specs.declared.node.Node.{Node}
use Rattle.rpc_machine.specs.declared.node.Node.TheVariants as node
use Rattle.rpc_machine.specs.declared.calls.Request.{Request}
use Rattle.rpc_machine.specs.declared.calls.Caller.TheVariants as caller_of
use Rattle.rpc_machine.specs.declared.calls.OwnCall.TheVariants as own_call
use Rattle.rpc_machine.specs.declared.command.CallCommand.{CallCommand}
use Rattle.rpc_machine.specs.declared.command.Granted.{Granted}
use Rattle.rpc_machine.specs.declared.node.Reason.{Reason}
use Rattle.rpc_machine.specs.declared.entries.Role.TheVariants as role
use Rattle.rpc_machine.specs.declared.entries.Embargo.{Embargo}
use Rattle.rpc_machine.specs.declared.entries.Reference.{Reference}
use Rattle.rpc_machine.specs.State.{State}
use Rattle.rpc_machine.specs.Nodes.{settle, is_wire}
use Rattle.rpc_machine.specs.Progress.{Progress, with_state}
use Rattle.rpc_machine.specs.Commands.{counted, kept, with_outcome, request, CallsBy, CallsDirect, CallsHere, CallsThrough, MakesCall, WaitsForEmbargo}
use Rattle.rpc_machine.specs.Advancing.{wire_target}
use Rattle.rpc_machine.specs.Routing.{Routes, RoutedTo}
use Rattle.laws_order.specs.Machine.{Message, Call, Net, put_ref}
use Rattle.laws_order.specs.Machine as routing
use Rattle.laws_order.specs.Routing as route
use Rattle.laws_order.specs.Events.{Make, happens, make, one_more}
use Rattle.laws_order.specs.Invariant.{InvariantWith}
use Rattle.laws_order.specs.Moves.{Moves, Done, Next, Happens, Leaves, Routes as Routes_one}
use Rattle.laws_routes.specs.Points.{Point, vat_of, end, routes}
use Rattle.laws_routes.specs.Ghosts.{Ghost, point, ref_at, keeping}
use Rattle.laws_routes.specs.Sides.{EndsAs, HasHead, IsEmbargoOf}
use Rattle.laws_routes.specs.Ties.{Around, Ghosts, Tied}
use Rattle.laws_routes.specs.Premises.{MayGoTo, MayKeep, MayRoute}
use Rattle.laws_routes.specs.Laws.{Comes, made_from, one_made}
use Rattle.laws_routes.specs.MakingLaws.{EmbargoIsThere, MayCall}
use Rattle.laws_routes.proofs.CallDelivered.{set_rest}
use Rattle.laws_routes.proofs.CallEmbargoed.{call_embargoed}
use Rattle.laws_routes.proofs.CallMade.{call_far, call_here, counts, may_ask_still, mine, target_reads}
use Rattle.laws_routes.proofs.CallRouted.{own_vat}
use Rattle.laws_routes.proofs.CallSent.{asks}
use Rattle.laws_routes.proofs.CallsRouted.{law}
use Rattle.laws_routes.proofs.OutcomeKept.{keeps}
use Rattle.laws_routes.proofs.WhereNodesEnd.{ends, settles_here}

-- ---- From an own node that leads to a wire

pub wire_exit : (v : Vat) (g : Ghost) (n : Net routes) (x : Point) (k : Node) (target : Target) → EndsAs v g n x k → wire_target k ≡ Some target → n.kind (n.stop x) ≡ routing.Exit (point v g k)
wire_exit v g n x (node.Object o) target h e = cc
wire_exit v g n x (node.Promise p) target h e = cc
wire_exit v g n x (node.Field o path) target h e = cc
wire_exit v g n x (node.Import i) target h e = h
wire_exit v g n x (node.Pipe q path) target h e = h
wire_exit v g n x (node.Broken reason) target h e = cc

pub call_over : (w : Around) (d : Progress) (g : Ghosts) (m : routing.State routes) (r c : ℕ) (x : Reference) (q : Request) (k : Node) (target : Target) (new : Progress) → Tied w d g m → map.get d.state.refs r ≡ Some x → x.embargo ≡ None
    → is_wire x.head ≡ false → (m.refs (ref_at w.vat r)).head ≡ point w.vat g.own x.head → settle (counted d.state r x) x.head ≡ k → wire_target k ≡ Some target
    → caller q.stamp ≡ ref_at w.vat r → q.stamp.index ≡ x.made → MayGoTo (counted d.state r x) w.other (w.out ++ d.effects.sends) w.back x.head
    → CallsDirect (made_from d r x) c q target new → Comes (one_made w (ref_at w.vat r)) new m [] []
call_over w d g m r c x q k target new t e none own head to wire st ix go h =
    let v = w.vat in
    let u = other_vat v in
    let me = ref_at v r in
    let y = m.refs me in
    let a = mine w d g m r x t e in
    let w' = one_made w me in
    let m' : routing.State routes = put_ref m me (one_more y) in
    let d1 = made_from d r x in
    let s1 = d1.state in
    let calls = map.insert s1.calls c (own_call.Direct (record { 0 = h.0 })) in
    let d2 = with_state d1 (record s1 { calls = calls }) in
    let t1 = counts w d g m r x e t in
    let t2 : Tied w' d2 g m' = set_rest w' s1 d.effects.sends d.effects.deliveries g m' calls s1.tasks s1.unsettled s1.next_call s1.next_task s1.next_promise t1 in
    let may : MayRoute s1 w.other (w.out ++ d.effects.sends) w.back k = subst (λ (z : Node). MayRoute s1 w.other (w.out ++ d.effects.sends) w.back z) to go.may in
    let reads = target_reads v u s1 g.own w.other g.theirs (w.out ++ d.effects.sends) m' k target t1.view refl may.theirs may.wire wire in
    let side = t1.own in
    let ends_as : EndsAs v g.own m'.net y.head k = subst (λ (z : Point). EndsAs v g.own m'.net z k) (sym head) (subst (λ (z : Node). EndsAs v g.own m'.net (point v g.own x.head) z) to (ends law v s1 g.own m'.net side.stops go.rest x.head own go.there)) in
    let exit = wire_exit v g.own m'.net y.head k target ends_as wire in
    let f = h.1 in
    let b = asks w' d2 g m' h.0 (role.Direct (record { 0 = c })) target q (point v g.own k) new t2 (may_ask_still s1 calls (w.out ++ d.effects.sends) w.back h.0 (may.asks h.0 f.0)) may.links reads.0 reads.1 f in
    let msg : Message routes = record { target = y.head; ref = me; what = Call y.made } in
    let sent : Message routes = record { target = point v g.own k; ref = caller q.stamp; what = Call q.stamp.index } in
    let same : record { target = y.head; ref = caller q.stamp; what = Call q.stamp.index } ≡ msg = ap₂ (λ j i. record { target = y.head; ref = j; what = Call i }) st (ix ∙ sym a.2) in
    let from : Message routes = record { target = y.head; ref = caller q.stamp; what = Call q.stamp.index } in
    let goes : record m' { net = route.onto_link m'.net sent } ≡ route.route m' from = sym (ap (route.route_by m' from q.stamp.index) exit) in (
      b.0,
      record m' { net = route.onto_link m'.net sent },
      Next (Leaves me a.1 (a.4 none) (ap (λ z. end (vat_of z)) head ∙ ap end (own_vat v g.own x.head own)) refl refl refl)
          (subst (λ z. Moves (record m' { net = route.onto_link m'.net sent }) [] m' (z ∷ [])) same (Next (Routes_one from refl goes) Done)),
      b.1,
    )

-- ---- Through a dead reference

pub call_ends : (w : Around) (d : Progress) (g : Ghosts) (m : routing.State routes) (r c o : ℕ) (x : Reference) (q : Request) (reason : Reason) (new : Progress) → Tied w d g m → map.get d.state.refs r ≡ Some x → x.embargo ≡ None
    → (m.refs (ref_at w.vat r)).dead ≡ true → map.get d.state.outcomes o ≡ None → MayKeep (counted d.state r x) o
    → Routes (kept (made_from d r x) c o) (record { request = q; outcome = o }) (node.Broken reason) new → Comes (one_made w (ref_at w.vat r)) new m [] []
call_ends w d g m r c o x q reason new t e none dead free may h =
    let me = ref_at w.vat r in
    let y = m.refs me in
    let a = mine w d g m r x t e in
    let w' = one_made w me in
    let m' : routing.State routes = put_ref m me (one_more y) in
    let d1 = made_from d r x in
    let d2 = kept d1 c o in
    let g' : Ghosts = record { own = keeping g.own o g.next; theirs = g.theirs; next = g.next + 1 } in
    let t2 = keeps w' d1 g m' o (caller_of.Application (record { 0 = c })) (counts w d g m r x e t) free may in
    let s1 = d1.state in
    let u : State = with_outcome s1 o (caller_of.Application (record { 0 = c })) in
    let t3 : Tied w' d2 g' m' = set_rest w' u d.effects.sends d.effects.deliveries g' m' (map.insert s1.calls c (own_call.Kept o)) u.tasks u.unsettled u.next_call u.next_task u.next_promise t2 in
    let made : m' ≡ happens m (Make me) = sym (ap (λ z. make m me y z y.dead) (a.4 none) ∙ ap (make m me y None) dead) in
    let f : RoutedTo d2 (record { request = q; outcome = o }) (node.Broken reason) new = subst (λ (z : Node). RoutedTo d2 (record { request = q; outcome = o }) z new) (settles_here d2.state (node.Broken reason) refl) h in
    (g', m', Next (Happens (Make me) a.1 refl made refl) Done, rw f t3)

-- ---- Any

dead_head : (v : Vat) (g : Ghost) (n : Node) (dead : Bool) (head : Point) → dead ≡ true → HasHead v g n dead head → (reason : Reason) × (n ≡ node.Broken reason)
dead_head v g (node.Object o) dead head e h = let a : true ≡ false = sym e ∙ h.0 in cc
dead_head v g (node.Promise p) dead head e h = let a : true ≡ false = sym e ∙ h.0 in cc
dead_head v g (node.Field o path) dead head e h = let a : true ≡ false = sym e ∙ h.0 in cc
dead_head v g (node.Import i) dead head e h = let a : true ≡ false = sym e ∙ h.0 in cc
dead_head v g (node.Pipe q path) dead head e h = let a : true ≡ false = sym e ∙ h.0 in cc
dead_head v g (node.Broken reason) dead head e h = (reason, refl)

alive_is : (v : Vat) (g : Ghost) (n : Node) (dead : Bool) (head : Point) → dead ≡ false → HasHead v g n dead head → head ≡ point v g n
alive_is v g (node.Object o) dead head e h = h.1
alive_is v g (node.Promise p) dead head e h = h.1
alive_is v g (node.Field o path) dead head e h = h.1
alive_is v g (node.Import i) dead head e h = h.1
alive_is v g (node.Pipe q path) dead head e h = h.1
alive_is v g (node.Broken reason) dead head e (inl a) = let b : true ≡ false = sym a ∙ e in cc
alive_is v g (node.Broken reason) dead head e (inr a) = a

-- A wire settles to itself.
wire_stays : (s : State) (n : Node) → is_wire n ≡ true → settle s n ≡ n
wire_stays s (node.Object o) h = cc
wire_stays s (node.Promise p) h = cc
wire_stays s (node.Field o path) h = cc
wire_stays s (node.Import i) h = settles_here s (node.Import i) refl
wire_stays s (node.Pipe q path) h = settles_here s (node.Pipe q path) refl
wire_stays s (node.Broken reason) h = cc

own_before : (s : State) (n k : Node) → settle s n ≡ k → is_wire k ≡ false → (b : Bool) → is_wire n ≡ b → is_wire n ≡ false
own_before s n k e own false f = f
own_before s n k e own true f = let a : true ≡ false = sym f ∙ (ap is_wire (sym (wire_stays s n f) ∙ e) ∙ own) in cc

module _ (w : Around) (d : Progress) (g : Ghosts) (m : routing.State routes) (c : CallCommand) (x : Reference) (new : Progress) (t : Tied w d g m) (i : InvariantWith m []) (e : map.get d.state.refs c.reference.0 ≡ Some x)
    (may : MayCall w d c.reference.0 x) where
  abbrev r : ℕ
  r = c.reference.0

  abbrev call : ℕ
  call = d.state.next_call

  abbrev q : Request
  q = request d.state c x

  abbrev s1 : State
  s1 = counted d.state r x

  abbrev d1 : Progress
  d1 = made_from d r x

  abbrev Done_so : Type 0
  Done_so = Comes (one_made w (ref_at w.vat r)) new m [] []

  stamped : caller q.stamp ≡ ref_at w.vat r
  stamped = ap (λ (v : Vat). ref_at v r) may.vat

  module _ (none : x.embargo ≡ None) (dead : (m.refs (ref_at w.vat r)).dead ≡ false) (head : (m.refs (ref_at w.vat r)).head ≡ point w.vat g.own x.head) where
    here : (k : Node) → settle s1 x.head ≡ k → is_wire k ≡ false → CallsHere d1 call q x.head new → Done_so
    here k to own h =
        call_here w d g m r call h.0 x q new t i e none (own_before s1 x.head k to own (is_wire x.head) refl) dead head stamped refl h.1 (may.keeps h.0 h.1) (may.here h.0 h.1) h.2

    over : (k : Node) (target : Target) → settle s1 x.head ≡ k → wire_target k ≡ Some target → CallsDirect d1 call q target new → Done_so
    over k target to wire h = by (is_wire x.head) refl
      where
        go : MayGoTo s1 w.other (w.out ++ d.effects.sends) w.back x.head
        go = may.far

        by : (b : Bool) → is_wire x.head ≡ b → Done_so
        by false own = call_over w d g m r call x q k target new t e none own head to wire stamped refl go h
        by true far =
            let stays = wire_stays s1 x.head far in
            call_far w d g m r call x q target new t e none dead head (ap wire_target (sym stays ∙ to) ∙ wire) stamped refl (subst (λ (z : Node). MayRoute s1 w.other (w.out ++ d.effects.sends) w.back z) stays go.may) h

    by_node : (k : Node) → settle s1 x.head ≡ k → CallsBy d1 call q x.head k new → Done_so
    by_node (node.Object o) to h = here (node.Object o) to refl h
    by_node (node.Promise p) to h = here (node.Promise p) to refl h
    by_node (node.Field o path) to h = here (node.Field o path) to refl h
    by_node (node.Import k) to h = over (node.Import k) (ImportedCap k) to refl h
    by_node (node.Pipe k path) to h = over (node.Pipe k path) (PromisedAnswer k path) to refl h
    by_node (node.Broken reason) to h = here (node.Broken reason) to refl h

  direct : x.embargo ≡ None → CallsBy d1 call q x.head (settle s1 x.head) new → Done_so
  direct none h = by (m.refs (ref_at w.vat r)).dead refl
    where
      a : HasHead w.vat g.own x.head (m.refs (ref_at w.vat r)).dead (m.refs (ref_at w.vat r)).head
      a = let z = mine w d g m r x t e in z.3

      by : (b : Bool) → (m.refs (ref_at w.vat r)).dead ≡ b → Done_so
      by false f = by_node none f (alive_is w.vat g.own x.head _ _ f a) (settle s1 x.head) refl h
      by true f =
          let z = dead_head w.vat g.own x.head _ _ f a in
          let to : settle s1 x.head ≡ node.Broken z.0 = ap (settle s1) z.1 ∙ settles_here s1 (node.Broken z.0) refl in
          let k : CallsHere d1 call q x.head new = subst (λ (y : Node). CallsBy d1 call q x.head y new) to h in
          call_ends w d g m r call k.0 x q z.0 new t e none f k.1 (may.keeps k.0 k.1) (subst (λ (y : Node). Routes (kept d1 call k.0) (record { request = q; outcome = k.0 }) y new) z.1 k.2)

  through : (o : Option EmbargoId) → x.embargo ≡ o → EmbargoIsThere d.state r o → CallsThrough d1 call q x.head o new → Done_so
  through None none there h = direct none h
  through (Some b) is there h = by (map.get d.state.embargoes b.0) refl there.0 h.2
    where
      some : x.embargo ≡ None → ⊥
      some f = let a : Some b ≡ None = sym is ∙ f in cc

      by : (z : Option Embargo) → map.get d.state.embargoes b.0 ≡ z → IsEmbargoOf r z → WaitsForEmbargo (kept d1 call h.0) (record { request = q; outcome = h.0 }) b.0 z new → Done_so
      by None f of k = absurd of
      by (Some y) f of k = call_embargoed w d g m r call h.0 b.0 x y q new t e some f of there.1 stamped refl h.1 (may.keeps h.0 h.1) k

pub call_made : (w : Around) (d : Progress) (g : Ghosts) (m : routing.State routes) (c : CallCommand) (x : Reference) (granted : Granted) (new : Progress) → Tied w d g m → InvariantWith m [] → map.get d.state.refs c.reference.0 ≡ Some x
    → MayCall w d c.reference.0 x → MakesCall d c (Some x) granted new → Comes (one_made w (ref_at w.vat c.reference.0)) new m [] []
call_made w d g m c x granted new t i e may h = through w d g m c x new t i e may x.embargo refl may.embargo h.1
