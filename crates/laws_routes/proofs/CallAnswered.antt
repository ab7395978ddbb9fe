-- A Call is taken: its descriptors, its answer, and then it is routed.
use Rattle.std.specs.FinMap as map
use Rattle.std.proofs.Common.{◌≡◌, ℕ, nat_eq, true, false, List, [], ◌∷◌, ◌++◌, Option, None, Some, IsSome, refl, sym, ap, ap₂, subst, ◌∙◌, ◌||◌, Bool}
use Rattle.rpc_msg.specs.declared.ids.Vat.{Vat}
use Rattle.rpc_msg.specs.declared.parts.Target.{Target}
use Rattle.rpc_msg.specs.declared.parts.Target.TheVariants.{ImportedCap, PromisedAnswer}
use Rattle.rpc_msg.specs.declared.message.Call as calls
use Rattle.rpc_msg.specs.declared.message.PlainMessage.TheVariants as plain
use Rattle.rpc_msg.specs.declared.message.Message as rpc
use Rattle.rpc_msg.specs.declared.message.Message.TheVariants as message
use Rattle.rpc_msg.specs.Paths.{fields}
use Rattle.rpc_journal.specs.History.{caller}
use Rattle.rpc_machine.specs.declared.calls.WaitingCall.{WaitingCall}
use Rattle.rpc_machine.specs.declared.node.Node.{Node}
use Rattle.rpc_machine.specs.declared.entries.AnswerEntry.{AnswerEntry}
use Rattle.rpc_machine.specs.declared.entries.Export.{Export}
use Rattle.rpc_machine.specs.State.{State}
use Rattle.rpc_machine.specs.Nodes.{is_field, is_wire, settle}
use Rattle.rpc_machine.specs.Progress.{Progress, with_state}
use Rattle.rpc_machine.specs.Descriptors.{answer_node, export_node, take_all, taken_of}
use Rattle.rpc_machine.specs.Faults.{target_node}
use Rattle.rpc_machine.specs.Messages.{TakesCall, opened, received_request}
use Rattle.rpc_machine.specs.Routing.{Routes}
use Rattle.laws_order.specs.Machine.{Message, Call}
use Rattle.laws_order.specs.Machine as routing
use Rattle.laws_order.specs.Invariant.{InvariantWith}
use Rattle.laws_order.specs.Moves.{Moves}
use Rattle.laws_order.proofs.Moves.{moves_keep}
use Rattle.laws_routes.specs.Points.{Point, AField, routes}
use Rattle.laws_routes.specs.Ghosts.{Ghost, point, keeping}
use Rattle.laws_routes.specs.Sides.{EndsAs, Side}
use Rattle.laws_routes.specs.Views.{session_of, sessions_at, target_point}
use Rattle.laws_routes.specs.Ties.{Around, Ghosts, Tied, TiedBy}
use Rattle.laws_routes.specs.Premises.{ExportsAreOwn, MayGoTo, MayKeep}
use Rattle.laws_routes.specs.Laws.{Comes, with_back}
use Rattle.laws_routes.specs.TakingLaws.{IsAnswered, MayTakeCall}
use Rattle.laws_acts.proofs.Alone.{all_alone}
use Rattle.laws_routes.proofs.CallTaken.{comes}
use Rattle.laws_routes.proofs.CallRouted.{routed}
use Rattle.laws_routes.proofs.CallsRouted.{first_known, law}
use Rattle.laws_routes.proofs.ImportsTaken.{descriptors_taken}
use Rattle.laws_routes.proofs.NewReferences.{moves_on}
use Rattle.laws_routes.proofs.NewPoints.{keeping_point}
use Rattle.laws_routes.proofs.WhereNodesEnd.{ends}
use Rattle.laws_routes.specs.Sayings.{bare, has_behind, has_of, is_among}
use Rattle.laws_routes.specs.Views.{past_one}
use Rattle.laws_routes.proofs.SayingsCarried.{each_return, said_of_fewer}
use Rattle.rpc_msg.specs.Messages.{given}
use Rattle.std.specs.Prelude.{is_some}
use Rattle.rpc_msg.specs.Vats.{other_vat}

-- ---- The point of a target

module _ (v : Vat) (s : State) (g : Ghost) where
  pub target_is : (t : Target) → IsAnswered s t → point v g (target_node s t) ≡ target_point v s.exports g (sessions_at g.outcome s.answers) t
  target_is (ImportedCap e) h = refl
  target_is (PromisedAnswer q path) h = by (map.get s.answers q.0) h
    where
      by : (o : Option AnswerEntry) → IsSome o → point v g (answer_node path o) ≡ AField v (session_of g.outcome o) (fields path)
      by None k = cc
      by (Some a) k = refl

  -- It is of an own node.
  pub target_own : (t : Target) → ExportsAreOwn s → is_wire (target_node s t) ≡ false
  target_own (ImportedCap e) own = by (map.get s.exports e.0) (own e.0)
    where
      by : (o : Option Export) → ((x : Export) → o ≡ Some x → is_wire x.node ≡ false) → is_wire (export_node o) ≡ false
      by None h = refl
      by (Some x) h = h x refl
  target_own (PromisedAnswer q path) own = by (map.get s.answers q.0)
    where
      by : (o : Option AnswerEntry) → is_wire (answer_node path o) ≡ false
      by None = refl
      by (Some a) = refl

  -- And no field of an outcome that is still to come.
  pub target_old : (o : ℕ) (t : Target) → MayKeep s o → is_field o (target_node s t) ≡ false
  target_old o (ImportedCap e) may = by (map.get s.exports e.0) (may.exports e.0)
    where
      by : (z : Option Export) → ((x : Export) → z ≡ Some x → is_field o x.node ≡ false) → is_field o (export_node z) ≡ false
      by None h = refl
      by (Some x) h = h x refl
  target_old o (PromisedAnswer q path) may = by (map.get s.answers q.0) (may.answers q.0)
    where
      by : (z : Option AnswerEntry) → ((a : AnswerEntry) → z ≡ Some a → nat_eq a.outcome o ≡ false) → is_field o (answer_node path z) ≡ false
      by None h = refl
      by (Some a) h = h a refl

-- ---- The whole

-- With the imports as the descriptors leave them.
answered : (w : Around) (d : Progress) (g : Ghosts) (m : routing.State routes) (c : calls.Call) (o : ℕ) (ids : List ℕ) (q : WaitingCall) (rest : List rpc.Message) (new : Progress) → Tied (with_back w (message.Plain (plain.Call c) ∷ rest)) d g m → InvariantWith m []
    → map.get d.state.outcomes o ≡ None → MayKeep d.state o → IsAnswered d.state c.target → ExportsAreOwn d.state
    → MayGoTo (opened d.state c.question.0 o ids) w.other (w.out ++ d.effects.sends) rest (target_node d.state c.target) → q.request.stamp ≡ c.stamp
    → Routes (with_state d (opened d.state c.question.0 o ids)) q (target_node d.state c.target) new → Comes (with_back w rest) new m [] []
answered w d g m c o ids q rest new t i free may there own go st h =
    let v = w.vat in
    let s = d.state in
    let a = comes w d g m c o ids rest t free may in
    let n = a.0 in
    let y = a.1 in
    let is = a.2 in
    let d' = with_state d (opened s c.question.0 o ids) in
    let g' : Ghosts = record { own = keeping g.own o (g.theirs.session c.question.0); theirs = g.theirs; next = g.next } in
    let at_end = moves_keep n (y ∷ []) m [] a.3 i in
    let x : Point = y.target in
    let k = target_node s c.target in
    let at_point : point v g'.own k ≡ x = keeping_point v g.own o (g.theirs.session c.question.0) k (target_old v s g.own o c.target may) ∙ (target_is v s g.own c.target there ∙ sym is.0) in
    let side : Side v d'.state g'.own g'.next n = let z = a.4 in z.own in
    let ends_as : EndsAs v g'.own n.net x (settle d'.state k) = subst (λ (z : Point). EndsAs v g'.own n.net z (settle d'.state k)) at_point (ends law v d'.state g'.own n.net side.stops go.rest k (target_own v s g.own c.target own) go.there) in
    let same : y ≡ record { target = x; ref = caller q.request.stamp; what = Call q.request.stamp.index } =
    ap₂ (λ r z. record { target = x; ref = r; what = z }) is.1 is.2 ∙ ap (λ z. record { target = x; ref = caller z; what = Call z.index }) (sym st) in
    let known : (n.refs (caller q.request.stamp)).known ≡ true = first_known n (record { target = x; ref = caller q.request.stamp; what = Call q.request.stamp.index }) [] (subst (λ z. InvariantWith n (z ∷ [])) same at_end) in
    let b = routed (with_back w rest) d' g' n q x [] (settle d'.state k) new a.4 known go.may ends_as h in
    (b.0, b.1, moves_on b.1 [] n (y ∷ []) m [] (subst (λ z. Moves b.1 [] n (z ∷ [])) (sym same) b.2) a.3, b.3)

-- The descriptors of a Call are coming, while it is still on its way.
or_twice : (a b : Bool) → (a || (a || b)) ≡ true → (a || b) ≡ true
or_twice true b h = h
or_twice false b h = h

call_coming : (w : Around) (d : Progress) (g : Ghosts) (m : routing.State routes) (c : calls.Call) (rest : List rpc.Message) → Tied (with_back w (message.Plain (plain.Call c) ∷ rest)) d g m
    → TiedBy (with_back w (message.Plain (plain.Call c) ∷ rest)) (given c.descriptors) d.state d.effects.sends d.effects.deliveries g m
call_coming w d g m c rest t = record {
  own = t.own;
  theirs = t.theirs;
  view = t.view;
  back = t.back;
  told = t.told;
  unborn = t.unborn;
  unborn_back = t.unborn_back;
  known = t.known;
  known_there = t.known_there;
  goes = t.goes;
  comes = (
    tt,
    said_of_fewer (bare m.net) (other_vat w.vat) (w.other).exports g.theirs w.vat (d.state).exports g.own (has_behind (has_of [] (d.state).imports (d.state).questions) c.descriptors)
        (has_behind (has_of (given c.descriptors) (d.state).imports (d.state).questions) c.descriptors) (past_one g.theirs (sessions_at g.own.outcome (d.state).answers) (message.Plain (plain.Call c))) rest
        (λ e h. or_twice (is_among e (given c.descriptors)) (is_some (map.get (d.state).imports e)) h) (each_return _ rest (λ q h. h)) t.comes.1,
  );
}

pub call_taken : (w : Around) (d : Progress) (g : Ghosts) (m : routing.State routes) (c : calls.Call) (rest : List rpc.Message) (new : Progress) → Tied (with_back w (message.Plain (plain.Call c) ∷ rest)) d g m → InvariantWith m []
    → (h : TakesCall d c new) → MayTakeCall (with_back w rest) d c h.0 → Comes (with_back w rest) new m [] []
call_taken w d g m c rest new t i h may =
    let s = d.state in
    let o : ℕ = h.0 in
    let a = descriptors_taken (with_back w (message.Plain (plain.Call c) ∷ rest)) d g m c.descriptors (call_coming w d g m c rest t) may.own may.takes in
    let f = a.0 in
    let e = a.2 in
    let q : WaitingCall = record { request = received_request s c; outcome = o } in
    from (take_all s c.descriptors) (all_alone s c.descriptors) f a.1 o q refl h.1 may.keeps may.answered may.own may.goes h.2
  where
    from : (z : State) → z ≡ record (d.state) { imports = z.imports } → (f : Ghosts) → Tied (with_back w (message.Plain (plain.Call c) ∷ rest)) (with_state d z) f m → (o : ℕ) (q : WaitingCall) → q.request.stamp ≡ c.stamp
        → map.get d.state.outcomes o ≡ None → MayKeep z o → IsAnswered d.state c.target → ExportsAreOwn d.state
        → MayGoTo (opened z c.question.0 o (taken_of d.state c.descriptors)) w.other (w.out ++ d.effects.sends) rest (target_node d.state c.target)
        → Routes (with_state d (opened z c.question.0 o (taken_of d.state c.descriptors))) q (target_node d.state c.target) new → Comes (with_back w rest) new m [] []
    from z alone f t' o q st free keep there own go r =
        let y : State = record (d.state) { imports = z.imports } in
        answered w (with_state d y) f m c o (taken_of d.state c.descriptors) q rest new (subst (λ (k : State). Tied (with_back w (message.Plain (plain.Call c) ∷ rest)) (with_state d k) f m) alone t') i free
        (subst (λ (k : State). MayKeep k o) alone keep) (answered_still c.target there) own
        (subst (λ (x : Node). MayGoTo (opened y c.question.0 o ids) w.other (w.out ++ d.effects.sends) rest x) (sym (node_still c.target)) (subst (λ (k : State). MayGoTo (opened k c.question.0 o ids) w.other (w.out ++ d.effects.sends) rest (target_node d.state c.target)) alone go)) st
        (subst (λ (x : Node). Routes (with_state d (opened y c.question.0 o ids)) q x new) (sym (node_still c.target)) (subst (λ (k : State). Routes (with_state d (opened k c.question.0 o ids)) q (target_node d.state c.target) new) alone r))
      where
        ids : List ℕ
        ids = taken_of d.state c.descriptors

        answered_still : (k : Target) → IsAnswered d.state k → IsAnswered (record (d.state) { imports = z.imports }) k
        answered_still (ImportedCap e) h = h
        answered_still (PromisedAnswer p path) h = h

        node_still : (k : Target) → target_node (record (d.state) { imports = z.imports }) k ≡ target_node d.state k
        node_still (ImportedCap e) = refl
        node_still (PromisedAnswer p path) = refl
