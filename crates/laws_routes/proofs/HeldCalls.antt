-- The calls that waited for an outcome are routed, each to its own field.
use Rattle.std.proofs.Common.{◌≡◌, ℕ, true, List, [], ◌∷◌, refl, sym, ap, subst, ◌∙◌}
use Rattle.rpc_msg.specs.declared.ids.Vat.{Vat}
use Rattle.rpc_journal.specs.History.{caller}
use Rattle.rpc_machine.specs.declared.node.Node.TheVariants as node
use Rattle.rpc_machine.specs.declared.calls.HeldCall.{HeldCall}
use Rattle.rpc_machine.specs.Nodes.{settle}
use Rattle.rpc_machine.specs.Progress.{Progress}
use Rattle.rpc_machine.specs.Routing.{RoutesHeld}
use Rattle.laws_order.specs.Machine.{Message, Net, Call}
use Rattle.laws_order.specs.Machine as routing
use Rattle.laws_order.specs.Invariant.{InvariantWith}
use Rattle.laws_order.specs.Moves.{Done}
use Rattle.laws_order.proofs.Moves.{moves_keep}
use Rattle.laws_routes.specs.Points.{AField, routes}
use Rattle.laws_routes.specs.Sides.{EndsAs}
use Rattle.laws_routes.specs.Ties.{Around, Ghosts, Tied}
use Rattle.laws_routes.specs.Laws.{Follows}
use Rattle.laws_routes.specs.OutcomeLaws.{AreHeldToGo, AllHeldMayGo}
use Rattle.laws_routes.proofs.NewReferences.{goes_on}
use Rattle.laws_routes.proofs.WhereNodesEnd.{ends, moved}
use Rattle.laws_routes.proofs.CallsRouted.{law, first_known}
use Rattle.laws_routes.proofs.CallRouted.{routed}

-- Where no stop has changed, and not the identity.
pub still_held : (n k : Net routes) (v : Vat) (i j : ℕ) (hs : List HeldCall) (ms : List (Message routes)) → k.stop ≡ n.stop → j ≡ i → AreHeldToGo n v i hs ms → AreHeldToGo k v j hs ms
still_held n k v i j hs ms e f h = subst (λ (z : ℕ). AreHeldToGo k v z hs ms) (sym f) (go hs ms h)
  where
    go : (hs : List HeldCall) (ms : List (Message routes)) → AreHeldToGo n v i hs ms → AreHeldToGo k v i hs ms
    go [] [] h = tt
    go [] (m ∷ ms) h = absurd h
    go (c ∷ cs) [] h = absurd h
    go (c ∷ cs) (m ∷ ms) h =
        let a = h.0 in
        ((ap (λ z. z m.target) e ∙ (a.0 ∙ sym (ap (λ z. z (AField v i c.path)) e)), a.1, a.2), go cs ms h.1)

pub held_routed : (w : Around) (d : Progress) (g : Ghosts) (m : routing.State routes) (o : ℕ) (hs : List HeldCall) (ms : List (Message routes)) (new : Progress) → Tied w d g m → InvariantWith m ms
    → AreHeldToGo m.net w.vat (g.own.outcome o) hs ms → (r : RoutesHeld d o hs new) → AllHeldMayGo w d o hs new r → Follows w new g m ms []
held_routed w d g m o [] [] new t i go r may = rw r (g, m, Done, t, (refl, refl, refl, refl))
held_routed w d g m o [] (x ∷ xs) new t i go r may = absurd go
held_routed w d g m o (h ∷ hs) [] new t i go r may = absurd go
held_routed w d g m o (h ∷ hs) (x ∷ xs) new t i go r may =
    let v = w.vat in
    let n = node.Field o h.path in
    let here = go.0 in
    let a = may.0 in
    let side = t.own in
    let c = h.call in
    let y : Message routes = record { target = x.target; ref = caller c.request.stamp; what = Call c.request.stamp.index } in
    let same : x ≡ y = ap (λ z. record { target = x.target; ref = z; what = x.what }) here.1 ∙ ap (λ z. record { target = x.target; ref = caller c.request.stamp; what = z }) here.2 in
    let at_end : EndsAs v g.own m.net x.target (settle d.state n) = moved v g.own m.net x.target (AField v (g.own.outcome o) h.path) (settle d.state n) here.0 (ends law v d.state g.own m.net side.stops a.rest n refl a.there) in
    let made : (m.refs (caller c.request.stamp)).known ≡ true = first_known m y xs (subst (λ z. InvariantWith m (z ∷ xs)) same i) in
    subst (λ z. Follows w new g m (z ∷ xs) []) (sym same)
    (goes_on w r.0 new g m (y ∷ xs) xs [] (routed w d g m c x.target xs (settle d.state n) r.0 t made a.may at_end r.1)
    (λ f k moves tied steady.
    held_routed w r.0 f k o hs xs new tied (moves_keep k xs m (y ∷ xs) moves (subst (λ z. InvariantWith m (z ∷ xs)) same i))
    (still_held m.net k.net v (g.own.outcome o) (f.own.outcome o) hs xs steady.0 (ap (λ z. z o) steady.3) go.1) r.2 may.1))
