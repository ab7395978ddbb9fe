-- The calls of a list are routed.
use Rattle.std.proofs.Common.{◌≡◌, ℕ, true, false, List, [], ◌∷◌, refl, sym, ap, subst, ◌∙◌}
use Rattle.rpc_msg.specs.declared.ids.Vat.{Vat}
use Rattle.rpc_journal.specs.History.{caller}
use Rattle.rpc_machine.specs.declared.node.Node.{Node}
use Rattle.rpc_machine.specs.declared.node.Node.TheVariants as node
use Rattle.rpc_machine.specs.declared.calls.WaitingCall.{WaitingCall}
use Rattle.rpc_machine.specs.Nodes.{settle, is_wire}
use Rattle.rpc_machine.specs.Progress.{Progress}
use Rattle.rpc_machine.specs.Routing.{RoutesAll}
use Rattle.rpc_machine.specs.Laws.{SettlesWhereItLeads}
use Rattle.rpc_machine.proofs.Settles.{settle_stops, settle_link}
use Rattle.laws_order.specs.Machine.{Message, Net, Call}
use Rattle.laws_order.specs.Machine as routing
use Rattle.laws_order.specs.Invariant.{InvariantWith}
use Rattle.laws_order.specs.Moves.{Done}
use Rattle.laws_order.proofs.Moves.{moves_keep}
use Rattle.laws_routes.specs.Points.{Point, routes}
use Rattle.laws_routes.specs.Ghosts.{Ghost, point}
use Rattle.laws_routes.specs.Sides.{EndsAs}
use Rattle.laws_routes.specs.Ties.{Around, Ghosts, Tied}
use Rattle.laws_routes.specs.Laws.{Follows, AreToGo, AllMayGo}
use Rattle.laws_routes.proofs.NewReferences.{goes_on}
use Rattle.laws_routes.proofs.WhereNodesEnd.{ends, moved}
use Rattle.laws_routes.proofs.CallRouted.{routed}

pub law : SettlesWhereItLeads
law = record { stops = settle_stops; follows = λ s d n m e h. settle_link s d n m e h }

-- A call that is yet to be routed is of a reference that was made.
pub first_known : (m : routing.State routes) (x : Message routes) (xs : List (Message routes)) → InvariantWith m (x ∷ xs) → (m.refs x.ref).known ≡ true
first_known m x xs h = let a = (h.of_each x.ref).on_the_way in let b = a.2 in let c = b.0 refl in c.0

-- The points of own nodes change with the identities of promises and outcomes alone.
pub same_own : (v : Vat) (g f : Ghost) (n : Node) → is_wire n ≡ false → f.promise ≡ g.promise → f.outcome ≡ g.outcome → point v f n ≡ point v g n
same_own v g f (node.Object o) w a b = refl
same_own v g f (node.Promise p) w a b = ap (λ (z : ℕ → ℕ). point v (record g { promise = z }) (node.Promise p)) a
same_own v g f (node.Field o path) w a b = ap (λ (z : ℕ → ℕ). point v (record g { outcome = z }) (node.Field o path)) b
same_own v g f (node.Import e) w a b = cc
same_own v g f (node.Pipe q path) w a b = cc
same_own v g f (node.Broken reason) w a b = refl

still_to_go : (n k : Net routes) (x : Point) (cs : List WaitingCall) (ms : List (Message routes)) → k.stop ≡ n.stop → AreToGo n x cs ms → AreToGo k x cs ms
still_to_go n k x [] [] e h = tt
still_to_go n k x [] (m ∷ ms) e h = absurd h
still_to_go n k x (c ∷ cs) [] e h = absurd h
still_to_go n k x (c ∷ cs) (m ∷ ms) e h =
    let a = h.0 in
    ((ap (λ f. f m.target) e ∙ (a.0 ∙ sym (ap (λ f. f x) e)), a.1, a.2), still_to_go n k x cs ms e h.1)

pub list_routed : (w : Around) (d : Progress) (g : Ghosts) (m : routing.State routes) (cs : List WaitingCall) (ms : List (Message routes)) (n : Node) (new : Progress) → Tied w d g m → InvariantWith m ms → is_wire n ≡ false
    → AreToGo m.net (point w.vat g.own n) cs ms → (h : RoutesAll d cs n new) → AllMayGo w d cs n new h → Follows w new g m ms []
list_routed w d g m [] [] n new t i own go h may = rw h (g, m, Done, t, (refl, refl, refl, refl))
list_routed w d g m [] (x ∷ xs) n new t i own go h may = absurd go
list_routed w d g m (c ∷ cs) [] n new t i own go h may = absurd go
list_routed w d g m (c ∷ cs) (x ∷ xs) n new t i own go h may =
    let v = w.vat in
    let here = go.0 in
    let a = may.0 in
    let side = t.own in
    let y : Message routes = record { target = x.target; ref = caller c.request.stamp; what = Call c.request.stamp.index } in
    let same : x ≡ y = ap (λ z. record { target = x.target; ref = z; what = x.what }) here.1 ∙ ap (λ z. record { target = x.target; ref = caller c.request.stamp; what = z }) here.2 in
    let at_end : EndsAs v g.own m.net x.target (settle d.state n) = moved v g.own m.net x.target (point v g.own n) (settle d.state n) here.0 (ends law v d.state g.own m.net side.stops a.rest n own a.there) in
    let known : (m.refs (caller c.request.stamp)).known ≡ true = first_known m y xs (subst (λ z. InvariantWith m (z ∷ xs)) same i) in
    subst (λ z. Follows w new g m (z ∷ xs) []) (sym same)
    (goes_on w h.0 new g m (y ∷ xs) xs [] (routed w d g m c x.target xs (settle d.state n) h.0 t known a.may at_end h.1)
    (λ f k moves tied steady.
    list_routed w h.0 f k cs xs n new tied (moves_keep k xs m (y ∷ xs) moves (subst (λ z. InvariantWith m (z ∷ xs)) same i)) own
    (subst (λ z. AreToGo k.net z cs xs) (sym (same_own v g.own f.own n own steady.2 steady.3)) (still_to_go m.net k.net (point v g.own n) cs xs steady.0 go.1)) h.2 may.1))
