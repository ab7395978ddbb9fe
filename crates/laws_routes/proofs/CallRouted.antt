-- One call is routed, by the node at which it stands.
use Rattle.std.specs.FinMap as map
use Rattle.std.proofs.Common.{◌≡◌, ℕ, true, false, List, ◌∷◌, ◌++◌, Option, None, Some, IsSome, refl, sym, ap, ◌∙◌}
use Rattle.rpc_msg.specs.declared.ids.Vat.{Vat}
use Rattle.rpc_msg.specs.declared.parts.Target.{Target}
use Rattle.rpc_msg.specs.declared.parts.Target.TheVariants.{ImportedCap, PromisedAnswer}
use Rattle.rpc_msg.specs.declared.message.Message as rpc
use Rattle.rpc_msg.specs.Paths.{fields}
use Rattle.rpc_msg.specs.Vats.{other_vat}
use Rattle.rpc_journal.specs.History.{caller}
use Rattle.rpc_machine.specs.declared.node.Node.{Node}
use Rattle.rpc_machine.specs.declared.node.Node.TheVariants as node
use Rattle.rpc_machine.specs.declared.calls.WaitingCall.{WaitingCall}
use Rattle.rpc_machine.specs.declared.calls.Value.{Value}
use Rattle.rpc_machine.specs.declared.entries.Role.TheVariants as role
use Rattle.rpc_machine.specs.declared.entries.Export.{Export}
use Rattle.rpc_machine.specs.declared.entries.Import.{Import}
use Rattle.rpc_machine.specs.declared.entries.Question.{Question}
use Rattle.rpc_machine.specs.State.{State}
use Rattle.rpc_machine.specs.Nodes.{is_wire, field_link, value_of}
use Rattle.rpc_machine.specs.Progress.{Progress}
use Rattle.rpc_machine.specs.Descriptors.{export_node}
use Rattle.rpc_machine.specs.Routing.{RoutedTo, Relays}
use Rattle.laws_order.specs.Machine.{Message, Call}
use Rattle.laws_order.specs.Machine as routing
use Rattle.laws_order.specs.Routing as route
use Rattle.laws_order.specs.Moves.{Done, Next, Routes}
use Rattle.laws_routes.specs.Points.{Point, AField, vat_of, routes}
use Rattle.laws_routes.specs.Ghosts.{Ghost, point}
use Rattle.laws_routes.specs.Sides.{EndsAs}
use Rattle.laws_routes.specs.Views.{View, IsImportOf, IsSession, past, sessions_at, target_point}
use Rattle.laws_routes.specs.Ties.{Around, Ghosts, Tied}
use Rattle.laws_routes.specs.Premises.{IsUnfinished, MayRoute, ExportsAreOwn}
use Rattle.laws_routes.specs.Laws.{Follows}
use Rattle.laws_routes.proofs.CallDelivered.{delivers}
use Rattle.laws_routes.proofs.CallWaits.{waits_for_promise, waits_for_field}
use Rattle.laws_routes.proofs.CallSent.{asks}

pub own_vat : (v : Vat) (g : Ghost) (n : Node) → is_wire n ≡ false → vat_of (point v g n) ≡ v
own_vat v g (node.Object o) h = refl
own_vat v g (node.Promise p) h = refl
own_vat v g (node.Field o path) h = refl
own_vat v g (node.Import e) h = cc
own_vat v g (node.Pipe q path) h = cc
own_vat v g (node.Broken reason) h = refl

-- Where a wire leads, and how the other vat reads its target.
pub wire_reads : (v u : Vat) (s : State) (g : Ghost) (t : State) (f : Ghost) (ms : List rpc.Message) (m : routing.State routes) (e : ℕ) → View v u s g t f ms m → ExportsAreOwn t → IsSome (map.get s.imports e)
    → (vat_of (g.import e) ≡ u) × (point u f (export_node (map.get t.exports e)) ≡ g.import e)
wire_reads v u s g t f ms m e h own i = by (map.get s.imports e) (map.get t.exports e) refl i (h.imports e)
  where
    by : (o : Option Import) (y : Option Export) → map.get t.exports e ≡ y → IsSome o → IsImportOf u f (g.import e) y o → (vat_of (g.import e) ≡ u) × (point u f (export_node (map.get t.exports e)) ≡ g.import e)
    by None y k j a = cc
    by (Some x) None k j a = absurd a
    by (Some x) (Some y) k j a = (ap vat_of a ∙ own_vat u f y.node (own e y k), ap (λ z. point u f (export_node z)) k ∙ sym a)

pub pipe_reads : (v u : Vat) (s : State) (g : Ghost) (t : State) (f : Ghost) (ms : List rpc.Message) (m : routing.State routes) (q : ℕ) → View v u s g t f ms m → IsUnfinished (map.get s.questions q)
    → past g (sessions_at f.outcome t.answers) ms q ≡ g.session q
pipe_reads v u s g t f ms m q h i = by (map.get s.questions q) i (h.sessions q)
  where
    by : (o : Option Question) → IsUnfinished o → IsSession (g.session q) (past g (sessions_at f.outcome t.answers) ms q) o → past g (sessions_at f.outcome t.answers) ms q ≡ g.session q
    by None j a = absurd j
    by (Some x) j a = a j

-- Over a wire the call goes on to the other vat.
relays : (w : Around) (d : Progress) (g : Ghosts) (m : routing.State routes) (c : WaitingCall) (target : Target) (to x : Point) (then : List (Message routes)) (n : Node) (new : Progress) → Tied w d g m
    → MayRoute d.state w.other (w.out ++ d.effects.sends) w.back n
    → vat_of to ≡ other_vat w.vat → target_point (other_vat w.vat) (w.other).exports g.theirs (past g.own (sessions_at g.theirs.outcome (w.other).answers) (w.out ++ d.effects.sends)) target ≡ to
    → m.net.kind (m.net.stop x) ≡ routing.Exit to → Relays d c target new
    → Follows w new g m (record { target = x; ref = caller c.request.stamp; what = Call c.request.stamp.index } ∷ then) then
relays w d g m c target to x then n new h may at reads k f =
    let i = c.request.stamp.index in
    let msg : Message routes = record { target = x; ref = caller c.request.stamp; what = Call i } in
    let a = asks w d g m f.0 (role.Relay c.outcome) target c.request to new h (may.asks f.0 f.1.0) may.links at reads f.1 in
    (a.0, record m { net = route.onto_link m.net (record { target = to; ref = caller c.request.stamp; what = Call i }) }, Next (Routes msg refl (sym (ap (route.route_by m msg i) k))) Done, a.1, (refl, refl, a.2.0, a.2.1))

-- One call goes on from a point, by where the node of that settles.
pub routed : (w : Around) (d : Progress) (g : Ghosts) (m : routing.State routes) (c : WaitingCall) (x : Point) (then : List (Message routes)) (n : Node) (new : Progress) → Tied w d g m
    → (m.refs (caller c.request.stamp)).known ≡ true → MayRoute d.state w.other (w.out ++ d.effects.sends) w.back n → EndsAs w.vat g.own m.net x n → RoutedTo d c n new
    → Follows w new g m (record { target = x; ref = caller c.request.stamp; what = Call c.request.stamp.index } ∷ then) then
routed w d g m c x then (node.Object o) new h kn may e f = rw f (delivers w d g m c o x then h kn e.0 e.1)
routed w d g m c x then (node.Promise p) new h kn may e f = waits_for_promise w d g m c p x then (map.get d.state.promises p) new h e.0 e.1 refl f
routed w d g m c x then (node.Field o path) new h kn may e f =
    waits_for_field w d g m c o path x then (map.get d.state.outcomes o) new h e.0 e.1 refl (no_value (value_of (map.get d.state.outcomes o)) may.stops) f
  where
    no_value : (z : Option Value) → field_link path z ≡ None → z ≡ None
    no_value None i = refl
    no_value (Some z) i = cc
routed w d g m c x then (node.Import k) new h kn may e f =
    let r = wire_reads w.vat (other_vat w.vat) d.state g.own w.other g.theirs (w.out ++ d.effects.sends) m k.0 h.view may.theirs may.wire in
    relays w d g m c (ImportedCap k) (g.own.import k.0) x then (node.Import k) new h may r.0 r.1 e f
routed w d g m c x then (node.Pipe q path) new h kn may e f =
    let wire = may.wire in
    let r = pipe_reads w.vat (other_vat w.vat) d.state g.own w.other g.theirs (w.out ++ d.effects.sends) m q.0 h.view wire.0 in
    relays w d g m c (PromisedAnswer q path) (AField (other_vat w.vat) (g.own.session q.0) path) x then (node.Pipe q path) new h may refl
    (ap (λ (z : ℕ). AField (other_vat w.vat) z (fields path)) r ∙ ap (AField (other_vat w.vat) (g.own.session q.0)) wire.1) e f
routed w d g m c x then (node.Broken reason) new h kn may e f =
    let i = c.request.stamp.index in
    let msg : Message routes = record { target = x; ref = caller c.request.stamp; what = Call i } in
    rw f (g, m, Next (Routes msg refl (sym (ap (route.route_by m msg i) e))) Done, h, (refl, refl, refl, refl))
