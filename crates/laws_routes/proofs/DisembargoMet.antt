-- A Disembargo that is to go back is aimed at a node that settles to a wire.
use Rattle.std.specs.FinMap as map
use Rattle.std.proofs.Common.{◌≡◌, true, List, [], ◌∷◌, Some, refl, sym, ap, subst}
use Rattle.rpc_msg.specs.declared.ids.Vat.{Vat}
use Rattle.rpc_msg.specs.declared.ids.EmbargoId.{EmbargoId}
use Rattle.rpc_msg.specs.declared.parts.Target.{Target}
use Rattle.rpc_msg.specs.declared.message.DisembargoContext.TheVariants.{SenderLoopback}
use Rattle.rpc_msg.specs.declared.message.PlainMessage.TheVariants as plain
use Rattle.rpc_msg.specs.declared.message.Message as rpc
use Rattle.rpc_msg.specs.declared.message.Message.TheVariants as message
use Rattle.rpc_msg.specs.Vats.{other_vat}
use Rattle.rpc_machine.specs.declared.node.Node.{Node}
use Rattle.rpc_machine.specs.declared.node.Node.TheVariants as node
use Rattle.rpc_machine.specs.Nodes.{is_wire, settle}
use Rattle.rpc_machine.specs.Progress.{Progress}
use Rattle.rpc_machine.specs.Faults.{target_node}
use Rattle.laws_order.specs.Machine.{Disembargo, Kind}
use Rattle.laws_order.specs.Machine as routing
use Rattle.laws_order.specs.Invariant.{InvariantWith}
use Rattle.laws_order.proofs.Events.{disembargo_meets}
use Rattle.laws_routes.specs.Points.{Point, end, routes}
use Rattle.laws_routes.specs.Ghosts.{Ghost}
use Rattle.laws_routes.specs.Sides.{EndsAs}
use Rattle.laws_routes.specs.Views.{Shape, embargo_ref, reader, sessions_at, shapes, target_point}
use Rattle.laws_routes.specs.Ties.{Around, Ghosts, Tied}
use Rattle.laws_routes.specs.Laws.{with_back}
use Rattle.laws_routes.specs.TakingLaws.{MayBounce}
use Rattle.laws_routes.proofs.CallAnswered.{target_is, target_own}
use Rattle.laws_routes.proofs.CallsRouted.{law}
use Rattle.laws_routes.proofs.DisembargoBack.{oldest, some_target}
use Rattle.laws_routes.proofs.WhereNodesEnd.{ends}

abbrev IsExit : Kind routes → Type 0
IsExit routing.Object = ⊥
IsExit routing.Open = ⊥
IsExit (routing.Exit to) = Unit {0}
IsExit routing.Broken = ⊥

-- What ends at an exit settles to a wire.
exits : (v : Vat) (g : Ghost) (n : routing.Net routes) (x : Point) (k : Node) → EndsAs v g n x k → IsExit (n.kind (n.stop x)) → is_wire k ≡ true
exits v g n x (node.Object o) h e = absurd (subst IsExit h.1 e)
exits v g n x (node.Promise p) h e = absurd (subst IsExit h.1 e)
exits v g n x (node.Field o path) h e = absurd (subst IsExit h.1 e)
exits v g n x (node.Import i) h e = refl
exits v g n x (node.Pipe q path) h e = refl
exits v g n x (node.Broken reason) h e = absurd (subst IsExit h e)

pub meets_wire : (w : Around) (d : Progress) (g : Ghosts) (m : routing.State routes) (x : EmbargoId) (target : Target) (rest : List rpc.Message)
    → Tied (with_back w (message.Plain (plain.Disembargo (record { target = target; context = SenderLoopback x })) ∷ rest)) d g m → InvariantWith m [] → MayBounce w d.state target
    → is_wire (settle d.state (target_node d.state target)) ≡ true
meets_wire w d g m x target rest t i may =
    let v = w.vat in
    let s = d.state in
    let now = sessions_at g.own.outcome s.answers in
    let back = t.back in
    let own = t.own in
    let goes = target_point v s.exports g.own now target in
    let o = oldest (m.net.links (end v)) (record { target = Some goes; ref = embargo_ref (other_vat v) (map.get (w.other).embargoes x.0); what = Disembargo }) (shapes (other_vat v) v g.theirs (reader w.other s g.own) now rest) back.link in
    let y = o.0 in
    let what : y.what ≡ Disembargo = ap (λ (z : Shape). z.what) o.3 in
    let to : y.target ≡ goes = some_target y goes what (ap (λ (z : Shape). z.target) o.3) in
    let met = disembargo_meets m (end v) y o.1 i o.2 what in
    let k = target_node s target in
    let is_exit : IsExit (m.net.kind (m.net.stop goes)) = subst (λ (z : Point). IsExit (m.net.kind (m.net.stop z))) to (subst IsExit (sym met.4) tt) in
    exits v g.own m.net goes (settle s k)
    (subst (λ (z : Point). EndsAs v g.own m.net z (settle s k)) (target_is v s g.own target may.answered) (ends law v s g.own m.net own.stops may.rest k (target_own v s g.own target may.own) may.there)) is_exit
