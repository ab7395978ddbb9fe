-- The descriptor of where a node settles says what is so.
use Rattle.std.specs.FinMap as map
use Rattle.std.proofs.Common.{◌≡◌, ℕ, ◌+◌, ◌++◌, false, Option, None, Some, refl, sym, ap, ap₂, subst, ◌∙◌}
use Rattle.finite_maps.proofs.Gets.{get-insert_same}
use Rattle.rpc_msg.specs.declared.parts.Descriptor.{Descriptor}
use Rattle.rpc_msg.specs.Vats.{other_vat}
use Rattle.rpc_machine.specs.declared.node.Node.{Node}
use Rattle.rpc_machine.specs.declared.node.Node.TheVariants as node
use Rattle.rpc_machine.specs.declared.entries.Export.{Export}
use Rattle.rpc_machine.specs.State.{State}
use Rattle.rpc_machine.specs.Nodes.{is_wire}
use Rattle.rpc_machine.specs.Progress.{Progress}
use Rattle.rpc_machine.specs.Descriptors.{ExportedAs, Described, export_node}
use Rattle.laws_order.specs.Machine.{Net}
use Rattle.laws_order.specs.Machine as routing
use Rattle.laws_routes.specs.Points.{Point, AField, vat_of, routes}
use Rattle.laws_routes.specs.Ghosts.{point}
use Rattle.laws_routes.specs.Sides.{EndsAs, IsLinked}
use Rattle.laws_routes.specs.Ties.{Around, Ghosts, Tied}
use Rattle.laws_routes.specs.Sayings.{IsSaid, bare}
use Rattle.laws_routes.specs.SayingLaws.{MaySay, will_read}
use Rattle.laws_routes.proofs.CallRouted.{own_vat, pipe_reads, wire_reads}

-- The node that went out is the export's.
goes_as : (s : State) (n : Node) (e : ℕ) (o : Option Export) (new : State) → ExportedAs s n e o new → export_node (map.get new.exports e) ≡ n
goes_as s n e None new h = ap (λ (z : State). export_node (map.get z.exports e)) h.1 ∙ ap export_node (get-insert_same s.exports e (record { node = n; count = 1 }))
goes_as s n e (Some x) new h = ap (λ (z : State). export_node (map.get z.exports e)) h.1 ∙ ap export_node (get-insert_same s.exports e (record { node = n; count = x.count + 1 }))

module _ (w : Around) (d : Progress) (g : Ghosts) (m : routing.State routes) (t : Tied w d g m) (x : Point) (at : vat_of x ≡ w.vat) where
  abbrev n : Net routes
  n = m.net

  -- A node of the vat's own that stops at itself, and the point does too.
  own_stop : (k : Node) (new : State) (e : ℕ) → is_wire k ≡ false → MaySay w d.state k → n.stop x ≡ point w.vat g.own k → ExportedAs d.state k e (map.get (d.state).exports e) new
      → (n.stop (point w.vat g.own (export_node (map.get new.exports e))) ≡ n.stop x) × (vat_of (point w.vat g.own (export_node (map.get new.exports e))) ≡ vat_of x)
  own_stop k new e own may ends out =
      let side = t.own in
      let here : IsLinked w.vat g.own n k None = subst (IsLinked w.vat g.own n k) may.stops (side.stops k own may.there) in
      subst (λ (z : Node). (n.stop (point w.vat g.own z) ≡ n.stop x) × (vat_of (point w.vat g.own z) ≡ vat_of x)) (sym (goes_as d.state k e (map.get (d.state).exports e) new out))
      (here.0 ∙ sym ends, own_vat w.vat g.own k own ∙ sym at)

  says : (k : Node) (said : Descriptor) (new : State) → EndsAs w.vat g.own n x k → MaySay w d.state k → Described d.state k said new → IsSaid (bare n) x said (will_read w new (w.out ++ d.effects.sends) g said)
  says (node.Object o) said new ends may h =
      subst (λ (c : Descriptor). IsSaid (bare n) x c (will_read w new (w.out ++ d.effects.sends) g c)) (sym h.1) (own_stop (node.Object o) new h.0 refl may ends.0 h.2)
  says (node.Promise p) said new ends may h =
      subst (λ (c : Descriptor). IsSaid (bare n) x c (will_read w new (w.out ++ d.effects.sends) g c)) (sym h.1) (own_stop (node.Promise p) new h.0 refl may ends.0 h.2)
  says (node.Field o path) said new ends may h =
      subst (λ (c : Descriptor). IsSaid (bare n) x c (will_read w new (w.out ++ d.effects.sends) g c)) (sym h.1) (own_stop (node.Field o path) new h.0 refl may ends.0 h.2)
  says (node.Import e) said new ends may h =
      let r = wire_reads w.vat (other_vat w.vat) d.state g.own w.other g.theirs (w.out ++ d.effects.sends) m e.0 t.view may.theirs may.wire in
      subst (λ (c : Descriptor). IsSaid (bare n) x c (will_read w new (w.out ++ d.effects.sends) g c)) (sym h.0) (ends ∙ ap routing.Exit (sym r.1))
  says (node.Pipe q path) said new ends may h =
      let wire = may.wire in
      let r = pipe_reads w.vat (other_vat w.vat) d.state g.own w.other g.theirs (w.out ++ d.effects.sends) m q.0 t.view wire.0 in
      subst (λ (c : Descriptor). IsSaid (bare n) x c (will_read w new (w.out ++ d.effects.sends) g c)) (sym h.0)
      (ends ∙ ap routing.Exit (sym (ap₂ (λ a b. AField (other_vat w.vat) a b) r wire.1)))
  says (node.Broken reason) said new ends may h = subst (λ (c : Descriptor). IsSaid (bare n) x c (will_read w new (w.out ++ d.effects.sends) g c)) (sym h.0) ends

pub says_so : (w : Around) (d : Progress) (g : Ghosts) (m : routing.State routes) (x : Point) (k : Node) (said : Descriptor) (new : State) → Tied w d g m → vat_of x ≡ w.vat → EndsAs w.vat g.own m.net x k
    → MaySay w d.state k → Described d.state k said new → IsSaid (bare m.net) x said (will_read w new (w.out ++ d.effects.sends) g said)
says_so w d g m x k said new t at ends may h = says w d g m t x at k said new ends may h
