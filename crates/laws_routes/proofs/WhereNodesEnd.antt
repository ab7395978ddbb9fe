-- A call that is routed to a point goes where its node settles.
use Rattle.std.proofs.Common.{◌≡◌, inl, inr, ℕ, zero, suc, false, None, refl, sym, ap, subst, ◌∙◌}
use Rattle.rpc_msg.specs.declared.ids.Vat.{Vat}
use Rattle.rpc_machine.specs.declared.node.Node.{Node}
use Rattle.rpc_machine.specs.declared.node.Node.TheVariants as node
use Rattle.rpc_machine.specs.State.{State}
use Rattle.rpc_machine.specs.Nodes.{link, settle, is_wire}
use Rattle.rpc_machine.specs.Laws as machine
use Rattle.rpc_machine.specs.Laws.{SettlesWhereItLeads}
pub use Rattle.rpc_machine.proofs.Settles.{settles_here}
use Rattle.laws_steps.specs.Settled.{IsThere}
use Rattle.laws_order.specs.Machine.{Kind, Net}
use Rattle.laws_order.specs.Machine as routing
use Rattle.laws_routes.specs.Points.{Point, routes}
use Rattle.laws_routes.specs.Ghosts.{Ghost, point, far}
use Rattle.laws_routes.specs.Sides.{IsFinal, SameEnd, IsLinked, LinkedTo, Stops, EndsAs}
use Rattle.laws_routes.specs.Premises.{LinksRest}

-- Where one point's calls go, those of a point with the same stop do.
pub moved : (v : Vat) (g : Ghost) (n : Net routes) (x y : Point) (z : Node) → n.stop x ≡ n.stop y → EndsAs v g n y z → EndsAs v g n x z
moved v g n x y (node.Object o) e h = (e ∙ h.0, ap n.kind e ∙ h.1)
moved v g n x y (node.Promise p) e h = (e ∙ h.0, ap n.kind e ∙ h.1)
moved v g n x y (node.Field o path) e h = (e ∙ h.0, ap n.kind e ∙ h.1)
moved v g n x y (node.Import i) e h = ap n.kind e ∙ h
moved v g n x y (node.Pipe q path) e h = ap n.kind e ∙ h
moved v g n x y (node.Broken reason) e h = ap n.kind e ∙ h

not_final : (K L : Kind routes) → K ≡ L → IsFinal K → (IsFinal L → ⊥) → ⊥
not_final K L e h f = f (subst IsFinal e h)

pub ends_same : (v : Vat) (g : Ghost) (n : Net routes) (x y : Point) (z : Node) → SameEnd n x y → EndsAs v g n y z → EndsAs v g n x z
ends_same v g n x y z (inl e) h = moved v g n x y z e h
ends_same v g n x y (node.Object o) (inr e) h = absurd (not_final (n.kind (n.stop y)) routing.Object h.1 e.1 (λ i. i))
ends_same v g n x y (node.Promise p) (inr e) h = absurd (not_final (n.kind (n.stop y)) routing.Open h.1 e.1 (λ i. i))
ends_same v g n x y (node.Field o path) (inr e) h = absurd (not_final (n.kind (n.stop y)) routing.Open h.1 e.1 (λ i. i))
ends_same v g n x y (node.Import i) (inr e) h = e.0 ∙ h
ends_same v g n x y (node.Pipe q path) (inr e) h = e.0 ∙ h
ends_same v g n x y (node.Broken reason) (inr e) h = e.0 ∙ h

here : (v : Vat) (g : Ghost) (n : Net routes) (m : Node) → is_wire m ≡ false → IsLinked v g n m None → EndsAs v g n (point v g m) m
here v g n (node.Object o) w h = (h.0, ap n.kind h.0 ∙ h.1)
here v g n (node.Promise p) w h = (h.0, ap n.kind h.0 ∙ h.1)
here v g n (node.Field o path) w h = (h.0, ap n.kind h.0 ∙ h.1)
here v g n (node.Import e) w h = cc
here v g n (node.Pipe q path) w h = cc
here v g n (node.Broken reason) w h = ap n.kind h.0 ∙ h.1

module _ (law : SettlesWhereItLeads) (v : Vat) (s : State) (g : Ghost) (n : Net routes) (stops : Stops v s g n) (rest : LinksRest s) where
  ends_in : (d : ℕ) (m : Node) → is_wire m ≡ false → IsThere s m → machine.Stops s d m → EndsAs v g n (point v g m) (settle s m)
  ends_in zero m w i h = subst (EndsAs v g n (point v g m)) (sym (settles_here s m h)) (here v g n m w (subst (IsLinked v g n m) h (stops m w i)))
  ends_in (suc d) m w i h =
      subst (EndsAs v g n (point v g m)) (sym (law.follows s d m h.0 h.1 h.2))
      (over h.0 (subst (IsLinked v g n m) h.1 (stops m w i)) (λ f. ends_in d h.0 f (rest.lead m h.0 i h.1) h.2))
    where
      wire : (k : Node) → link s k ≡ None → EndsAs v g n (point v g m) k → EndsAs v g n (point v g m) (settle s k)
      wire k e h = subst (EndsAs v g n (point v g m)) (sym (settles_here s k e)) h

      over : (k : Node) → LinkedTo n (point v g m) (point v g k) (far v g k) → (is_wire k ≡ false → EndsAs v g n (point v g k) (settle s k)) → EndsAs v g n (point v g m) (settle s k)
      over (node.Object o) h f = ends_same v g n _ _ (settle s (node.Object o)) h (f refl)
      over (node.Promise p) h f = ends_same v g n _ _ (settle s (node.Promise p)) h (f refl)
      over (node.Field o path) h f = ends_same v g n _ _ (settle s (node.Field o path)) h (f refl)
      over (node.Import e) h f = wire (node.Import e) refl h
      over (node.Pipe q path) h f = wire (node.Pipe q path) refl h
      over (node.Broken reason) h f = ends_same v g n _ _ (settle s (node.Broken reason)) h (f refl)

  -- Of an own node that is there.
  pub ends : (m : Node) → is_wire m ≡ false → IsThere s m → EndsAs v g n (point v g m) (settle s m)
  ends m w i = let h = rest.stop m i in ends_in h.0 m w i h.1
