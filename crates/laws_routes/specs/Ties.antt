-- The relation of two vats, in the middle of a step of one of them, to a state of the machine of routes.
use Rattle.std.specs.Prelude.{◌≡◌, ℕ, List, [], ◌∷◌, ◌++◌}
use Rattle.rpc_msg.specs.declared.ids.Vat.{Vat}
use Rattle.rpc_msg.specs.declared.message.Message.{Message}
use Rattle.rpc_msg.specs.Vats.{other_vat}
use Rattle.rpc_journal.specs.declared.report.Delivery.{Delivery}
use Rattle.rpc_journal.specs.History.{Ref, DeliveredAt, caller}
use Rattle.rpc_machine.specs.State.{State}
use Rattle.rpc_machine.specs.Progress.{Progress}
use Rattle.laws_order.specs.Machine.{choose}
use Rattle.laws_order.specs.Machine as routing
use Rattle.laws_routes.specs.Points.{AnObject, routes}
use Rattle.laws_routes.specs.Ghosts.{Ghost}
use Rattle.laws_routes.specs.Sides.{Side, Unborn}
use Rattle.laws_routes.specs.Views.{View, unborn_ids}
use Rattle.laws_routes.specs.Sayings.{KnownAt, SaidOn}

-- ---- 6. What the history tells

abbrev pub delivery_of : DeliveredAt → routing.Delivery routes
delivery_of d = record { index = d.delivery.stamp.index; object = AnObject d.vat d.delivery.object.0 }

-- The deliveries of a reference among these.
abbrev pub deliveries_of : Ref → List DeliveredAt → List (routing.Delivery routes)
deliveries_of r [] = []
deliveries_of r (d ∷ ds) = choose (routes.same_ref (caller d.delivery.stamp) r) (delivery_of d ∷ deliveries_of r ds) (deliveries_of r ds)

abbrev pub all_at : Vat → List Delivery → List DeliveredAt
all_at v [] = []
all_at v (d ∷ ds) = record { vat = v; delivery = d } ∷ all_at v ds

-- What was made through each reference, and delivered.
pub record Told (made : Ref → ℕ) (delivered : List DeliveredAt) (refs : Ref → routing.Reference routes) : Type 0 where
  pub made_is : (r : Ref) → (refs r).made ≡ made r
  pub delivered_is : (r : Ref) → (refs r).delivered ≡ deliveries_of r delivered

-- ---- All

-- What stays as it is while the vat v takes a step: the other vat, what was on its way to that before, what is on its way
-- back, and the history before.
pub record Around : Type 0 where
  pub vat : Vat
  pub other : State
  pub out : List Message
  pub back : List Message
  pub made : Ref → ℕ
  pub delivered : List DeliveredAt

-- The ghosts of the two vats, and the next identity.
pub record Ghosts : Type 0 where
  pub own : Ghost
  pub theirs : Ghost
  pub next : ℕ

-- Of the state of the vat, what it has sent in this step, and what it has delivered. While it takes descriptors, coming are
-- the ids that they name.
pub record TiedBy (w : Around) (coming : List ℕ) (s : State) (sends : List Message) (deliveries : List Delivery) (g : Ghosts) (m : routing.State routes) : Type 0 where
  pub own : Side w.vat s g.own g.next m
  pub theirs : Side (other_vat w.vat) w.other g.theirs g.next m
  pub view : View w.vat (other_vat w.vat) s g.own w.other g.theirs (w.out ++ sends) m
  pub back : View (other_vat w.vat) w.vat w.other g.theirs s g.own w.back m
  pub told : Told w.made (w.delivered ++ all_at w.vat deliveries) m.refs
  -- what will be made of what is on the way there, and on the way back
  pub unborn : Unborn (other_vat w.vat) w.other.outcomes g.theirs.outcome m.net.stop m.net.kind m.net.waiting g.next (unborn_ids g.own.session (w.out ++ sends))
  pub unborn_back : Unborn w.vat s.outcomes g.own.outcome m.net.stop m.net.kind m.net.waiting g.next (unborn_ids g.theirs.session w.back)
  -- what is known of wires is so, and so is what is said of them on the way there, and on the way back
  pub known : KnownAt w.vat s g.own m.net
  pub known_there : KnownAt (other_vat w.vat) w.other g.theirs m.net
  pub goes : SaidOn m.net w.vat s g.own (other_vat w.vat) w.other g.theirs [] (w.out ++ sends)
  pub comes : SaidOn m.net (other_vat w.vat) w.other g.theirs w.vat s g.own coming w.back

abbrev pub Tied : Around → Progress → Ghosts → routing.State routes → Type 0
Tied w d g m = TiedBy w [] d.state d.effects.sends d.effects.deliveries g m
