-- A reference that was advanced, as it can be led back.
use Rattle.std.proofs.Common.{◌≡◌, inl, inr, ℕ, [], Option, None, Some, refl, sym, ap, subst, ◌∙◌}
use Rattle.std.specs.FinMap as map
use Rattle.rpc_msg.specs.declared.ids.EmbargoId.{EmbargoId}
use Rattle.rpc_msg.specs.declared.parts.Descriptor.{Descriptor}
use Rattle.rpc_msg.specs.declared.parts.Descriptor.TheVariants as descriptor
use Rattle.rpc_msg.specs.declared.parts.Target.{Target}
use Rattle.rpc_machine.specs.declared.node.Node.{Node}
use Rattle.rpc_machine.specs.declared.node.Node.TheVariants as node
use Rattle.rpc_machine.specs.declared.command.Granted.{Granted}
use Rattle.rpc_machine.specs.declared.entries.Reference.{Reference}
use Rattle.rpc_machine.specs.Nodes.{settle}
use Rattle.rpc_machine.specs.State.{State}
use Rattle.rpc_machine.specs.Progress.{Progress, begin}
use Rattle.rpc_machine.specs.Advancing.{Known, NothingYet, IsBroken, Leads, headed, known_of_wire, wire_target, Embargoes, AdvancesBy, AdvancesTo, AdvancesFrom, Advances}
use Rattle.core_steps.specs.Undoing.{WasLed, WasAdvancedFrom, WasAdvanced}

-- It may have been led elsewhere, and no outcome arose.
abbrev Turns : Progress → ℕ → Progress → Type 0
Turns d r new = WasLed d.state r new.state × (new.arisen ≡ d.arisen)

turned : (d : Progress) (r : ℕ) (x : Reference) (n : Node) (new : Progress) → x.embargo ≡ None → new ≡ headed d r x n → Turns d r new
turned d r x n new free is = (inr (inl (record x { head = n }, free, ap (λ (p : Progress). p.state) is)), ap (λ (p : Progress). p.arisen) is)

stayed : (d : Progress) (r : ℕ) (new : Progress) → new ≡ d → Turns d r new
stayed d r new is = (inl (ap (λ (p : Progress). p.state) is), ap (λ (p : Progress). p.arisen) is)

put_under : (d : Progress) (r : ℕ) (x : Reference) (o : Option Target) (n : Node) (g : Granted) (new : Progress) → Embargoes d r x o n g new → Turns d r new
put_under d r x None n g new h = absurd h
put_under d r x (Some target) n g new h =
    let k = h.1.0 in (
      inr (inr (record { head = n; embargo = Some (record { 0 = k }); made = x.made }, k, record { reference = record { 0 = r }; node = n; waiting = [] }, refl, h.1.1, refl, ap (λ (p : Progress). p.state) h.1.2)),
      ap (λ (p : Progress). p.arisen) h.1.2,
    )

by_said : (d : Progress) (r : ℕ) (x : Reference) (w : Node) (said : Descriptor) (n : Node) (g : Granted) (new : Progress) → x.embargo ≡ None → AdvancesBy d r x w said n g new → Turns d r new
by_said d r x w descriptor.None n g new free h = absurd h
by_said d r x w (descriptor.SenderHosted e) n g new free h = turned d r x n new free h.1
by_said d r x w (descriptor.SenderPromise e) n g new free h = turned d r x n new free h.1
by_said d r x w (descriptor.ReceiverHosted e) n g new free h = put_under d r x (wire_target w) n g new h
by_said d r x w (descriptor.ReceiverAnswer q path) n g new free h = put_under d r x (wire_target w) n g new h

by_known : (d : Progress) (r : ℕ) (x : Reference) (w : Node) (known : Known) (g : Granted) (new : Progress) → x.embargo ≡ None → AdvancesTo d r x w known g new → Turns d r new
by_known d r x w NothingYet g new free h = stayed d r new h.1
by_known d r x w (IsBroken reason) g new free h = turned d r x (node.Broken reason) new free h.1
by_known d r x w (Leads said n) g new free (inl h) = stayed d r new h.1.1
by_known d r x w (Leads said n) g new free (inr h) = by_said d r x w said n g new free h.1

from_embargo : (d : Progress) (r : ℕ) (x : Reference) (o : Option EmbargoId) (g : Granted) (new : Progress) → x.embargo ≡ o → AdvancesFrom d r x o g new
    → WasAdvancedFrom d.state r o new.state × (new.arisen ≡ d.arisen)
from_embargo d r x (Some e) g new is h = (ap (λ (p : Progress). p.state) h.1, ap (λ (p : Progress). p.arisen) h.1)
from_embargo d r x None g new is h = by_known d r x (settle d.state x.head) (known_of_wire d.state (settle d.state x.head)) g new is h

advanced_at : (d : Progress) (r : ℕ) (o : Option Reference) (g : Granted) (new : Progress) → map.get d.state.refs r ≡ o → Advances d r o g new
    → WasAdvanced d.state r o new.state × (new.arisen ≡ d.arisen)
advanced_at d r None g new there h = absurd h
advanced_at d r (Some x) g new there h =
    let turns = from_embargo d r x x.embargo g new refl h in
    ((there, turns.0), turns.1)

-- From a step that just began.
pub advanced : (s : State) (d : Progress) (r : ℕ) (g : Granted) (new : Progress) → d ≡ begin s → Advances d r (map.get d.state.refs r) g new
    → WasAdvanced s r (map.get s.refs r) new.state × (new.arisen ≡ [])
advanced s d r g new began h =
    let turns = advanced_at (begin s) r (map.get s.refs r) g new refl (subst (λ (p : Progress). Advances p r (map.get p.state.refs r) g new) began h) in
    turns

pub led : (s : State) (from : Option Reference) (d : Progress) (r : ℕ) (g : Granted) (new : Progress) (t : State) → d ≡ begin s → from ≡ map.get d.state.refs r → Advances d r (map.get d.state.refs r) g new → t ≡ new.state
    → WasAdvanced s r from t
led s from d r g new t began known acts left =
    subst (λ (x : State). WasAdvanced s r from x) (sym left)
    (subst (λ (o : Option Reference). WasAdvanced s r o new.state) (sym (known ∙ ap (λ (p : Progress). map.get p.state.refs r) began)) (advanced s d r g new began acts).0)
