-- Where one more embargo has room, no advance lacks any.
use Rattle.std.proofs.Common.{◌≡◌, Bool, true, false, not, ◌&&◌, Option, None, Some, refl, ap, ◌∙◌}
use Rattle.rpc_msg.specs.declared.ids.EmbargoId.{EmbargoId}
use Rattle.rpc_msg.specs.declared.parts.Descriptor.{Descriptor}
use Rattle.rpc_msg.specs.declared.parts.Descriptor.TheVariants as descriptor
use Rattle.rpc_machine.specs.declared.node.Node.{Node}
use Rattle.rpc_machine.specs.declared.entries.Reference.{Reference}
use Rattle.rpc_machine.specs.State.{State}
use Rattle.rpc_machine.specs.Nodes.{settle, is_same_node}
use Rattle.rpc_machine.specs.Advancing.{Known, NothingYet, IsBroken, Leads, known_of_wire}
use Rattle.rpc_machine.specs.Fullness.{has_no_room, switch_lacks_room, advance_by, advance_through, advance_lacks_room}

and_false : (b : Bool) → (b && false) ≡ false
and_false true = refl
and_false false = refl

switch_has : (s : State) (said : Descriptor) → has_no_room s.embargoes ≡ false → switch_lacks_room s said ≡ false
switch_has s descriptor.None h = refl
switch_has s (descriptor.SenderHosted e) h = refl
switch_has s (descriptor.SenderPromise e) h = refl
switch_has s (descriptor.ReceiverHosted e) h = h
switch_has s (descriptor.ReceiverAnswer q path) h = h

knowing_has : (s : State) (w : Node) (known : Known) → has_no_room s.embargoes ≡ false → advance_by s w known ≡ false
knowing_has s w NothingYet h = refl
knowing_has s w (IsBroken reason) h = refl
knowing_has s w (Leads said n) h =
    let b = not (is_same_node (settle s n) w) in
    ap (λ (c : Bool). b && c) (switch_has s said h) ∙ and_false b

through_has : (s : State) (head : Node) (embargo : Option EmbargoId) → has_no_room s.embargoes ≡ false → advance_through s head embargo ≡ false
through_has s head (Some e) h = refl
through_has s head None h = knowing_has s (settle s head) (known_of_wire s (settle s head)) h

pub advance_has : (s : State) (found : Option Reference) → has_no_room s.embargoes ≡ false → advance_lacks_room s found ≡ false
advance_has s None h = refl
advance_has s (Some x) h = through_has s x.head x.embargo h
