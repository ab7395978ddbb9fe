-- Where nodes stand, so does what their descriptors name.
use Rattle.std.proofs.Common.{◌≡◌, ℕ, Bool, true, false, List, [], ◌∷◌, Option, None, Some, subst}
use Rattle.std.specs.FinMap as map
use Rattle.finite_maps.specs.Tally.{Map}
use Rattle.rpc_msg.specs.declared.parts.Descriptor.{Descriptor}
use Rattle.rpc_msg.specs.declared.parts.Descriptor.TheVariants as descriptor
use Rattle.rpc_msg.specs.declared.exception.Exception.{Exception}
use Rattle.rpc_msg.specs.declared.message.ReturnBody.{ReturnBody}
use Rattle.rpc_msg.specs.Messages.{descriptors_of_body, descriptors_of_resolved}
use Rattle.rpc_machine.specs.declared.calls.Value.{Value}
use Rattle.rpc_machine.specs.declared.calls.Value.TheVariants as value
use Rattle.rpc_machine.specs.declared.node.Node.{Node}
use Rattle.rpc_machine.specs.declared.node.Node.TheVariants as node
use Rattle.rpc_machine.specs.declared.entries.Export.{Export}
use Rattle.rpc_machine.specs.State.{State}
use Rattle.rpc_machine.specs.Nodes.{settle}
use Rattle.rpc_machine.specs.Progress.{Progress, caps_of}
use Rattle.rpc_machine.specs.Settling.{ResolvesBy, ResolvesTo, SaysBack}
use Rattle.laws_acts.specs.Sent.{resolved_to}
use Rattle.rpc_machine.specs.Descriptors.{ExportedAs, Described, DescribesAll}
use Rattle.laws_steps.specs.NodesThere.{Stands}
use Rattle.laws_messages.specs.Mentions.{AllStand, IsNamed, AreNamed}

abbrev put : State → Map Export → State
put s m = record s { exports = m }

still : (s : State) (m : Map Export) (n : Node) → Stands s n → Stands (put s m) n
still s m (node.Object o) h = h
still s m (node.Promise p) h = h
still s m (node.Field o path) h = h
still s m (node.Import e) h = h
still s m (node.Pipe q path) h = h
still s m (node.Broken reason) h = h

all_still : (s : State) (m : Map Export) (ns : List Node) → AllStand s ns → AllStand (put s m) ns
all_still s m [] h = tt
all_still s m (n ∷ ns) h = (still s m (settle s n) h.0, all_still s m ns h.1)

before : (s : State) (m : Map Export) (d : Descriptor) → IsNamed (put s m) d → IsNamed s d
before s m descriptor.None h = h
before s m (descriptor.SenderHosted e) h = h
before s m (descriptor.SenderPromise e) h = h
before s m (descriptor.ReceiverHosted e) h = h
before s m (descriptor.ReceiverAnswer q path) h = h

all_before : (s : State) (m : Map Export) (ds : List Descriptor) → AreNamed (put s m) ds → AreNamed s ds
all_before s m [] h = tt
all_before s m (d ∷ ds) h = (before s m d h.0, all_before s m ds h.1)

exported : (s : State) (n : Node) (e : ℕ) (o : Option Export) (new : State) → ExportedAs s n e o new → (m : Map Export) × (new ≡ put s m)
exported s n e None new h = (_, h.1)
exported s n e (Some x) new h = (_, h.1)

pub described : (s : State) (n : Node) (d : Descriptor) (new : State) → Described s n d new → Stands s n → IsNamed s d × ((m : Map Export) × (new ≡ put s m))
described s (node.Object o) d new h k = (rw h.1 tt, exported s (node.Object o) h.0 (map.get s.exports h.0) new h.2)
described s (node.Promise p) d new h k = (rw h.1 tt, exported s (node.Promise p) h.0 (map.get s.exports h.0) new h.2)
described s (node.Field o path) d new h k = (rw h.1 tt, exported s (node.Field o path) h.0 (map.get s.exports h.0) new h.2)
described s (node.Import e) d new h k = (rw h.0 k, (s.exports, h.1))
described s (node.Pipe q path) d new h k = (rw h.0 k, (s.exports, h.1))
described s (node.Broken reason) d new h k = (rw h.0 tt, (s.exports, h.1))

pub describes_all : (s : State) (ns : List Node) (ds : List Descriptor) (new : State) → AllStand s ns → DescribesAll s ns ds new → AreNamed s ds
describes_all s [] [] new k h = tt
describes_all s [] (d ∷ ds) new k h = absurd h
describes_all s (n ∷ ns) [] new k h = absurd h
describes_all s (n ∷ ns) (d ∷ ds) new k h =
    let a = described s (settle s n) d h.0 h.1 k.0 in
    let g = a.1 in
    let rest : DescribesAll (put s g.0) ns ds new = subst (λ (t : State). DescribesAll t ns ds new) g.1 h.2 in
    (a.0, all_before s g.0 ds (describes_all (put s g.0) ns ds new (all_still s g.0 ns k.1) rest))

pub named_back : (s : State) (b : Bool) (v : Value) (said : ReturnBody) (ds : List Descriptor) (new : State) → AllStand s (caps_of v) → SaysBack s b v said ds new → AreNamed s (descriptors_of_body said)
named_back s true v said ds new k h = rw h.0 tt
named_back s false (value.Exception x) said ds new k h = rw h.0 tt
named_back s false (value.Results payload caps) said ds new k h = rw h.0 (describes_all s caps ds new k h.1)

tells_one : (d new : Progress) (i : ℕ) (n : Node) → Stands d.state (settle d.state n) → (h : ResolvesTo d i n new) → IsNamed d.state h.0
tells_one d new i n k h = let a = described d.state (settle d.state n) h.0 h.1 h.2 k in a.0

pub resolved_named : (d new : Progress) (i : ℕ) (x : Option Exception) (n : Node) → Stands d.state (settle d.state n) → (h : ResolvesBy d i x n new) → AreNamed d.state (descriptors_of_resolved (resolved_to d new i x n h))
resolved_named d new i x (node.Object o) k h = (tells_one d new i (node.Object o) k h, tt)
resolved_named d new i x (node.Promise p) k h = (tells_one d new i (node.Promise p) k h, tt)
resolved_named d new i x (node.Field o path) k h = (tells_one d new i (node.Field o path) k h, tt)
resolved_named d new i x (node.Import j) k h = (tells_one d new i (node.Import j) k h, tt)
resolved_named d new i x (node.Pipe p path) k h = (tells_one d new i (node.Pipe p path) k h, tt)
resolved_named d new i x (node.Broken reason) k h = tt
