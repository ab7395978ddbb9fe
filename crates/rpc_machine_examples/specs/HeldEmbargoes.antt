-- What a step may do to embargoes (docs/protocol.md, "Shortening a path"; rpc.capnp, Disembargo).
use Rattle.std.specs.Prelude.{◌≡◌, ◌⊎◌, ℕ, Option, None, Some, List, [], ◌∷◌, ◌++◌}
use Rattle.std.specs.FinMap as map
use Rattle.rpc_msg.specs.declared.ids.EmbargoId.{EmbargoId}
use Rattle.rpc_msg.specs.declared.ids.RefId.{RefId}
use Rattle.rpc_msg.specs.declared.parts.Descriptor.{Descriptor}
use Rattle.rpc_msg.specs.declared.parts.Descriptor.TheVariants as descriptor
use Rattle.rpc_msg.specs.declared.message.Disembargo.{Disembargo}
use Rattle.rpc_msg.specs.declared.message.DisembargoContext.{DisembargoContext}
use Rattle.rpc_msg.specs.declared.message.DisembargoContext.TheVariants.{SenderLoopback, ReceiverLoopback}
use Rattle.rpc_msg.specs.declared.message.PlainMessage.TheVariants as plain
use Rattle.rpc_msg.specs.declared.message.Message.{Message}
use Rattle.rpc_msg.specs.declared.message.Message.TheVariants as message
use Rattle.rpc_journal.specs.declared.report.Advanced.TheVariants as advanced
use Rattle.rpc_machine.specs.declared.node.Node.{Node}
use Rattle.rpc_machine.specs.declared.command.Command.{Command}
use Rattle.rpc_machine.specs.declared.command.CallCommand.{CallCommand}
use Rattle.rpc_machine.specs.declared.command.Command.TheVariants as command
use Rattle.rpc_machine.specs.declared.command.Granted.{Granted}
use Rattle.rpc_machine.specs.declared.command.Granted.TheVariants as granted
use Rattle.rpc_machine.specs.declared.command.Effects.{Effects}
use Rattle.rpc_machine.specs.declared.calls.WaitingCall.{WaitingCall}
use Rattle.rpc_machine.specs.declared.entries.Reference.{Reference}
use Rattle.rpc_machine.specs.declared.entries.Embargo.{Embargo}
use Rattle.rpc_machine.specs.State.{State}
use Rattle.rpc_machine.specs.Nodes.{settle}
use Rattle.rpc_machine.specs.Advancing.{Leads, known_of_wire, wire_target}
use Rattle.rpc_machine.specs.Commands.{request}
use Rattle.rpc_machine.specs.Steps.{Does, Handles}
use Rattle.rpc_machine_examples.specs.SteadyPaths.{called}

-- ---- An embargo lasts until its Disembargo comes back

-- The embargo stands, with all calls that waited in it, in their order, before any new ones.
abbrev pub GoesOn : Option Embargo → Embargo → Type 0
GoesOn o b = (more : List WaitingCall) × (o ≡ Some (record b { waiting = b.waiting ++ more }))

abbrev pub IsLoopback : ℕ → DisembargoContext → Type 0
IsLoopback e (SenderLoopback x) = ⊥
IsLoopback e (ReceiverLoopback x) = x.0 ≡ e

-- The message is the Disembargo of that embargo, come back.
abbrev pub IsLift : ℕ → Message → Type 0
IsLift e (message.Plain (plain.Disembargo x)) = IsLoopback e x.context
IsLift e m = ⊥

-- While the vat stays up, no command ends an embargo, also none that drops its reference; and of the messages only its
-- own Disembargo does.
pub record EmbargoesHold : Type 0 where
  pub commands : (s : State) (c : Command) (answer : Granted) (effects : Effects) (new : State) → Does s c answer effects new → (e : ℕ) (b : Embargo) → map.get s.embargoes e ≡ Some b → GoesOn (map.get new.embargoes e) b
  pub messages : (s : State) (m : Message) (effects : Effects) (new : State) → Handles s m effects new → (e : ℕ) (b : Embargo) → ¬ (IsLift e m) → map.get s.embargoes e ≡ Some b → GoesOn (map.get new.embargoes e) b

-- ---- A reference turns back under an embargo

-- The wire was resolved to something of this vat's own, whatever that has become since.
abbrev pub IsReceiverKind : Descriptor → Type 0
IsReceiverKind descriptor.None = ⊥
IsReceiverKind (descriptor.SenderHosted e) = ⊥
IsReceiverKind (descriptor.SenderPromise e) = ⊥
IsReceiverKind (descriptor.ReceiverHosted e) = Unit {0}
IsReceiverKind (descriptor.ReceiverAnswer q path) = Unit {0}

-- The Disembargos that are sent.
abbrev pub disembargos : List Message → List Disembargo
disembargos [] = []
disembargos (message.Plain (plain.Disembargo x) ∷ ms) = x ∷ disembargos ms
disembargos (m ∷ ms) = disembargos ms

-- A Disembargo goes to the wire, and now the embargo stands: the reference leads on, but calls through it will wait.
pub record TurnsBack (s : State) (r : RefId) (x : Reference) (n : Node) (effects : Effects) (new : State) : Type 0 where
  pub embargo : ℕ
  pub sent : Disembargo
  pub was_free : map.get s.embargoes embargo ≡ None
  pub stands : map.get new.embargoes embargo ≡ Some (record { reference = r; node = n; waiting = [] })
  pub waits : map.get new.refs r.0 ≡ Some (record { head = n; embargo = Some (record { 0 = embargo }); made = x.made })
  pub only_one : disembargos effects.sends ≡ sent ∷ []
  pub to_the_wire : wire_target (settle s x.head) ≡ Some sent.target
  pub carries : sent.context ≡ SenderLoopback (record { 0 = embargo })

-- A reference whose wire was resolved to something of this vat's own stays at a wire that it would come back to, or
-- turns back. It never just switches.
abbrev pub ReceiverKindsEmbargo : Type 0
ReceiverKindsEmbargo = (s : State) (r : RefId) (answer : Granted) (effects : Effects) (new : State) (x : Reference) (said : Descriptor) (n : Node) → Does s (command.Advance r) answer effects new → map.get s.refs r.0 ≡ Some x → x.embargo ≡ None → known_of_wire s (settle s x.head) ≡ Leads said n → IsReceiverKind said → ((answer ≡ granted.Advanced advanced.Nothing) × (settle s n ≡ settle s x.head)) ⊎ ((answer ≡ granted.Advanced advanced.Embargoed) × TurnsBack s r x n effects new)

-- ---- Calls wait in an embargo

-- A call through a reference under an embargo goes nowhere: it waits behind those that wait there.
abbrev pub CallsWait : Type 0
CallsWait = (s : State) (c : CallCommand) (answer : Granted) (effects : Effects) (new : State) (x : Reference) (e : EmbargoId) (b : Embargo) → Does s (command.Call c) answer effects new → map.get s.refs c.reference.0 ≡ Some x → x.embargo ≡ Some e → map.get s.embargoes e.0 ≡ Some b → (called effects.sends ≡ []) × (effects.deliveries ≡ []) × ((o : ℕ) × (map.get new.embargoes e.0 ≡ Some (record b { waiting = b.waiting ++ record { request = request s c x; outcome = o } ∷ [] })))
