-- What a message says of the receiver's imports fits what is kept of them (docs/protocol.md, "Checks of received messages";
-- rpc.capnp, Resolve and CapDescriptor).
use Rattle.std.specs.Prelude.{◌≡◌, false, Option, List, [], ◌∷◌}
use Rattle.std.specs.FinMap as map
use Rattle.rpc_msg.specs.declared.ids.Vat.{Vat}
use Rattle.rpc_msg.specs.declared.ids.ObjectId.{ObjectId}
use Rattle.rpc_msg.specs.declared.parts.Descriptor.{Descriptor}
use Rattle.rpc_msg.specs.declared.parts.Descriptor.TheVariants as descriptor
use Rattle.rpc_msg.specs.declared.message.PlainMessage.{PlainMessage}
use Rattle.rpc_msg.specs.declared.message.PlainMessage.TheVariants as plain
use Rattle.rpc_msg.specs.declared.message.Message.{Message}
use Rattle.rpc_msg.specs.declared.message.Message.TheVariants as message
use Rattle.rpc_msg.specs.Messages.{descriptors_of_plain}
use Rattle.rpc_machine.specs.declared.entries.SenderKind.TheVariants as kind
use Rattle.rpc_machine.specs.State.{State}
use Rattle.rpc_machine.specs.Faults.{kind_clashes, is_hosted, is_resolved}
use Rattle.rpc_machine.specs.World.{World, new_world, core, inbox}
use Rattle.laws_runs.specs.Between.{Steady}
use Rattle.laws_runs.specs.SceneSessions.{InScenes}

-- The import of a Resolve, if it is there, is a promise's that was not resolved.
abbrev pub IsFirstResolve : State → PlainMessage → Type 0
IsFirstResolve s (plain.Abort exception) = Unit {0}
IsFirstResolve s (plain.Bootstrap q) = Unit {0}
IsFirstResolve s (plain.Call c) = Unit {0}
IsFirstResolve s (plain.Return r) = Unit {0}
IsFirstResolve s (plain.Finish f) = Unit {0}
IsFirstResolve s (plain.Resolve r) = (is_hosted (map.get s.imports r.promise.0) ≡ false) × (is_resolved (map.get s.imports r.promise.0) ≡ false)
IsFirstResolve s (plain.Release r) = Unit {0}
IsFirstResolve s (plain.Disembargo d) = Unit {0}
IsFirstResolve s (plain.Other n) = Unit {0}

-- Each sender descriptor, behind those before it in its message, is of the kind of its import, which was not resolved.
abbrev pub NoneClashes : State → List Descriptor → List Descriptor → Type 0
NoneClashes s before [] = Unit {0}
NoneClashes s before (descriptor.None ∷ ds) = NoneClashes s (descriptor.None ∷ before) ds
NoneClashes s before (descriptor.SenderHosted e ∷ ds) = (kind_clashes kind.Hosted e.0 before (map.get s.imports e.0) ≡ false) × NoneClashes s (descriptor.SenderHosted e ∷ before) ds
NoneClashes s before (descriptor.SenderPromise e ∷ ds) = (kind_clashes kind.Promise e.0 before (map.get s.imports e.0) ≡ false) × NoneClashes s (descriptor.SenderPromise e ∷ before) ds
NoneClashes s before (descriptor.ReceiverHosted e ∷ ds) = NoneClashes s (descriptor.ReceiverHosted e ∷ before) ds
NoneClashes s before (descriptor.ReceiverAnswer q path ∷ ds) = NoneClashes s (descriptor.ReceiverAnswer q path ∷ before) ds

-- Both are so of the oldest message on its way to either vat.
abbrev pub OldestFit : World → Type 0
OldestFit w = (v : Vat) (m : Message) (ms : List Message) → inbox w v ≡ m ∷ ms → (p : PlainMessage) × (m ≡ message.Plain p) × IsFirstResolve (core w v) p × NoneClashes (core w v) [] (descriptors_of_plain p)

pub record ExportsResolveOnce : Type 0 where
  pub steady : (root_a root_b : Option ObjectId) (w : World) → Steady w (new_world root_a root_b) → OldestFit w
  pub scenes : InScenes OldestFit
