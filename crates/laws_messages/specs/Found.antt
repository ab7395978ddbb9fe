-- A message that names an export finds it (docs/protocol.md, "Sessions of ids").
use Rattle.std.specs.Prelude.{◌≡◌, Option, IsSome, List, [], ◌∷◌}
use Rattle.std.specs.FinMap as map
use Rattle.rpc_msg.specs.declared.ids.Vat.{Vat}
use Rattle.rpc_msg.specs.declared.ids.ObjectId.{ObjectId}
use Rattle.rpc_msg.specs.declared.parts.Descriptor.{Descriptor}
use Rattle.rpc_msg.specs.declared.parts.Descriptor.TheVariants as descriptor
use Rattle.rpc_msg.specs.declared.parts.Target.{Target}
use Rattle.rpc_msg.specs.declared.parts.Target.TheVariants.{ImportedCap, PromisedAnswer}
use Rattle.rpc_msg.specs.declared.message.PlainMessage.{PlainMessage}
use Rattle.rpc_msg.specs.declared.message.PlainMessage.TheVariants as plain
use Rattle.rpc_msg.specs.declared.message.Message.{Message}
use Rattle.rpc_msg.specs.declared.message.Message.TheVariants as message
use Rattle.rpc_msg.specs.Messages.{descriptors_of_body, descriptors_of_resolved}
use Rattle.rpc_machine.specs.State.{State}
use Rattle.rpc_machine.specs.World.{World, new_world, core, inbox}
use Rattle.laws_runs.specs.Between.{Steady}
use Rattle.laws_runs.specs.SceneSessions.{InScenes}

abbrev pub FindsTarget : State → Target → Type 0
FindsTarget s (ImportedCap e) = IsSome (map.get s.exports e.0)
FindsTarget s (PromisedAnswer q path) = Unit {0}

abbrev pub FindsEach : State → List Descriptor → Type 0
FindsEach s [] = Unit {0}
FindsEach s (descriptor.None ∷ ds) = FindsEach s ds
FindsEach s (descriptor.SenderHosted e ∷ ds) = FindsEach s ds
FindsEach s (descriptor.SenderPromise e ∷ ds) = FindsEach s ds
FindsEach s (descriptor.ReceiverHosted e ∷ ds) = IsSome (map.get s.exports e.0) × FindsEach s ds
FindsEach s (descriptor.ReceiverAnswer q path ∷ ds) = FindsEach s ds

-- The exports that are its target, or that its descriptors name, are there.
abbrev pub FindsExports : State → PlainMessage → Type 0
FindsExports s (plain.Abort exception) = Unit {0}
FindsExports s (plain.Bootstrap q) = Unit {0}
FindsExports s (plain.Call c) = FindsTarget s c.target × FindsEach s c.descriptors
FindsExports s (plain.Return r) = FindsEach s (descriptors_of_body r.body)
FindsExports s (plain.Finish f) = Unit {0}
FindsExports s (plain.Resolve r) = FindsEach s (descriptors_of_resolved r.to)
FindsExports s (plain.Release r) = Unit {0}
FindsExports s (plain.Disembargo d) = FindsTarget s d.target
FindsExports s (plain.Other n) = Unit {0}

-- The oldest message on its way to either vat does.
abbrev pub OldestFind : World → Type 0
OldestFind w = (v : Vat) (m : Message) (ms : List Message) → inbox w v ≡ m ∷ ms → (p : PlainMessage) × (m ≡ message.Plain p) × FindsExports (core w v) p

pub record NamedExportsAreThere : Type 0 where
  pub steady : (root_a root_b : Option ObjectId) (w : World) → Steady w (new_world root_a root_b) → OldestFind w
  pub scenes : InScenes OldestFind
