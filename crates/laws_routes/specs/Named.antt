-- What is known, and what messages on their way say, names.
use Rattle.std.specs.Prelude.{◌≡◌, ℕ, Bool, true, false, IsSome, List, [], ◌∷◌}
use Rattle.std.specs.FinMap as map
use Rattle.rpc_msg.specs.Op.{Op}
use Rattle.finite_maps.specs.Tally.{Map}
use Rattle.rpc_msg.specs.declared.parts.Descriptor.{Descriptor}
use Rattle.rpc_msg.specs.declared.parts.Descriptor.TheVariants as descriptor
use Rattle.rpc_msg.specs.declared.message.PlainMessage.{PlainMessage}
use Rattle.rpc_msg.specs.declared.message.PlainMessage.TheVariants as plain
use Rattle.rpc_msg.specs.declared.message.Message.{Message}
use Rattle.rpc_msg.specs.declared.message.Message.TheVariants as message
use Rattle.rpc_msg.specs.Messages.{descriptors_of}
use Rattle.rpc_machine.specs.declared.node.Node.{Node}
use Rattle.rpc_machine.specs.declared.entries.Export.{Export}
use Rattle.rpc_machine.specs.State.{State}
use Rattle.rpc_machine.specs.Advancing.{Leads, known_by_resolve, known_by_return, resolution_of, returned_of}
use Rattle.laws_routes.specs.Sayings.{Has, has_behind, has_of}

-- Nothing that is known leads to such a node.
abbrev pub NoneLeads : State → (Node → Bool) → Type 0
NoneLeads s test =
    ((e : ℕ) (said : Descriptor) (to : Node) → known_by_resolve (resolution_of (map.get s.imports e)) ≡ Leads said to → test to ≡ false)
    × ((q : ℕ) (path : List Op) (said : Descriptor) (to : Node) → known_by_return path (returned_of (map.get s.questions q)) ≡ Leads said to → test to ≡ false)

-- ---- On the way

abbrev pub NamesMet : Map Export → Map Export → Descriptor → Type 0
NamesMet E F descriptor.None = Unit {0}
NamesMet E F (descriptor.SenderHosted e) = IsSome (map.get E e.0)
NamesMet E F (descriptor.SenderPromise e) = IsSome (map.get E e.0)
NamesMet E F (descriptor.ReceiverHosted e) = IsSome (map.get F e.0)
NamesMet E F (descriptor.ReceiverAnswer q path) = Unit {0}

abbrev pub EachMet : Map Export → Map Export → List Descriptor → Type 0
EachMet E F [] = Unit {0}
EachMet E F (d ∷ ds) = NamesMet E F d × EachMet E F ds

abbrev pub ResolveMet : Map Export → Has → PlainMessage → Type 0
ResolveMet E has (plain.Abort exception) = Unit {0}
ResolveMet E has (plain.Bootstrap q) = Unit {0}
ResolveMet E has (plain.Call c) = Unit {0}
ResolveMet E has (plain.Return r) = Unit {0}
ResolveMet E has (plain.Finish x) = Unit {0}
ResolveMet E has (plain.Resolve r) = has.import r.promise.0 ≡ true → IsSome (map.get E r.promise.0)
ResolveMet E has (plain.Release r) = Unit {0}
ResolveMet E has (plain.Disembargo x) = Unit {0}
ResolveMet E has (plain.Other n) = Unit {0}

-- The exports that are named on the way are there, of either vat.
abbrev pub AllMet : Map Export → Map Export → Has → List Message → Type 0
AllMet E F has [] = Unit {0}
AllMet E F has (message.Plain m ∷ ms) = EachMet E F (descriptors_of (message.Plain m)) × ResolveMet E has m × AllMet E F (has_behind has (descriptors_of (message.Plain m))) ms
AllMet E F has (message.Unimplemented m ∷ ms) = AllMet E F has ms

-- So are those of two vats, with these messages on their way to each other.
abbrev pub LinksMet : State → State → List Message → List Message → Type 0
LinksMet s t out back = AllMet s.exports t.exports (has_of [] t.imports t.questions) out × AllMet t.exports s.exports (has_of [] s.imports s.questions) back

abbrev pub ReturnOf : (ℕ → Type 0) → PlainMessage → Type 0
ReturnOf P (plain.Abort exception) = Unit {0}
ReturnOf P (plain.Bootstrap q) = Unit {0}
ReturnOf P (plain.Call c) = Unit {0}
ReturnOf P (plain.Return r) = P r.answer.0
ReturnOf P (plain.Finish x) = Unit {0}
ReturnOf P (plain.Resolve r) = Unit {0}
ReturnOf P (plain.Release r) = Unit {0}
ReturnOf P (plain.Disembargo x) = Unit {0}
ReturnOf P (plain.Other n) = Unit {0}

-- Of the question id of each Return.
abbrev pub EachReturn : (ℕ → Type 0) → List Message → Type 0
EachReturn P [] = Unit {0}
EachReturn P (message.Plain m ∷ ms) = ReturnOf P m × EachReturn P ms
EachReturn P (message.Unimplemented m ∷ ms) = EachReturn P ms

-- The exports that descriptors name on the way are there, of either vat.
abbrev pub AllNamed : Map Export → Map Export → List Message → Type 0
AllNamed E F [] = Unit {0}
AllNamed E F (message.Plain m ∷ ms) = EachMet E F (descriptors_of (message.Plain m)) × AllNamed E F ms
AllNamed E F (message.Unimplemented m ∷ ms) = AllNamed E F ms
