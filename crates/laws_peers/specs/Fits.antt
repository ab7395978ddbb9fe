-- What a peer names is heard without a fault of kinds, until a Resolve of it came (docs/messages.md, "Peers of other make").
use Rattle.std.specs.Prelude.{◌≡◌, false, List, [], ◌∷◌}
use Rattle.std.specs.FinMap as map
use Rattle.rpc_msg.specs.declared.parts.Descriptor.{Descriptor}
use Rattle.rpc_msg.specs.declared.parts.Descriptor.TheVariants as descriptor
use Rattle.rpc_msg.specs.declared.message.PlainMessage.{PlainMessage}
use Rattle.rpc_msg.specs.declared.message.PlainMessage.TheVariants as plain
use Rattle.rpc_msg.specs.declared.message.Message.TheVariants as message
use Rattle.rpc_msg.specs.Messages.{descriptors_of_plain}
use Rattle.rpc_codec.specs.Envelopes.{What, profile}
use Rattle.rpc_machine.specs.State.{State}
use Rattle.rpc_machine.specs.Faults.{is_hosted, is_resolved}
use Rattle.laws_messages.specs.Oldest.{NoneClashes}
use Rattle.peer_kinds.specs.Kinds.{comes}
use Rattle.peer_kinds.specs.Laws.{IfHeard}
use Rattle.peer_kinds.specs.Standings.{standings_in}

-- Each sender descriptor is of an export that is no import, or of an import of which no Resolve came.
abbrev pub AreOpen : State → List Descriptor → Type 0
AreOpen s [] = Unit {0}
AreOpen s (descriptor.None ∷ ds) = AreOpen s ds
AreOpen s (descriptor.SenderHosted e ∷ ds) = (is_resolved (map.get s.imports e.0) ≡ false) × AreOpen s ds
AreOpen s (descriptor.SenderPromise e ∷ ds) = (is_resolved (map.get s.imports e.0) ≡ false) × AreOpen s ds
AreOpen s (descriptor.ReceiverHosted e ∷ ds) = AreOpen s ds
AreOpen s (descriptor.ReceiverAnswer q path ∷ ds) = AreOpen s ds

-- If it is a Resolve of an import, that is a promise, unless a Resolve of it came before.
abbrev pub ResolvesPromise : State → PlainMessage → Type 0
ResolvesPromise s (plain.Resolve r) = is_resolved (map.get s.imports r.promise.0) ≡ false → is_hosted (map.get s.imports r.promise.0) ≡ false
ResolvesPromise s p = Unit {0}

pub record Fits (s : State) (p : PlainMessage) : Type 0 where
  pub names : AreOpen s (descriptors_of_plain p) → NoneClashes s [] (descriptors_of_plain p)
  pub resolves : ResolvesPromise s p

abbrev pub FitsAs : State → What → Type 0
FitsAs s (profile (message.Plain p)) = Fits s p
FitsAs s w = Unit {0}

-- A vat in any state, and any envelope.
abbrev pub HeardFits : Type 0
HeardFits = (s : State) (w : What) → IfHeard (comes (standings_in s) w) (FitsAs s)
