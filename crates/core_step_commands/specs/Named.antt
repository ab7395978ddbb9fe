-- Descriptors that stand for something.
use Rattle.rpc_msg.specs.declared.parts.Descriptor.{Descriptor}
use Rattle.rpc_msg.specs.declared.parts.Descriptor.TheVariants as descriptor

-- It is not that of no capability.
abbrev pub IsNamed : Descriptor → Type 0
IsNamed descriptor.None = ⊥
IsNamed (descriptor.SenderHosted e) = Unit {0}
IsNamed (descriptor.SenderPromise e) = Unit {0}
IsNamed (descriptor.ReceiverHosted e) = Unit {0}
IsNamed (descriptor.ReceiverAnswer q path) = Unit {0}
