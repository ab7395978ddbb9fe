-- The numbers of the faults of envelopes: docs/messages.md.
use Rattle.std.specs.Prelude.{ℕ}
use Rattle.capn_trees.specs.Numbers.{number_of as encoding_number}
use Rattle.rpc_codec_parts.specs.declared.faults.EnvelopeFault.{EnvelopeFault}
use Rattle.rpc_codec_parts.specs.declared.faults.EnvelopeFault.TheVariants.{Encoding, WrongKind, BadText, TooManyDescriptors, NestedUnimplemented, BadContent, UnknownReturn}

abbrev pub number_of : EnvelopeFault → ℕ
number_of (Encoding f) = encoding_number f
number_of WrongKind = 60
number_of BadText = 61
number_of TooManyDescriptors = 62
number_of NestedUnimplemented = 63
number_of BadContent = 64
number_of UnknownReturn = 65
