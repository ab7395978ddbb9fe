-- The numbers of faults, whichever crate has them (docs/numbers.md).
use Rattle.std.specs.Prelude.{ℕ}
use Rattle.capn_trees.specs.Numbers.{number_of as encoding_number}
use Rattle.rpc_machine.specs.Numbers.{fault_number}
use Rattle.rpc_codec_parts.specs.Numbers.{number_of as envelope_number}
use Rattle.peer_tail_calls.specs.Numbers.{number_of as tail_number}
use Rattle.peer_overload.specs.Numbers.{number_of as overload_number}
use Rattle.program_faults.specs.declared.numbered.NumberedFault.{NumberedFault}
use Rattle.program_faults.specs.declared.numbered.NumberedFault.TheVariants as fault

abbrev pub number_of : NumberedFault → ℕ
number_of (fault.Encoding f) = encoding_number f
number_of (fault.Machine f) = fault_number f
number_of (fault.Envelope f) = envelope_number f
number_of (fault.TailCall f) = tail_number f
number_of (fault.Overload f) = overload_number f
