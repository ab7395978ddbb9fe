-- The numbers of an adapter's faults (docs/messages.md).
use Rattle.std.specs.Prelude.{ℕ}
use Rattle.peer_tail_calls.specs.declared.errors.AdapterFault.{AdapterFault}
use Rattle.peer_tail_calls.specs.declared.errors.AdapterFault.TheVariants as fault

abbrev pub number_of : AdapterFault → ℕ
number_of fault.NothingToTake = 66
number_of fault.NoTailCall = 67
