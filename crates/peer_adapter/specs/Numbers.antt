-- The numbers of an adapter's faults (docs/messages.md).
use Rattle.std.specs.Prelude.{ℕ}
use Rattle.peer_overload.specs.Numbers.{number_of as number_of_overload}
use Rattle.peer_tail_calls.specs.Numbers.{number_of as number_of_tail}
use Rattle.peer_adapter.specs.declared.errors.PeerFault.{PeerFault}
use Rattle.peer_adapter.specs.declared.errors.PeerFault.TheVariants as fault

abbrev pub number_of : PeerFault → ℕ
number_of (fault.Overload f) = number_of_overload f
number_of (fault.Tail f) = number_of_tail f
