-- How a conversation ends.
use Rattle.std.specs.Prelude.{◌≡◌, None, Some, not}
use Rattle.rpc_machine.specs.Queries.{has_no_tables}
use Rattle.vat_connection.specs.Connecting.{Connected, down}
use Rattle.vat_call_lib.specs.declared.end.Ending.{Ending}
use Rattle.vat_call_lib.specs.declared.end.Ending.TheVariants as ending

-- All is done, and the vat is up: is anything left between it and its peer? Or it is down.
abbrev pub IsEnding : Connected → Ending → Type 0
IsEnding c (ending.Done left) = (down c ≡ None) × (left ≡ not (has_no_tables c.speaker.host.core))
IsEnding c (ending.Down number) = down c ≡ Some number
