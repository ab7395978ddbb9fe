-- A vat delivers nothing once it is down (docs/protocol.md, "What is promised").
use Rattle.rpc_machine.specs.Claims.{IsQuietWhenDown, EveryRun}

abbrev pub EveryRunIsQuiet : Type 0
EveryRunIsQuiet = EveryRun (λ h xs w. IsQuietWhenDown h.journal)
