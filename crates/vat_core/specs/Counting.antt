-- What is counted of a core's tables.
use Rattle.std.specs.Prelude.{ℕ, Option, None, Some}
use Rattle.rpc_machine.specs.declared.entries.Reference.{Reference}

-- How many calls were made through a reference, if it is there.
abbrev pub made_of : Option Reference → Option ℕ
made_of None = None
made_of (Some x) = Some x.made
