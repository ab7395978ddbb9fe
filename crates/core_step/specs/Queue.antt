-- Outcomes that wait to be settled.
use Rattle.std.specs.Prelude.{ℕ, List}
use Rattle.rpc_machine.specs.declared.calls.Value.{Value}

-- Each with its key, the first that arose in front; and how many more fit without memory.
abbrev pub Queue : Type 0
Queue = List (ℕ × Value) × ℕ
