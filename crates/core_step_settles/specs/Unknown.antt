-- The outcomes that are not known yet.
use Rattle.std.specs.Prelude.{ℕ, Option, None, Some}
use Rattle.finite_maps.specs.Tally.{Map, tally}
use Rattle.rpc_machine.specs.declared.calls.KeptOutcome.{KeptOutcome}
use Rattle.rpc_machine.specs.declared.calls.Value.{Value}

abbrev pub unknown_by : Option Value → ℕ
unknown_by None = 1
unknown_by (Some v) = 0

-- How many outcomes are not known yet.
abbrev pub unknown : Map KeptOutcome → ℕ
unknown m = tally (λ (x : KeptOutcome). unknown_by x.value) m
