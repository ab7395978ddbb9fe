-- The status with which the program ends (docs/looking.md).
use Rattle.std.specs.Prelude.{ℕ, Bool, true, false, Result, Ok, Err}
use Rattle.look_pieces.specs.declared.fault.LogError.{LogError}
use Rattle.look_pieces.specs.declared.fault.LogError.TheVariants as error
use Rattle.rpc_look_lib.specs.declared.failure.Failure.{Failure}
use Rattle.rpc_look_lib.specs.declared.failure.Failure.TheVariants as failure

-- 0 where nothing breaks the protocol, 1 where something does, and 2 for a failure
abbrev pub status_of : Result Bool Failure → ℕ
status_of (Ok false) = 0
status_of (Ok true) = 1
status_of (Err why) = 2

-- why lines can't be read any further
abbrev pub of_log : LogError → Failure
of_log error.Memory = failure.Memory
of_log (error.Fault f) = failure.NoLog f
