-- What becomes of the calls that wait for an outcome.
use Rattle.std.specs.Prelude.{ℕ, Option, List}
use Rattle.rpc_machine.specs.declared.calls.HeldCall.{HeldCall}
use Rattle.rpc_machine.specs.declared.calls.KeptOutcome.{KeptOutcome}
use Rattle.rpc_machine.specs.State.{State}
use Rattle.rpc_machine.specs.Progress.{Progress, with_state}
use Rattle.rpc_machine.specs.Routing.{RoutesHeld}
use Rattle.core_store_waits.specs.Changes.{TakesHeld}

-- They are taken out, and routed in order.
abbrev pub RoutesWaiting : Progress → ℕ → Option KeptOutcome → Progress → Type 0
RoutesWaiting d o e new = (taken : State) × (held : List HeldCall) × TakesHeld d.state o e taken held × RoutesHeld (with_state d taken) o held new
