-- Who made the calls that tasks are (docs/protocol.md, "Questions to a core").
use Rattle.std.specs.Prelude.{ℕ, Option, None, Some}
use Rattle.std.specs.FinMap as map
use Rattle.rpc_msg.specs.declared.ids.TaskId.{TaskId}
use Rattle.rpc_machine.specs.declared.calls.Caller.{Caller}
use Rattle.rpc_machine.specs.declared.calls.KeptOutcome.{KeptOutcome}
use Rattle.rpc_machine.specs.State.{State}

abbrev pub caller_in : Option KeptOutcome → Option Caller
caller_in None = None
caller_in (Some x) = Some x.caller

abbrev pub caller_at : State → Option ℕ → Option Caller
caller_at s None = None
caller_at s (Some o) = caller_in (map.get s.outcomes o)

-- who is told of the outcome of a task that is not answered yet
abbrev pub task_caller : State → TaskId → Option Caller
task_caller s t = caller_at s (map.get s.tasks t.0)
